use Rattle.std.proofs.Common.{◌≡◌, List, ℕ, ◌<◌, ◌∷◌, length, ◌∙◌, ap, sym, arith}
use Rattle.tess_text.specs.FileLines.{content, words}
use Rattle.tess_text.specs.Grammar.{entry, entries}
use Rattle.tess_text.proofs.Reading.{read_blank, read_first_result, read_entry_result}
use Rattle.tess_text.proofs.read.Reader.read_line.Goals as goal

pub returns-in_default : goal.returns-in_default
returns-in_default c = λ before read.
    read_blank _ _ before (words (content c.args.line.now)) (ap (λ (l : List ℕ). words l) (sym c.content.ensures) ∙ c.in_default.ensures) read

pub returns-in_default-version : goal.returns-in_default-version
returns-in_default-version c = λ before read.
    let is : words (content c.args.line.now) ≡ c.in-Some.word.now ∷ words c.in-Some.fields.now = ap (λ (l : List ℕ). words l) (sym c.content.ensures) ∙ c.in-Some.ensures in
    let some : 0 < length (words (content c.args.line.now)) = omega (arith, ap (λ (l : List (List ℕ)). length l) is) in
    rw c.is_some.ensures (read_first_result _ _ before (words (content c.args.line.now)) (c.in-Some.word.now ∷ words c.in-Some.fields.now) c.read_head-self.result is some c.read_head-self.ensures c.in_default-version.is read)

pub returns-in-Some-read_entry : goal.returns-in-Some-read_entry
returns-in-Some-read_entry c = λ before read.
    let is : words (content c.args.line.now) ≡ c.in-Some.word.now ∷ words c.in-Some.fields.now = ap (λ (l : List ℕ). words l) (sym c.content.ensures) ∙ c.in-Some.ensures in
    let some : 0 < length (words (content c.args.line.now)) = omega (arith, ap (λ (l : List (List ℕ)). length l) is) in
    read_entry_result _ c.enter.new.self.tables before (words (content c.args.line.now)) c.in-Some-read_entry.entry c.in-Some-version.version _ c.enter.new.self.version c.enter.result some (ap (λ (l : List (List ℕ)). entry l) is ∙ sym c.read_entry.ensures ∙ c.in-Some-read_entry.is) c.in-Some-version.is c.enter.ensures.kept read (c.enter.ensures.entered (entries before) read.hold)
