-- A byte that is no letter's code is in no walk's text, and a text is that of the walk read alone.
use Rattle.std.proofs.Common.{sym, ◌∙◌}
use Rattle.std.proofs.lemmas.List.{take_all}
use Rattle.tile_model.proofs.WalkTexts.{one_walk}
use Rattle.walk_words.proofs.Codes.{no_walk, text_of_bytes}
use Rattle.walk_words.proofs.text.read_walk.Goals as goal

pub returns-in_default-clause-text : goal.returns-in_default-clause-text
returns-in_default-clause-text c = λ _. no_walk c.args.bytes.now c.loop-byte.byte-index c.loop-byte-test.true (λ is. let same = rw (is, c.as_slice.ensures) at c.eq.ensures in absurd (cc (same, c.if-eq.false))) c.in_default.ensures.none

pub returns-in_default-clause-complete : goal.returns-in_default-clause-complete
returns-in_default-clause-complete c = λ walk text. absurd (no_walk c.args.bytes.now c.loop-byte.byte-index c.loop-byte-test.true (λ is. let same = rw (is, c.as_slice.ensures) at c.eq.ensures in absurd (cc (same, c.if-eq.false))) c.in_default.ensures.none walk text)

pub returns-clause-complete : goal.returns-clause-complete
returns-clause-complete c = λ walk text.
    let codes = c.loop-byte.invariant ∙ take_all c.loop-byte.byte-index c.args.bytes.now c.loop-byte-test.false in
    one_walk c.loop-byte.walk walk (text_of_bytes c.loop-byte.walk c.args.bytes.now (sym c.is_empty.ensures ∙ c.if-is_empty.false) codes ∙ sym text)
