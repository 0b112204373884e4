-- Each line has one answer and each stream one output, and the answers to the first lines begin it.
use Rattle.std.proofs.Common.{◌≡◌, ◌≢◌, ℕ, ◌≤◌, List, [], ◌∷◌, ◌++◌, codes, length, get_or, drop, refl, sym, ap, ap₂, ◌∙◌, subst, arith}
use Rattle.std.specs.List.{All}
use Rattle.std.proofs.lemmas.List.{append_assoc, append-nil, length-append}
use Rattle.reply_model.specs.declared.Command.{Command}
use Rattle.reply_model.specs.declared.Command.TheVariants.{New, Go, At, Same, Level, Dist, Path}
use Rattle.reply_model.specs.declared.Command.TheVariants.{Put, Get, Ring, Count}
use Rattle.reply_model.specs.declared.Reply.{Reply}
use Rattle.reply_model.specs.Histories.{History}
use Rattle.command_text.specs.CommandLines.{spaced, IsSpelling}
use Rattle.command_text.specs.Laws.{LinesSpellOne}
use Rattle.line_server.specs.Lines.{LacksFeed, ended}
use Rattle.line_server.specs.Answering.{Answering}
use Rattle.line_server.specs.Outputs.{IsAnswered, too_long, empty, bad, replied, AreAnswered, none, next, IsLinesOutput, IsOutput, of_lines, of_all}
use Rattle.line_server.specs.Laws.{Begins, FrontsBegin, FrontsBeginWithinLimit}
use Rattle.line_server.proofs.Once.{cut_front, one_cut}

-- words that begin with a byte are some bytes
some_words : (b : ℕ) (word : List ℕ) (words : List (List ℕ)) → [] ≡ spaced ((b ∷ word) ∷ words) → ⊥
some_words b word [] e = absurd (cc)
some_words b word (other ∷ words) e = absurd (cc)

-- nothing spells a command
pub nothing_spelt : (c : Command) → IsSpelling [] c → ⊥
nothing_spelt (New w) s = some_words 110 (codes "ew") s.words s.text
nothing_spelt (Go w walk) s = some_words 103 (codes "o") s.words s.text
nothing_spelt (At w) s = some_words 97 (codes "t") s.words s.text
nothing_spelt (Same w v) s = some_words 115 (codes "ame") s.words s.text
nothing_spelt (Level w) s = some_words 108 (codes "evel") s.words s.text
nothing_spelt (Dist w v) s = some_words 100 (codes "ist") s.words s.text
nothing_spelt (Path w v) s = some_words 112 (codes "ath") s.words s.text
nothing_spelt (Put w text) s = some_words 112 (codes "ut") s.words s.text
nothing_spelt (Get w) s = some_words 103 (codes "et") s.words s.text
nothing_spelt (Ring d) s = some_words 114 (codes "ing") s.words s.text
nothing_spelt (Count d) s = some_words 99 (codes "ount") s.words s.text

-- bytes with a front and a longer one
longer_front : (short long rest more : List ℕ) → short ++ rest ≡ long ++ more → length short ≤ length long → (middle : List ℕ) × (long ≡ short ++ middle) × (rest ≡ middle ++ more)
longer_front [] long rest more e few = (long, refl, e)
longer_front (x ∷ short) [] rest more e few = absurd (omega (arith, few))
longer_front (x ∷ short) (y ∷ long) rest more e few =
    let head : x ≡ y = ap (λ (l : List ℕ). get_or l 0 0) e in
    let tail : short ++ rest ≡ long ++ more = ap (λ (l : List ℕ). drop 1 l) e in
    let then = longer_front short long rest more tail (omega (arith, few)) in
    (then.0, ap₂ (λ (b : ℕ) (l : List ℕ). b ∷ l) (sym head) then.1, then.2)

module _ (answering : Answering) (spelling : LinesSpellOne)
    (one : (history : History) (c : Command) (x y : Reply) → answering.IsDue history c x → answering.IsDue history c y → x ≡ y)
    (one_text : (x : Reply) (bytes others : List ℕ) → answering.HasText x bytes → answering.HasText x others → bytes ≡ others) where
  -- two answers that are one
  abbrev Alike : (a b : List ℕ) (h g : History) → Type 0
  Alike a b h g = (a ≡ b) × (h ≡ g)

  same_command : (history : History) (text : List ℕ) (c d : Command) (x y : Reply) (a b : List ℕ) → IsSpelling text c → IsSpelling text d → answering.IsDue history c x → answering.IsDue history d y → answering.HasText x a → answering.HasText y b → Alike a b (history ++ (c, x) ∷ []) (history ++ (d, y) ∷ [])
  same_command history text c d x y a b s t due e said also =
      let command : c ≡ d = spelling text c d s t in
      let reply : x ≡ y = one history d x y (subst (λ b. answering.IsDue history b x) command due) e in
      (one_text y a b (subst (λ z. answering.HasText z a) reply said) also, ap₂ (λ (b : Command) (z : Reply). history ++ (b, z) ∷ []) command reply)

  pub one_answer : {history : History} {line text a b : List ℕ} {after another : History} → IsAnswered answering history line text a after → IsAnswered answering history line text b another → Alike a b after another
  one_answer (too_long far) (too_long also) = (refl, refl)
  one_answer (too_long far) (empty short e) = absurd (omega (arith, far, short))
  one_answer (too_long far) (bad short some n) = absurd (omega (arith, far, short))
  one_answer (too_long far) (replied short c x a s due t) = absurd (omega (arith, far, short))
  one_answer (empty short e) (too_long far) = absurd (omega (arith, far, short))
  one_answer (empty short e) (empty also f) = (refl, refl)
  one_answer (empty short e) (bad also some n) = absurd (some e)
  one_answer (empty short e) (replied also c x a s due t) = absurd (nothing_spelt c (subst (λ t. IsSpelling t c) e s))
  one_answer (bad short some n) (too_long far) = absurd (omega (arith, far, short))
  one_answer (bad short some n) (empty also e) = absurd (some e)
  one_answer (bad short some n) (bad also more m) = (refl, refl)
  one_answer (bad short some n) (replied also c x a s due t) = absurd (n c s)
  one_answer (replied short c x a s due t) (too_long far) = absurd (omega (arith, far, short))
  one_answer (replied short c x a s due t) (empty also e) = absurd (nothing_spelt c (subst (λ t. IsSpelling t c) e s))
  one_answer (replied short c x a s due t) (bad also some n) = absurd (n c s)
  one_answer {history} {line} {text} (replied short c x a s due t) (replied also d y b r e u) = same_command history text c d x y a b s r due e t u

  pub one_output : {before after another : History} {lines : List (List ℕ)} {answers others : List ℕ} → AreAnswered answering before lines answers after → AreAnswered answering before lines others another → Alike answers others after another
  one_output (none history) (none _) = (refl, refl)
  one_output (next before between after line answer lines answers a rest) (next _ middle another _ reply _ others b more) =
      let first = one_answer a b in
      let then = one_output rest (subst (λ h. AreAnswered answering h lines others another) (sym first.1) more) in
      (ap₂ (λ (x y : List ℕ). x ++ y) first.0 then.0, then.1)

  -- the answers to lines, cut behind some of them
  pub record IsSplit (before : History) (front others : List (List ℕ)) (answers : List ℕ) (after : History) : Type 0 where
    pub between : History
    pub first : List ℕ
    pub second : List ℕ
    pub joined : answers ≡ first ++ second
    pub to_front : AreAnswered answering before front first between
    pub to_others : AreAnswered answering between others second after

  splits : (front others : List (List ℕ)) {before after : History} {answers : List ℕ} → AreAnswered answering before (front ++ others) answers after → IsSplit before front others answers after
  splits [] others {before} {after} {answers} a = record { between = before; first = []; second = answers; joined = refl; to_front = none before; to_others = a }
  splits (line ∷ front) others (next before between after _ answer _ answers a rest) =
      let then = splits front others rest in
      record {
        between = then.between;
        first = answer ++ then.first;
        second = then.second;
        joined = ap (λ l. answer ++ l) then.joined ∙ sym (append_assoc answer then.first then.second);
        to_front = next before between then.between line answer front then.first a then.to_front;
        to_others = then.to_others;
      }

  pub outputs_are_one : (before : History) (bytes out other : List ℕ) (after another : History) → IsOutput answering before bytes out after → IsOutput answering before bytes other another → (out ≡ other) × (after ≡ another)
  outputs_are_one before bytes out other after another o p =
      let cut = one_cut o.lines p.lines o.last p.last o.cut.whole p.cut.whole o.cut.open_end p.cut.open_end (sym o.cut.split ∙ p.cut.split) in
      let lines = one_output o.answers (subst (λ ls. AreAnswered answering before ls p.whole p.between) (sym cut.0) p.answers) in
      let last = one_answer o.answer (subst (λ h. IsAnswered answering h o.last o.last p.ending another) (sym lines.1) (subst (λ l. IsAnswered answering p.between l l p.ending another) (sym cut.1) p.answer)) in
      (o.joined ∙ ap₂ (λ (x y : List ℕ). x ++ y) lines.0 last.0 ∙ sym p.joined, last.1)

  -- the answers to the first lines begin the answers to the lines of bytes that go on
  front_of_lines : (before : History) (front rest bytes out : List ℕ) (lines : List (List ℕ)) (end : List ℕ) (answers : List ℕ) (after middle : History) → bytes ≡ front ++ rest → (l : IsLinesOutput answering before front out middle) → bytes ≡ ended lines ++ end → All LacksFeed lines → LacksFeed end → AreAnswered answering before lines answers after → Begins answers out
  front_of_lines before front rest bytes out lines end answers after middle e l split whole open_end a =
      let all : bytes ≡ ended l.lines ++ (l.rest ++ rest) = e ∙ ap (λ b. b ++ rest) l.cut.split ∙ append_assoc (ended l.lines) l.rest rest in
      let cut = cut_front l.lines lines end (l.rest ++ rest) l.cut.whole whole open_end (sym all ∙ split) in
      let parts = splits l.lines cut.0 (subst (λ ls. AreAnswered answering before ls answers after) cut.1 a) in
      let same = one_output l.answers parts.to_front in
      record { rest = parts.second; all = parts.joined ∙ ap (λ b. b ++ parts.second) (sym same.0) }

  pub fronts_begin : FrontsBegin answering
  fronts_begin before bytes front out after (of_lines head rest _ middle e few l) o =
      let begun = front_of_lines before head rest bytes front o.lines o.last o.whole o.between middle e l o.cut.split o.cut.whole o.cut.open_end o.answers in
      record {
        rest = begun.rest ++ o.ending;
        all = o.joined ∙ ap (λ b. b ++ o.ending) begun.all ∙ append_assoc front begun.rest o.ending;
      }
  fronts_begin before bytes front out after (of_all _ end few p) o =
      record { rest = []; all = (outputs_are_one before bytes out front after end o p).0 ∙ sym (append-nil front) }

  some_length : (more : List ℕ) → more ≢ [] → 1 ≤ length more
  some_length [] some = absurd (some refl)
  some_length (x ∷ more) some = omega arith

  pub fronts_begin_within : FrontsBeginWithinLimit answering
  fronts_begin_within before bytes first more front out after e full some (of_lines head rest _ middle f few l) o =
      let on = longer_front head first rest more (sym f ∙ e) (omega (arith, few, full)) in
      front_of_lines before head on.0 first front o.lines o.rest out after middle on.1 l o.cut.split o.cut.whole o.cut.open_end o.answers
  fronts_begin_within before bytes first more front out after e full some (of_all _ end few p) o =
      let size = ap length e ∙ length-append first more in
      let far = some_length more some in
      absurd (omega (arith, size, full, far, few))
