-- What one move of the walk with a counter writes, and what is left to write behind it.
use Rattle.std.proofs.Common.{◌≡◌, ℕ, zero, suc, ◌+◌, ◌-◌, ◌≤◌, ◌<◌, true, false, nat_eq, List, [], ◌∷◌, ◌++◌, length, refl, sym, ap, ap₂, ◌∙◌, arith, append_assoc, append-nil}
use Rattle.tile_model.specs.Relation.{Change}
use Rattle.tree_model.specs.Contours.{Mark, Tree, Opens, Closes, AreMatched}
use Rattle.tree_laws.specs.Machine.{Halts, Moved}
use Rattle.tree_laws.proofs.Ways.{size, high}
use Rattle.tree_laws.proofs.Runs.{halts, tells}
use Rattle.log_laws.specs.Logs.{Words, inserted, deleted, match_log, logged_at, logged}
use Rattle.log_laws.proofs.Running.{logged_match}

more_is_not : (n m : ℕ) → n ≡ suc m → nat_eq n 0 ≡ false
more_is_not n m e = grind arith

module _ (P : Type 0) (left hop : P → P) (mark : P → Mark) (words : Words P) where
  abbrev run : ℕ → P → ℕ → List Change
  run = logged P left hop mark words

  abbrev at : P → (P → ℕ → List Change) → Mark → ℕ → List Change
  at = logged_at P left hop mark words

  -- from an opening side, whatever bound above the moves is given
  pub written_match : {x y z : P} (m : AreMatched P left hop mark x y) (most n : ℕ) → Halts P left hop mark most n x 1 z → (f : ℕ) → n < f → inserted (length (words.word x)) 5 ∷ run f x 1 ≡ match_log P left hop mark words m
  written_match {x} {y} {z} m most n r f h =
      let s = size P left hop mark m.way in
      let own = halts P left hop mark m (1 + high P left hop mark m.way) (omega arith) in
      let big = suc (n + s) in
      let e : n ≡ s = sym (tells P left hop mark r big (omega arith)) ∙ tells P left hop mark own big (omega arith) in
      let g : f ≡ s + suc (f - suc s) = omega (arith, h, e) in
      ap (λ k. inserted (length (words.word x)) 5 ∷ run k x 1) g ∙ logged_match P left hop mark words m (f - suc s)

  step_at : (z q : P) (f c e : ℕ) (k : Mark) → (first rest : List Change) → run (suc f) z c ≡ words.turn z ++ (first ++ rest) → run 1 z c ≡ words.turn z ++ (first ++ []) → run (suc f) z c ≡ run 1 z c ++ rest
  step_at z q f c e k first rest a b =
      a ∙ sym (append_assoc (words.turn z) first rest) ∙ ap (λ l. (words.turn z ++ l) ++ rest) (sym (append-nil first)) ∙ ap (λ l. l ++ rest) (sym b)

  -- a move that is not the last
  pub move_on : (z q : P) (c e f : ℕ) → 1 ≤ e → Moved P left hop mark z c false q e → run (suc f) z c ≡ run 1 z c ++ run f q e
  move_on z q c e f some v = go (mark (left z)) refl
    where
      go : (k : Mark) → mark (left z) ≡ k → run (suc f) z c ≡ run 1 z c ++ run f q e
      go Tree k =
          let h = v.hopped k in
          let here = ap (λ m. words.turn z ++ at (left z) (run f) m c) k in
          let one = ap (λ m. words.turn z ++ at (left z) (run 0) m c) k in
          let rest = ap₂ (λ p b. run f p b) (sym h.1) (sym h.2) in
          step_at z q f c e Tree (words.across (left z)) (run f q e) (here ∙ ap (λ l. words.turn z ++ (words.across (left z) ++ l)) rest) one
      go Opens k =
          let h = v.opened k in
          let here = ap (λ m. words.turn z ++ at (left z) (run f) m c) k in
          let one = ap (λ m. words.turn z ++ at (left z) (run 0) m c) k in
          let rest = ap₂ (λ p b. run f p b) (sym h.1) (sym h.2) in
          step_at z q f c e Opens (inserted (length (words.word (left z))) 5 ∷ []) (run f q e) (here ∙ ap (λ l. words.turn z ++ (inserted (length (words.word (left z))) 5 ∷ l)) rest) one
      go Closes k = shut e refl
        where
          shut : (b : ℕ) → e ≡ b → run (suc f) z c ≡ run 1 z c ++ run f q e
          shut zero i = absurd (omega (arith, some, i))
          shut (suc b) i =
              let h = v.closed k in
              let n : c ≡ suc (suc b) = omega (arith, h.2, i) in
              let here = ap₂ (λ m j. words.turn z ++ at (left z) (run f) m j) k n in
              let one = ap₂ (λ m j. words.turn z ++ at (left z) (run 0) m j) k n in
              let rest = ap₂ (λ p j. run f p j) (sym h.1) (sym i) in
              step_at z q f c e Closes (deleted (length (words.word (left z))) 1 ∷ []) (run f q e) (here ∙ ap (λ l. words.turn z ++ (deleted (length (words.word (left z))) 1 ∷ l)) rest) one

  -- the last one
  pub move_last : (z q : P) (c e f : ℕ) → Moved P left hop mark z c true q e → run (suc f) z c ≡ run 1 z c
  move_last z q c e f v = go (mark (left z)) refl
    where
      go : (k : Mark) → mark (left z) ≡ k → run (suc f) z c ≡ run 1 z c
      go Tree k = let h = (v.hopped k).0 in absurd (cc)
      go Opens k = let h = (v.opened k).0 in absurd (cc)
      go Closes k = shut e refl
        where
          shut : (b : ℕ) → e ≡ b → run (suc f) z c ≡ run 1 z c
          shut (suc b) i =
              let h = (v.closed k).0 in
              let g = more_is_not e b i in
              absurd (cc)
          shut zero i =
              let h = v.closed k in
              let n : c ≡ 1 = omega (arith, h.2, i) in
              ap₂ (λ m j. words.turn z ++ at (left z) (run f) m j) k n ∙ sym (ap₂ (λ m j. words.turn z ++ at (left z) (run 0) m j) k n)
