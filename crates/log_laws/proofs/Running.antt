-- What the walk with a counter writes is what stands along the free way.
use Rattle.std.proofs.Common.{◌≡◌, ℕ, suc, ◌+◌, List, ◌∷◌, ◌++◌, length, sym, ap, ◌∙◌, arith, append_assoc}
use Rattle.tile_model.specs.Relation.{Change}
use Rattle.tree_model.specs.Contours.{Mark, FreeWay, stay, tree, nested, AreMatched}
use Rattle.tree_laws.proofs.Ways.{size}
use Rattle.log_laws.specs.Logs.{Words, inserted, deleted, way_log, match_log, logged_at, logged}

module _ (P : Type 0) (left hop : P → P) (mark : P → Mark) (words : Words P) where
  abbrev run : ℕ → P → ℕ → List Change
  run = logged P left hop mark words

  abbrev at : P → (P → ℕ → List Change) → Mark → ℕ → List Change
  at = logged_at P left hop mark words

  abbrev W : P → P → Type 0
  W = FreeWay P left hop mark

  abbrev S : {x w : P} → W x w → ℕ
  S = size P left hop mark

  abbrev log : {x w : P} → W x w → List Change
  log = way_log P left hop mark words

  -- along a free way, and then on
  pub logged_way : {x w : P} (a : W x w) (f c : ℕ) → run (S a + f) x (suc c) ≡ log a ++ run f w (suc c)
  logged_way {x} {w} (stay e) f c =
      let n : 0 + f ≡ f = omega arith in
      ap (λ m. run m x (suc c)) n ∙ ap (λ p. run f p (suc c)) e
  logged_way {x} {w} (tree t r) f c =
      let q = left x in
      let n : suc (S r) + f ≡ suc (S r + f) = omega arith in
      let here = ap (λ k. words.turn x ++ at q (run (S r + f)) k (suc c)) t in
      let on = ap (λ l. words.turn x ++ (words.across q ++ l)) (logged_way r f c) in
      ap (λ m. run m x (suc c)) n ∙ here ∙ on ∙ ap (λ l. words.turn x ++ l) (sym (append_assoc (words.across q) (log r) (run f w (suc c)))) ∙ sym (append_assoc (words.turn x) (words.across q ++ log r) (run f w (suc c)))
  logged_way {x} {w} (nested v o a k b) f c =
      let q = left x in
      let y = left v in
      let rest = run f w (suc c) in
      let n : (2 + S a + S b) + f ≡ suc (S a + suc (S b + f)) = omega arith in
      let here = ap (λ m. words.turn x ++ at q (run (S a + suc (S b + f))) m (suc c)) o in
      let inner = logged_way a (suc (S b + f)) (suc c) in
      let shut = ap (λ m. words.turn v ++ at y (run (S b + f)) m (suc (suc c))) k in
      let outer = logged_way b f c in
      let tail : run (suc (S b + f)) v (suc (suc c)) ≡ words.turn v ++ (deleted (length (words.word y)) 1 ∷ (log b ++ rest)) = shut ∙ ap (λ l. words.turn v ++ (deleted (length (words.word y)) 1 ∷ l)) outer in
      let whole : run (S a + suc (S b + f)) q (suc (suc c)) ≡ (log a ++ (words.turn v ++ (deleted (length (words.word y)) 1 ∷ log b))) ++ rest =
      inner ∙ ap (λ l. log a ++ l) tail ∙ ap (λ l. log a ++ l) (sym (append_assoc (words.turn v) (deleted (length (words.word y)) 1 ∷ log b) rest)) ∙ sym (append_assoc (log a) (words.turn v ++ (deleted (length (words.word y)) 1 ∷ log b)) rest) in
      ap (λ m. run m x (suc c)) n ∙ here ∙ ap (λ l. words.turn x ++ (inserted (length (words.word q)) 5 ∷ l)) whole ∙ sym (append_assoc (words.turn x) (inserted (length (words.word q)) 5 ∷ (log a ++ (words.turn v ++ (deleted (length (words.word y)) 1 ∷ log b)))) rest)

  -- from an opening side to the one that is matched with it
  pub logged_match : {x y : P} (m : AreMatched P left hop mark x y) (f : ℕ) → inserted (length (words.word x)) 5 ∷ run (S m.way + suc f) x 1 ≡ match_log P left hop mark words m
  logged_match {x} {y} m f =
      let v = m.last in
      let k = ap mark m.turned ∙ m.closes in
      let end = ap (λ n. words.turn v ++ at (left v) (run f) n 1) k in
      ap (λ l. inserted (length (words.word x)) 5 ∷ l) (logged_way m.way (suc f) 0 ∙ ap (λ l. log m.way ++ l) end)
