-- Options by their first two words.
use Rattle.std.proofs.Common.{◌≡◌, ℕ, ◌-◌, ◌<◌, ◌≤◌, List, [], ◌∷◌, map, take, drop, length, get_or, None, refl, sym, subst, arith}
use Rattle.std.proofs.lemmas.List.{take_all}
use Rattle.call_words.specs.Options.{value_of, IsNew, AreOptions}

-- words are options where those that are left are
pub record Same (one other : List ℕ) (rest words : List (List ℕ)) : Type 0 where
  pub there : AreOptions one other rest → AreOptions one other words
  pub back : AreOptions one other words → AreOptions one other rest

-- fewer than two words have no value
pub few_none : {S : Type 0} (f : S → List ℕ) (name : List ℕ) (ws : List S) → length ws < 2 → None ≡ value_of name (map f ws)
few_none f name [] few = refl
few_none f name (v ∷ []) few = refl
few_none f name (v ∷ w ∷ ws) few = absurd (omega arith)

module _ {S : Type 0} (f : S → List ℕ) (one other : List ℕ) where
  -- the first name is one of the two and new, or the words are no options
  pub refused : (ws : List S) (a : S) → 2 ≤ length ws → a ≡ get_or ws 0 a
      → (IsNew one other (f a) (map f (take (length ws - 2) (drop 2 ws))) → ⊥) → AreOptions one other (map f ws) → ⊥
  refused [] a least is known options = absurd (omega arith)
  refused (v ∷ []) a least is known options = absurd (omega arith)
  refused (v ∷ w ∷ ws) a least is known options =
      let whole : take (length (v ∷ w ∷ ws) - 2) ws ≡ ws = take_all (length (v ∷ w ∷ ws) - 2) ws (omega arith) in
      known (subst (λ (x : S). IsNew one other (f x) (map f (take (length (v ∷ w ∷ ws) - 2) ws))) (sym is)
      (subst (λ (l : List S). IsNew one other (f v) (map f l)) (sym whole) options.0))

  pub passed : (ws : List S) (a : S) → 2 ≤ length ws → a ≡ get_or ws 0 a
      → IsNew one other (f a) (map f (take (length ws - 2) (drop 2 ws))) → Same one other (map f (take (length ws - 2) (drop 2 ws))) (map f ws)
  passed [] a least is known = absurd (omega arith)
  passed (v ∷ []) a least is known = absurd (omega arith)
  passed (v ∷ w ∷ ws) a least is known =
      let whole : take (length (v ∷ w ∷ ws) - 2) ws ≡ ws = take_all (length (v ∷ w ∷ ws) - 2) ws (omega arith) in
      let first : IsNew one other (f v) (map f ws) =
      subst (λ (l : List S). IsNew one other (f v) (map f l)) whole
      (subst (λ (x : S). IsNew one other (f x) (map f (take (length (v ∷ w ∷ ws) - 2) ws))) is known) in
      record {
        there = λ options. (first, subst (λ (l : List S). AreOptions one other (map f l)) whole options);
        back = λ options. subst (λ (l : List S). AreOptions one other (map f l)) (sym whole) options.1;
      }

  pub empty_options : (ws : List S) → ws ≡ [] → AreOptions one other (map f ws)
  empty_options ws is = subst (λ (l : List S). AreOptions one other (map f l)) (sym is) tt

  pub single_refused : (ws : List S) → length ws < 2 → (ws ≡ [] → ⊥) → AreOptions one other (map f ws) → ⊥
  single_refused [] few some options = some refl
  single_refused (v ∷ []) few some options = options
  single_refused (v ∷ w ∷ ws) few some options = absurd (omega arith)

-- what holds of the words that are left holds of all
pub same_on : {one other : List ℕ} {a b c : List (List ℕ)} → Same one other a b → Same one other b c → Same one other a c
same_on one two = record { there = λ options. two.there (one.there options); back = λ options. one.back (two.back options) }
