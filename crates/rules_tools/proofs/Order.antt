-- The order of paths: by length, and then as names are.
use Rattle.std.proofs.Common.{◌≡◌, ◌⊎◌, inl, inr, ℕ, ◌<◌, List, [], ◌∷◌, ◌++◌, length, refl, sym, ap, ◌∙◌, subst, arith}
use Rattle.std.proofs.lemmas.List.{length_push, length-append}
use Rattle.tree_model.specs.Names.{IsBefore, shorter, smaller, later}
use Rattle.tree_model.proofs.Rings.{before_itself}
use Rattle.merge_model.specs.Telling.{ComesFirst}
use Rattle.rules_tools.specs.Pairs.{AtMost}

-- the order of names, read off two lists
abbrev Precedes : List ℕ → List ℕ → Type 0
Precedes [] [] = ⊥
Precedes [] (j ∷ n) = Unit {0}
Precedes (i ∷ m) [] = ⊥
Precedes (i ∷ m) (j ∷ n) = (i < j) ⊎ ((i ≡ j) × Precedes m n)

precedes : {m n : List ℕ} → IsBefore m n → Precedes m n
precedes (shorter i name) = tt
precedes (smaller i j m n l) = inl l
precedes (later i m n b) = inr (refl, precedes b)

is_before : (m n : List ℕ) → Precedes m n → IsBefore m n
is_before [] [] h = absurd h
is_before [] (j ∷ n) h = shorter j n
is_before (i ∷ m) [] h = absurd h
is_before (i ∷ m) (j ∷ n) (inl l) = smaller i j m n l
is_before (i ∷ m) (j ∷ n) (inr (e, h)) = subst (λ k. IsBefore (i ∷ m) (k ∷ n)) e (later i m n (is_before m n h))

precede_on : (m n o : List ℕ) → Precedes m n → Precedes n o → Precedes m o
precede_on [] [] o h g = absurd h
precede_on [] (j ∷ n) [] h g = absurd g
precede_on [] (j ∷ n) (k ∷ o) h g = tt
precede_on (i ∷ m) [] o h g = absurd h
precede_on (i ∷ m) (j ∷ n) [] h g = absurd g
precede_on (i ∷ m) (j ∷ n) (k ∷ o) (inl l) (inl l') = inl (omega (arith, l, l'))
precede_on (i ∷ m) (j ∷ n) (k ∷ o) (inl l) (inr (e, g)) = inl (omega (arith, l, e))
precede_on (i ∷ m) (j ∷ n) (k ∷ o) (inr (e, h)) (inl l) = inl (omega (arith, l, e))
precede_on (i ∷ m) (j ∷ n) (k ∷ o) (inr (e, h)) (inr (e', g)) = inr (e ∙ e', precede_on m n o h g)

pushed : (m n : List ℕ) (x y : ℕ) → length m ≡ length n → Precedes m n → Precedes (m ++ x ∷ []) (n ++ y ∷ [])
pushed [] [] x y e h = absurd h
pushed [] (j ∷ n) x y e h = absurd (omega (arith, e))
pushed (i ∷ m) [] x y e h = absurd h
pushed (i ∷ m) (j ∷ n) x y e (inl l) = inl l
pushed (i ∷ m) (j ∷ n) x y e (inr (q, h)) = inr (q, pushed m n x y (omega (arith, e)) h)

pushed_less : (m : List ℕ) (x y : ℕ) → x < y → Precedes (m ++ x ∷ []) (m ++ y ∷ [])
pushed_less [] x y lt = inl lt
pushed_less (i ∷ m) x y lt = inr (refl, pushed_less m x y lt)

pub first_on : (p q r : List ℕ) → ComesFirst p q → ComesFirst q r → ComesFirst p r
first_on p q r (inl l) (inl l') = inl (omega (arith, l, l'))
first_on p q r (inl l) (inr (e, b)) = inl (omega (arith, l, e))
first_on p q r (inr (e, b)) (inl l) = inl (omega (arith, l, e))
first_on p q r (inr (e, b)) (inr (e', b')) = inr (e ∙ e', is_before p r (precede_on p q r (precedes b) (precedes b')))

pub first_itself : (p : List ℕ) → ComesFirst p p → ⊥
first_itself p (inl l) = absurd (omega (arith, l))
first_itself p (inr (e, b)) = before_itself p b

pub first_pushed : (p q : List ℕ) (x y : ℕ) → ComesFirst p q → ComesFirst (p ++ x ∷ []) (q ++ y ∷ [])
first_pushed p q x y (inl l) = inl (omega (arith, l, length_push p x, length_push q y))
first_pushed p q x y (inr (e, b)) =
    inr (omega (arith, e, length_push p x, length_push q y), is_before (p ++ x ∷ []) (q ++ y ∷ []) (pushed p q x y e (precedes b)))

pub first_side : (p : List ℕ) (x y : ℕ) → x < y → ComesFirst (p ++ x ∷ []) (p ++ y ∷ [])
first_side p x y lt =
    inr (omega (arith, length_push p x, length_push p y), is_before (p ++ x ∷ []) (p ++ y ∷ []) (pushed_less p x y lt))

pub first_empty : (p : List ℕ) (x : ℕ) → ComesFirst [] (p ++ x ∷ [])
first_empty p x = inl (omega (arith, length_push p x))

pub most_first : (p q r : List ℕ) → AtMost p q → ComesFirst q r → ComesFirst p r
most_first p q r (inl e) f = subst (λ x. ComesFirst x r) (sym e) f
most_first p q r (inr f) g = first_on p q r f g

pub most_on : (p q r : List ℕ) → AtMost p q → AtMost q r → AtMost p r
most_on p q r m (inl e) = subst (AtMost p) e m
most_on p q r m (inr f) = inr (most_first p q r m f)

pub most_pushed : (p q : List ℕ) (x : ℕ) → AtMost p q → AtMost (p ++ x ∷ []) (q ++ x ∷ [])
most_pushed p q x (inl e) = inl (ap (λ l. l ++ x ∷ []) e)
most_pushed p q x (inr f) = inr (first_pushed p q x x f)

-- a list does not come after one that goes on from it
pub most_longer : (p r : List ℕ) → AtMost p (p ++ r)
most_longer p [] = inl (sym (append_nil p))
  where
    append_nil : (l : List ℕ) → l ++ [] ≡ l
    append_nil [] = refl
    append_nil (x ∷ l) = ap (λ m. x ∷ m) (append_nil l)
most_longer p (x ∷ r) = inr (inl (omega (arith, length-append p (x ∷ r))))
