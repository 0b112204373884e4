-- Codes that are the same exactly where what they stand for is the same.
use Rattle.std.proofs.Common.{◌≡◌, ℕ, zero, suc, ◌+◌, ◌<◌, ◌≤◌, ◌⊎◌, ◌↔◌, List, [], ◌∷◌, ◌++◌, map, length, get_or, Bool, true, false, Option, Some, None, refl, sym, ap, ap₂, ◌∙◌, subst, inl, inr, arith}
use Rattle.std.proofs.lemmas.Bool.{cases_eq, cases_lt}
use Rattle.std.proofs.lemmas.List.{same_lists, length-map, get_or_append_left, get_or_push, length_push}
use Rattle.std.specs.Option.{option_map, option_and_then}
use Rattle.look_classes.specs.Looks.{both, each_below, each_where}
use Rattle.look_classes.specs.Numbers.{entry, AreNumbers}
use Rattle.look_classes.proofs.Cases.{cases, options}
use Rattle.look_classes.proofs.Sights.{entry_below, entry_past}
use Rattle.look_classes.proofs.Listed.{entry_map}
use Rattle.look_classes.proofs.Dead.{both_none, each_next, each_zero, where_zero, where_skip, where_take}

-- of all that meets P: f gives something where g does, and the same where g does
pub record SameBy {X A B : Type 0} (P : X → Type 0) (f : X → Option A) (g : X → Option B) : Type 0 where
  pub none : (x : X) → P x → f x ≡ None → g x ≡ None
  pub back : (x : X) → P x → g x ≡ None → f x ≡ None
  pub one : (x y : X) (a b : A) (u v : B) → P x → P y → f x ≡ Some a → f y ≡ Some b → g x ≡ Some u → g y ≡ Some v → (a ≡ b) ↔ (u ≡ v)

abbrev pub IsInjective : {A B : Type 0} → (A → B) → Type 0
IsInjective {A} {B} e = (a b : A) → e a ≡ e b → a ≡ b

pub some_one : {A : Type 0} (x y : A) → Some x ≡ Some y → x ≡ y
some_one x y e = cc (e)

pub not_none : {A : Type 0} (o : Option A) (x : A) → o ≡ Some x → o ≡ None → ⊥
not_none o x e n = absurd (cc (e, n))

module _ {X : Type 0} (P : X → Type 0) where
  pub same_self : {A : Type 0} (f : X → Option A) → SameBy P f f
  same_self f = record {
    none = λ x _ e. e;
    back = λ x _ e. e;
    one = λ x y a b u v _ _ fa fb gu gv. (λ e. some_one u v (sym gu ∙ (fa ∙ (ap Some e ∙ (sym fb ∙ gv)))), λ e. some_one a b (sym fa ∙ (gu ∙ (ap Some e ∙ (sym gv ∙ fb)))));
  }

  pub map_none : {A B : Type 0} (e : A → B) (o : Option A) → option_map e o ≡ None → o ≡ None
  map_none e None h = refl
  map_none e (Some x) h = absurd (cc (h))

  pub map_some : {A B : Type 0} (e : A → B) (o : Option A) (y : B) → option_map e o ≡ Some y → (x : A) × (o ≡ Some x) × (e x ≡ y)
  map_some e None y h = absurd (cc (h))
  map_some e (Some x) y h = (x, refl, some_one (e x) y h)

  -- what injective functions make of the same
  pub same_map : {A B C D : Type 0} (e : A → C) (e' : B → D) (f : X → Option A) (g : X → Option B) → IsInjective e → IsInjective e' → SameBy P f g → SameBy P (λ x. option_map e (f x)) (λ x. option_map e' (g x))
  same_map e e' f g inj inj' h = record {
    none = λ x p n. ap (option_map e') (h.none x p (map_none e (f x) n));
    back = λ x p n. ap (option_map e) (h.back x p (map_none e' (g x) n));
    one = λ x y a b u v p q fa fb gu gv.
        let a' = map_some e (f x) a fa in
        let b' = map_some e (f y) b fb in
        let u' = map_some e' (g x) u gu in
        let v' = map_some e' (g y) v gv in
        let w = h.one x y a'.0 b'.0 u'.0 v'.0 p q a'.1 b'.1 u'.1 v'.1 in
        (λ s. sym u'.2 ∙ (ap e' (w.0 (inj a'.0 b'.0 (a'.2 ∙ (s ∙ sym b'.2)))) ∙ v'.2), λ s. sym a'.2 ∙ (ap e (w.1 (inj' u'.0 v'.0 (u'.2 ∙ (s ∙ sym v'.2)))) ∙ b'.2));
  }

  pub both_split : {A B C : Type 0} (c : A → B → C) (o : Option A) (w : Option B) → both c o w ≡ None → (o ≡ None) ⊎ (w ≡ None)
  both_split c None w h = inl refl
  both_split c (Some x) None h = inr refl
  both_split c (Some x) (Some y) h = absurd (cc (h))

  pub both_off : {A B C : Type 0} (c : A → B → C) (o : Option A) (w : Option B) → (o ≡ None) ⊎ (w ≡ None) → both c o w ≡ None
  both_off c o w (inl e) = ap (λ q. both c q w) e
  both_off c o w (inr e) = ap (both c o) e ∙ both_none c o

  pub both_some : {A B C : Type 0} (c : A → B → C) (o : Option A) (w : Option B) (z : C) → both c o w ≡ Some z → (x : A) × (y : B) × (o ≡ Some x) × (w ≡ Some y) × (c x y ≡ z)
  both_some c None w z h = absurd (cc (h))
  both_some c (Some x) None z h = absurd (cc (h))
  both_some c (Some x) (Some y) z h = (x, y, refl, refl, some_one (c x y) z h)

  abbrev pub IsPairing : {A B C : Type 0} → (A → B → C) → Type 0
  IsPairing {A} {B} c = (x x' : A) (y y' : B) → c x y ≡ c x' y' → (x ≡ x') × (y ≡ y')

  -- pairs of the same
  pub same_both : {A B C D E F : Type 0} (c : A → B → C) (c' : D → E → F) (f : X → Option A) (g : X → Option D) (k : X → Option B) (l : X → Option E) → IsPairing c → IsPairing c' → SameBy P f g → SameBy P k l → SameBy P (λ x. both c (f x) (k x)) (λ x. both c' (g x) (l x))
  same_both c c' f g k l inj inj' h i = record {
    none = λ x p n. both_off c' (g x) (l x) (on x p (both_split c (f x) (k x) n));
    back = λ x p n. both_off c (f x) (k x) (off x p (both_split c' (g x) (l x) n));
    one = λ x y a b u v p q fa fb gu gv.
        let a' = both_some c (f x) (k x) a fa in
        let b' = both_some c (f y) (k y) b fb in
        let u' = both_some c' (g x) (l x) u gu in
        let v' = both_some c' (g y) (l y) v gv in
        let w = h.one x y a'.0 b'.0 u'.0 v'.0 p q a'.2 b'.2 u'.2 v'.2 in
        let z = i.one x y a'.1 b'.1 u'.1 v'.1 p q a'.3 b'.3 u'.3 v'.3 in (
          λ s. let t = inj a'.0 b'.0 a'.1 b'.1 (a'.4 ∙ (s ∙ sym b'.4)) in sym u'.4 ∙ (ap₂ c' (w.0 t.0) (z.0 t.1) ∙ v'.4),
          λ s. let t = inj' u'.0 v'.0 u'.1 v'.1 (u'.4 ∙ (s ∙ sym v'.4)) in sym a'.4 ∙ (ap₂ c (w.1 t.0) (z.1 t.1) ∙ b'.4),
        );
  }
    where
      on : (x : X) → P x → (f x ≡ None) ⊎ (k x ≡ None) → (g x ≡ None) ⊎ (l x ≡ None)
      on x p (inl e) = inl (h.none x p e)
      on x p (inr e) = inr (i.none x p e)

      off : (x : X) → P x → (g x ≡ None) ⊎ (l x ≡ None) → (f x ≡ None) ⊎ (k x ≡ None)
      off x p (inl e) = inl (h.back x p e)
      off x p (inr e) = inr (i.back x p e)

  -- at another place, which both go to
  pub same_then : {Y A B : Type 0} (Q : Y → Type 0) (o : X → Option Y) (f : Y → Option A) (g : Y → Option B) → ((x : X) (y : Y) → P x → o x ≡ Some y → Q y) → SameBy Q f g → SameBy P (λ x. option_and_then f (o x)) (λ x. option_and_then g (o x))
  same_then {Y} {A} {B} Q o f g goes h = record {
    none = λ x p n. none x p n (options (o x));
    back = λ x p n. back x p n (options (o x));
    one = λ x y a b u v p q fa fb gu gv. one x y a b u v p q fa fb gu gv (options (o x)) (options (o y));
  }
    where
      none : (x : X) → P x → option_and_then f (o x) ≡ None → (o x ≡ None) ⊎ ((y : Y) × (o x ≡ Some y)) → option_and_then g (o x) ≡ None
      none x p n (inl e) = ap (option_and_then g) e
      none x p n (inr w) = ap (option_and_then g) w.1 ∙ h.none w.0 (goes x w.0 p w.1) (sym (ap (option_and_then f) w.1) ∙ n)

      back : (x : X) → P x → option_and_then g (o x) ≡ None → (o x ≡ None) ⊎ ((y : Y) × (o x ≡ Some y)) → option_and_then f (o x) ≡ None
      back x p n (inl e) = ap (option_and_then f) e
      back x p n (inr w) = ap (option_and_then f) w.1 ∙ h.back w.0 (goes x w.0 p w.1) (sym (ap (option_and_then g) w.1) ∙ n)

      one : (x y : X) (a b : A) (u v : B) → P x → P y → option_and_then f (o x) ≡ Some a → option_and_then f (o y) ≡ Some b → option_and_then g (o x) ≡ Some u → option_and_then g (o y) ≡ Some v → (o x ≡ None) ⊎ ((z : Y) × (o x ≡ Some z)) → (o y ≡ None) ⊎ ((z : Y) × (o y ≡ Some z)) → (a ≡ b) ↔ (u ≡ v)
      one x y a b u v p q fa fb gu gv (inl e) _ = absurd (not_none (option_and_then f (o x)) a fa (ap (option_and_then f) e))
      one x y a b u v p q fa fb gu gv _ (inl e) = absurd (not_none (option_and_then f (o y)) b fb (ap (option_and_then f) e))
      one x y a b u v p q fa fb gu gv (inr z) (inr w) =
          h.one z.0 w.0 a b u v (goes x z.0 p z.1) (goes y w.0 q w.1) (sym (ap (option_and_then f) z.1) ∙ fa) (sym (ap (option_and_then f) w.1) ∙ fb) (sym (ap (option_and_then g) z.1) ∙ gu) (sym (ap (option_and_then g) w.1) ∙ gv)

  -- numbers of the one are numbers of the other
  module _ {A B : Type 0} (f : X → Option A) (g : X → Option B) (h : SameBy P f g) (xs : List X) (d : X) (all : (i : ℕ) → i < length xs → P (get_or xs i d)) (ns : List (Option ℕ)) (count : ℕ) (are : AreNumbers (map f xs) ns count) where
    low : (i : ℕ) (x : B) → entry (map g xs) i ≡ Some x → i < length xs
    low i x e = let lt = entry_below (map g xs) i x e in omega (arith, lt, length-map xs g)

    nothing : (i : ℕ) → (entry ns i ≡ None) ↔ (entry (map g xs) i ≡ None)
    nothing i = go (cases_lt i (length xs))
      where
        go : (i < length xs) ⊎ (length xs ≤ i) → (entry ns i ≡ None) ↔ (entry (map g xs) i ≡ None)
        go (inl lt) =
            let fe = entry_map f xs i d lt in
            let ge = entry_map g xs i d lt in
            (λ n. ge ∙ h.none (get_or xs i d) (all i lt) (sym fe ∙ (are.nothing i).0 n), λ n. (are.nothing i).1 (fe ∙ h.back (get_or xs i d) (all i lt) (sym ge ∙ n)))
        go (inr le) =
            let long : length ns ≡ length xs = are.long ∙ length-map xs f in
            (λ _. entry_past (map g xs) i (omega (arith, le, length-map xs g)), λ _. entry_past ns i (omega (arith, le, long)))

    there : (i m : ℕ) → entry ns i ≡ Some m → (a : A) × (entry (map f xs) i ≡ Some a)
    there i m e = go (options (entry (map f xs) i))
      where
        go : (entry (map f xs) i ≡ None) ⊎ ((a : A) × (entry (map f xs) i ≡ Some a)) → (a : A) × (entry (map f xs) i ≡ Some a)
        go (inl n) = absurd (not_none (entry ns i) m e ((are.nothing i).1 n))
        go (inr w) = w

    pub numbers_on : AreNumbers (map g xs) ns count
    numbers_on = record {
      long = are.long ∙ (length-map xs f ∙ sym (length-map xs g));
      nothing = nothing;
      one = λ i j m n x y gx gy e1 e2.
          let a = there i m e1 in
          let b = there j n e2 in
          let li = low i x gx in
          let lj = low j y gy in
          let w = are.one i j m n a.0 b.0 a.1 b.1 e1 e2 in
          let z = h.one (get_or xs i d) (get_or xs j d) a.0 b.0 x y (all i li) (all j lj) (sym (entry_map f xs i d li) ∙ a.1) (sym (entry_map f xs j d lj) ∙ b.1) (sym (entry_map g xs i d li) ∙ gx) (sym (entry_map g xs j d lj) ∙ gy) in
          (λ s. z.0 (w.0 s), λ s. w.1 (z.1 s));
      first = are.first;
      counted = are.counted;
    }

-- lists of the same, entry by entry
pub record Zipped {A B : Type 0} (R : A → B → Type 0) (xs : List A) (ys : List B) : Type 0 where
  pub long : length xs ≡ length ys
  pub each : (k : ℕ) (d : A) (e : B) → k < length xs → R (get_or xs k d) (get_or ys k e)

module _ {A B : Type 0} (R : A → B → Type 0) where
  pub zipped_none : Zipped R [] []
  zipped_none = record { long = refl; each = λ k d e lt. absurd (omega (arith, lt)) }

  pub zipped_more : (xs : List A) (ys : List B) (x : A) (y : B) → Zipped R xs ys → R x y → Zipped R (xs ++ x ∷ []) (ys ++ y ∷ [])
  zipped_more xs ys x y h last = record {
    long = length_push xs x ∙ (ap (λ n. n + 1) h.long ∙ sym (length_push ys y));
    each = λ k d e lt. at k d e lt (cases_eq k (length xs));
  }
    where
      at : (k : ℕ) (d : A) (e : B) → k < length (xs ++ x ∷ []) → (k ≡ length xs) ⊎ (k ≡ length xs → ⊥) → R (get_or (xs ++ x ∷ []) k d) (get_or (ys ++ y ∷ []) k e)
      at k d e lt (inl s) = subst (λ a. R a (get_or (ys ++ y ∷ []) k e)) (sym (get_or_push xs x d k (sym s))) (subst (R x) (sym (get_or_push ys y e k (sym h.long ∙ sym s))) last)
      at k d e lt (inr other) =
          let less : k < length xs = omega (arith, lt, other, length_push xs x) in
          subst (λ a. R a (get_or (ys ++ y ∷ []) k e)) (sym (get_or_append_left xs (x ∷ []) d k less)) (subst (R (get_or xs k d)) (sym (get_or_append_left ys (y ∷ []) e k (omega (arith, less, h.long)))) (h.each k d e less))

  -- the lists are the same where the others are
  pub zipped_on : ((x x' : A) (y y' : B) → R x y → R x' y' → x ≡ x' → y ≡ y') → (xs xs' : List A) (ys ys' : List B) → Zipped R xs ys → Zipped R xs' ys' → xs ≡ xs' → ys ≡ ys'
  zipped_on exact [] xs' ys ys' h h' e = same_lists ys ys' (sym h.long ∙ (ap length e ∙ h'.long)) (λ k d lt. absurd (omega (arith, lt, h.long)))
  zipped_on exact (x ∷ xs) xs' ys ys' h h' e = same_lists ys ys' (sym h.long ∙ (ap length e ∙ h'.long)) (λ k d lt. exact (get_or (x ∷ xs) k x) (get_or xs' k x) (get_or ys k d) (get_or ys' k d) (h.each k x d (omega (arith, lt, h.long))) (h'.each k x d (omega (arith, lt, h.long, ap length e))) (ap (λ l. get_or l k x) e))

  pub zipped_back : ((x x' : A) (y y' : B) → R x y → R x' y' → y ≡ y' → x ≡ x') → (xs xs' : List A) (ys ys' : List B) → Zipped R xs ys → Zipped R xs' ys' → ys ≡ ys' → xs ≡ xs'
  zipped_back exact xs xs' [] ys' h h' e = same_lists xs xs' (h.long ∙ (ap length e ∙ sym h'.long)) (λ k d lt. absurd (omega (arith, lt, h.long)))
  zipped_back exact xs xs' (y ∷ ys) ys' h h' e = same_lists xs xs' (h.long ∙ (ap length e ∙ sym h'.long)) (λ k d lt. exact (get_or xs k d) (get_or xs' k d) (get_or (y ∷ ys) k y) (get_or ys' k y) (h.each k d y lt) (h'.each k d y (omega (arith, lt, h.long, ap length e, h'.long))) (ap (λ l. get_or l k y) e))

  -- what f and g give for the numbers below n
  module _ (p : ℕ → Bool) (f : ℕ → Option A) (g : ℕ → Option B) where
    pub each_zipped : (n : ℕ) → ((j : ℕ) (x : A) (y : B) → j < n → f j ≡ Some x → g j ≡ Some y → R x y) → (xs : List A) (ys : List B) → each_below n f ≡ Some xs → each_below n g ≡ Some ys → Zipped R xs ys
    each_zipped zero fits xs ys a b =
        subst (λ l. Zipped R l ys) (some_one [] xs (sym (each_zero f) ∙ a)) (subst (Zipped R []) (some_one [] ys (sym (each_zero g) ∙ b)) zipped_none)
    each_zipped (suc n) fits xs ys a b =
        let a' = both_some {X = ℕ} (λ _. ℕ) (λ (l : List A) x. l ++ x ∷ []) (each_below n f) (f n) xs (sym (each_next n f) ∙ a) in
        let b' = both_some {X = ℕ} (λ _. ℕ) (λ (l : List B) x. l ++ x ∷ []) (each_below n g) (g n) ys (sym (each_next n g) ∙ b) in
        let rest = each_zipped n (λ j x y lt u v. fits j x y (omega (arith, lt)) u v) a'.0 b'.0 a'.2 b'.2 in
        subst (λ l. Zipped R l ys) a'.4 (subst (Zipped R (a'.0 ++ a'.1 ∷ [])) b'.4 (zipped_more a'.0 b'.0 a'.1 b'.1 rest (fits n a'.1 b'.1 (omega arith) a'.3 b'.3)))

    pub where_zipped : (n : ℕ) → ((j : ℕ) (x : A) (y : B) → j < n → f j ≡ Some x → g j ≡ Some y → R x y) → (xs : List A) (ys : List B) → each_where n p f ≡ Some xs → each_where n p g ≡ Some ys → Zipped R xs ys
    where_zipped zero fits xs ys a b =
        subst (λ l. Zipped R l ys) (some_one [] xs (sym (where_zero p f) ∙ a)) (subst (Zipped R []) (some_one [] ys (sym (where_zero p g) ∙ b)) zipped_none)
    where_zipped (suc n) fits xs ys a b = go (λ xs ys a b. where_zipped n (λ j x y lt u v. fits j x y (omega (arith, lt)) u v) xs ys a b) (cases (p n))
      where
        go : ((xs : List A) (ys : List B) → each_where n p f ≡ Some xs → each_where n p g ≡ Some ys → Zipped R xs ys) → (p n ≡ true) ⊎ (p n ≡ false) → Zipped R xs ys
        go before (inr skip) = before xs ys (sym (where_skip n p f skip) ∙ a) (sym (where_skip n p g skip) ∙ b)
        go before (inl take_it) =
            let a' = both_some {X = ℕ} (λ _. ℕ) (λ (l : List A) x. l ++ x ∷ []) (each_where n p f) (f n) xs (sym (where_take n p f take_it) ∙ a) in
            let b' = both_some {X = ℕ} (λ _. ℕ) (λ (l : List B) x. l ++ x ∷ []) (each_where n p g) (g n) ys (sym (where_take n p g take_it) ∙ b) in
            subst (λ l. Zipped R l ys) a'.4 (subst (Zipped R (a'.0 ++ a'.1 ∷ [])) b'.4 (zipped_more a'.0 b'.0 a'.1 b'.1 (before a'.0 b'.0 a'.2 b'.2) (fits n a'.1 b'.1 (omega arith) a'.3 b'.3)))

    -- where the one is missing, so is the other
    pub each_missing : (n : ℕ) → ((j : ℕ) → j < n → f j ≡ None → g j ≡ None) → each_below n f ≡ None → each_below n g ≡ None
    each_missing zero miss a = absurd (not_none (each_below 0 f) [] (each_zero f) a)
    each_missing (suc n) miss a = each_next n g ∙ both_off {X = ℕ} (λ _. ℕ) (λ (l : List B) x. l ++ x ∷ []) (each_below n g) (g n) (go (λ e. each_missing n (λ j lt. miss j (omega (arith, lt))) e) (both_split {X = ℕ} (λ _. ℕ) (λ (l : List A) x. l ++ x ∷ []) (each_below n f) (f n) (sym (each_next n f) ∙ a)))
      where
        go : (each_below n f ≡ None → each_below n g ≡ None) → (each_below n f ≡ None) ⊎ (f n ≡ None) → (each_below n g ≡ None) ⊎ (g n ≡ None)
        go before (inl e) = inl (before e)
        go before (inr e) = inr (miss n (omega arith) e)

    pub where_missing : (n : ℕ) → ((j : ℕ) → j < n → f j ≡ None → g j ≡ None) → each_where n p f ≡ None → each_where n p g ≡ None
    where_missing zero miss a = absurd (not_none (each_where 0 p f) [] (where_zero p f) a)
    where_missing (suc n) miss a = go (λ e. where_missing n (λ j lt. miss j (omega (arith, lt))) e) (cases (p n))
      where
        on : (each_where n p f ≡ None → each_where n p g ≡ None) → (each_where n p f ≡ None) ⊎ (f n ≡ None) → (each_where n p g ≡ None) ⊎ (g n ≡ None)
        on before (inl e) = inl (before e)
        on before (inr e) = inr (miss n (omega arith) e)

        go : (each_where n p f ≡ None → each_where n p g ≡ None) → (p n ≡ true) ⊎ (p n ≡ false) → each_where (suc n) p g ≡ None
        go before (inr skip) = where_skip n p g skip ∙ before (sym (where_skip n p f skip) ∙ a)
        go before (inl take_it) = where_take n p g take_it ∙ both_off {X = ℕ} (λ _. ℕ) (λ (l : List B) x. l ++ x ∷ []) (each_where n p g) (g n) (on before (both_split {X = ℕ} (λ _. ℕ) (λ (l : List A) x. l ++ x ∷ []) (each_where n p f) (f n) (sym (where_take n p f take_it) ∙ a)))

module _ {X A B : Type 0} where
  -- the same in other words
  pub same_left : (P : X → Type 0) (f f' : X → Option A) (g : X → Option B) → ((x : X) → P x → f x ≡ f' x) → SameBy P f' g → SameBy P f g
  same_left P f f' g e h = record {
    none = λ x p n. h.none x p (sym (e x p) ∙ n);
    back = λ x p n. e x p ∙ h.back x p n;
    one = λ x y a b u v p q fa fb gu gv. h.one x y a b u v p q (sym (e x p) ∙ fa) (sym (e y q) ∙ fb) gu gv;
  }

  pub same_right : (P : X → Type 0) (f : X → Option A) (g g' : X → Option B) → ((x : X) → P x → g x ≡ g' x) → SameBy P f g' → SameBy P f g
  same_right P f g g' e h = record {
    none = λ x p n. e x p ∙ h.none x p n;
    back = λ x p n. h.back x p (sym (e x p) ∙ n);
    one = λ x y a b u v p q fa fb gu gv. h.one x y a b u v p q fa fb (sym (e x p) ∙ gu) (sym (e y q) ∙ gv);
  }

  -- of more, where there is nothing of the others
  pub same_wider : (P Q : X → Type 0) (f : X → Option A) (g : X → Option B) → ((x : X) → Q x → P x ⊎ ((f x ≡ None) × (g x ≡ None))) → SameBy P f g → SameBy Q f g
  same_wider P Q f g split h = record {
    none = λ x q n. none x n (split x q);
    back = λ x q n. back x n (split x q);
    one = λ x y a b u v p q fa fb gu gv. one x y a b u v fa fb gu gv (split x p) (split y q);
  }
    where
      none : (x : X) → f x ≡ None → P x ⊎ ((f x ≡ None) × (g x ≡ None)) → g x ≡ None
      none x n (inl p) = h.none x p n
      none x n (inr w) = w.1

      back : (x : X) → g x ≡ None → P x ⊎ ((f x ≡ None) × (g x ≡ None)) → f x ≡ None
      back x n (inl p) = h.back x p n
      back x n (inr w) = w.0

      one : (x y : X) (a b : A) (u v : B) → f x ≡ Some a → f y ≡ Some b → g x ≡ Some u → g y ≡ Some v → P x ⊎ ((f x ≡ None) × (g x ≡ None)) → P y ⊎ ((f y ≡ None) × (g y ≡ None)) → (a ≡ b) ↔ (u ≡ v)
      one x y a b u v fa fb gu gv (inl p) (inl q) = h.one x y a b u v p q fa fb gu gv
      one x y a b u v fa fb gu gv (inr w) _ = absurd (not_none (f x) a fa w.0)
      one x y a b u v fa fb gu gv _ (inr w) = absurd (not_none (f y) b fb w.0)

-- over what lies between
pub same_over : {X A B C : Type 0} (P : X → Type 0) (f : X → Option A) (g : X → Option B) (k : X → Option C) → SameBy P f g → SameBy P g k → SameBy P f k
same_over {X} {A} {B} {C} P f g k h i = record {
  none = λ x p n. i.none x p (h.none x p n);
  back = λ x p n. h.back x p (i.back x p n);
  one = λ x y a b u v p q fa fb gu gv.
      let s = there x a p fa in
      let t = there y b q fb in
      let w = h.one x y a b s.0 t.0 p q fa fb s.1 t.1 in
      let z = i.one x y s.0 t.0 u v p q s.1 t.1 gu gv in
      (λ e. z.0 (w.0 e), λ e. w.1 (z.1 e));
}
  where
    there : (x : X) (a : A) → P x → f x ≡ Some a → (b : B) × (g x ≡ Some b)
    there x a p fa = go (options (g x))
      where
        go : (g x ≡ None) ⊎ ((b : B) × (g x ≡ Some b)) → (b : B) × (g x ≡ Some b)
        go (inl n) = absurd (not_none (f x) a fa (h.back x p n))
        go (inr w) = w
