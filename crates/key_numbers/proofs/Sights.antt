-- Keys that are numbered one after the other.
use Rattle.std.proofs.Common.{◌≡◌, ℕ, zero, suc, ◌+◌, ◌<◌, ◌≤◌, ◌⊎◌, Bool, true, false, cond, nat_eq, List, [], ◌∷◌, ◌++◌, length, get_or, Option, Some, None, refl, sym, ap, ◌∙◌, inl, inr, arith}
use Rattle.std.proofs.lemmas.Bool.{cases_eq, cases_lt}
use Rattle.std.proofs.lemmas.List.{get_or_append_left, get_or_push, get_or_past, length_push}
use Rattle.std.proofs.lemmas.List.Folds.{list_any_at}
use Rattle.std.proofs.lemmas.Map.Keys.{apart_from_distinct}
use Rattle.std.specs.Cmp.Lexicographic.{pointwise, same_text, other_text}
use Rattle.std.specs.Option.{option_map}
use Rattle.std.specs.List.{slice_get, list_any, IsDistinct}
use Rattle.key_numbers.specs.Numbers.{entry, AreNumbers}
use Rattle.key_numbers.specs.Numbering.{HasNumbered, key_at}
use Rattle.key_numbers.specs.declared.numbering.Numbering.{Numbering}
use Rattle.key_numbers.proofs.Cases.{cases}

module _ {A : Type 0} where
  -- an entry of a list with one more behind
  pub entry_left : (xs : List (Option A)) (y : Option A) (i : ℕ) → i < length xs → entry (xs ++ y ∷ []) i ≡ entry xs i
  entry_left xs y i lt = get_or_append_left xs (y ∷ []) None i lt

  pub entry_last : (xs : List (Option A)) (y : Option A) → entry (xs ++ y ∷ []) (length xs) ≡ y
  entry_last xs y = get_or_push xs y None (length xs) refl

  pub entry_past : (xs : List (Option A)) (i : ℕ) → length xs ≤ i → entry xs i ≡ None
  entry_past xs i le = get_or_past xs i None le

  pub entry_below : (xs : List (Option A)) (i : ℕ) (x : A) → entry xs i ≡ Some x → i < length xs
  entry_below xs i x is = go (cases_lt i (length xs))
    where
      go : (i < length xs) ⊎ (length xs ≤ i) → i < length xs
      go (inl lt) = lt
      go (inr le) = let none = entry_past xs i le in absurd (cc (none, is))

  -- where an entry is: among the old ones, or the new one
  pub entry_cases : (xs : List (Option A)) (y : Option A) (i : ℕ) (x : A) → entry (xs ++ y ∷ []) i ≡ Some x → ((i < length xs) × (entry xs i ≡ Some x)) ⊎ ((i ≡ length xs) × (y ≡ Some x))
  entry_cases xs y i x is = go (cases_lt i (length xs)) (cases_eq i (length xs))
    where
      go : (i < length xs) ⊎ (length xs ≤ i) → (i ≡ length xs) ⊎ (i ≡ length xs → ⊥) → ((i < length xs) × (entry xs i ≡ Some x)) ⊎ ((i ≡ length xs) × (y ≡ Some x))
      go (inl lt) _ = inl (lt, sym (entry_left xs y i lt) ∙ is)
      go (inr le) (inl e) = inr (e, sym (entry_last xs y) ∙ (ap (entry (xs ++ y ∷ [])) (sym e) ∙ is))
      go (inr le) (inr other) = let none = entry_past (xs ++ y ∷ []) i (omega (arith, le, other, length_push xs y)) in absurd (cc (none, is))

module _ {K : Type 0} where
  pub get_left : (xs ys : List K) (k : ℕ) (y : K) → slice_get xs k ≡ Some y → slice_get (xs ++ ys) k ≡ Some y
  get_left [] ys k y is = absurd (cc)
  get_left (x ∷ xs) ys zero y is = is
  get_left (x ∷ xs) ys (suc k) y is = get_left xs ys k y is

  pub get_below : (xs : List K) (k : ℕ) (y : K) → slice_get xs k ≡ Some y → k < length xs
  get_below [] k y is = absurd (cc)
  get_below (x ∷ xs) zero y is = omega arith
  get_below (x ∷ xs) (suc k) y is = let rest = get_below xs k y is in omega (arith, rest)

  pub get_there : (xs : List K) (k : ℕ) → k < length xs → (y : K) × (slice_get xs k ≡ Some y)
  get_there [] k lt = absurd (omega (arith, lt))
  get_there (x ∷ xs) zero lt = (x, refl)
  get_there (x ∷ xs) (suc k) lt = get_there xs k (omega (arith, lt))

  pub get_is : (xs : List K) (k : ℕ) (y d : K) → slice_get xs k ≡ Some y → get_or xs k d ≡ y
  get_is [] k y d is = absurd (cc)
  get_is (x ∷ xs) zero y d is = cc
  get_is (x ∷ xs) (suc k) y d is = get_is xs k y d is

  module _ (items : K → List ℕ) where
    abbrev same : K → K → Bool
    same x y = pointwise nat_eq (items x) (items y)

    abbrev at : List K → ℕ → Option (List ℕ)
    at ks k = option_map items (slice_get ks k)

    at_split : (ks : List K) (k : ℕ) (x : List ℕ) → at ks k ≡ Some x → (y : K) × (slice_get ks k ≡ Some y) × (items y ≡ x)
    at_split ks k x is = go (slice_get ks k) refl
      where
        go : (o : Option K) → slice_get ks k ≡ o → (y : K) × (slice_get ks k ≡ Some y) × (items y ≡ x)
        go None e = let none : at ks k ≡ None = ap (option_map items) e in absurd (cc (none, is))
        go (Some y) e = let some : at ks k ≡ Some (items y) = ap (option_map items) e in (y, e, cc (some, is))

    same_self : (x y : K) → items x ≡ items y → same x y ≡ true
    same_self x y e = go (cases (same x y))
      where
        go : (same x y ≡ true) ⊎ (same x y ≡ false) → same x y ≡ true
        go (inl t) = t
        go (inr f) = absurd (other_text (items x) (items y) (sym f) e)

    -- a key was inserted
    pub record Inserted (ks ks' : List K) (x : List ℕ) (m : ℕ) : Type 0 where
      pub grows : (k : ℕ) (y : List ℕ) → at ks k ≡ Some y → at ks' k ≡ Some y
      pub longer : length ks ≤ length ks'
      pub there : m < length ks'
      pub next : m ≤ length ks
      pub new : (k : ℕ) → length ks ≤ k → k < length ks' → k ≡ m
      pub is : at ks' m ≡ Some x
      pub apart : (i j : ℕ) (y : List ℕ) → at ks' i ≡ Some y → at ks' j ≡ Some y → i ≡ j

    distinct_apart : (ks : List K) → IsDistinct same ks → (i j : ℕ) (y : List ℕ) → at ks i ≡ Some y → at ks j ≡ Some y → i ≡ j
    distinct_apart ks distinct i j y a b = go (cases_eq i j) (cases_lt i j)
      where
        never : (i j : ℕ) → at ks i ≡ Some y → at ks j ≡ Some y → i < j → ⊥
        never i j a b lt =
            let one = at_split ks i y a in
            let two = at_split ks j y b in
            let d = one.0 in
            let off = apart_from_distinct same ks i j d distinct lt (get_below ks j two.0 two.1) in
            let off_too : same one.0 two.0 ≡ false = ap (λ x. same x two.0) (sym (get_is ks i one.0 d one.1)) ∙ (ap (same (get_or ks i d)) (sym (get_is ks j two.0 d two.1)) ∙ off) in
            let on = same_self one.0 two.0 (one.2 ∙ sym two.2) in
            absurd (cc (off_too, on))

        go : (i ≡ j) ⊎ (i ≡ j → ⊥) → (i < j) ⊎ (j ≤ i) → i ≡ j
        go (inl e) _ = e
        go (inr _) (inl lt) = absurd (never i j a b lt)
        go (inr other) (inr le) = absurd (never j i b a (omega (arith, le, other)))

    pub inserted : (ks ks' : List K) (v : K) (m : ℕ) → ks' ≡ cond (list_any (same v) ks) ks (ks ++ v ∷ []) → (k : K) → slice_get ks' m ≡ Some k → same v k ≡ true → IsDistinct same ks' → Inserted ks ks' (items v) m
    inserted ks ks' v m keys k stored equal distinct = go (cases (list_any (same v) ks))
      where
        is : at ks' m ≡ Some (items v)
        is = ap (option_map items) stored ∙ ap Some (sym (same_text (items v) (items k) (sym equal)))

        go : (list_any (same v) ks ≡ true) ⊎ (list_any (same v) ks ≡ false) → Inserted ks ks' (items v) m
        go (inl old) =
            let e : ks' ≡ ks = keys ∙ ap (λ b. cond b ks (ks ++ v ∷ [])) old in
            let lt = get_below ks' m k stored in
            record {
              grows = λ i y h. ap (λ xs. at xs i) e ∙ h;
              longer = omega (arith, ap length e);
              there = lt;
              next = omega (arith, lt, ap length e);
              new = λ i le less. absurd (omega (arith, le, less, ap length e));
              is = is;
              apart = distinct_apart ks' distinct;
            }
        go (inr fresh) =
            let e : ks' ≡ ks ++ v ∷ [] = keys ∙ ap (λ b. cond b ks (ks ++ v ∷ [])) fresh in
            let long : length ks' ≡ length ks + 1 = ap length e ∙ length_push ks v in
            let lt = get_below ks' m k stored in
            let last = at_end e (cases_lt m (length ks)) in
            record {
              grows = λ i y h. let w = at_split ks i y h in ap (λ xs. at xs i) e ∙ (ap (option_map items) (get_left ks (v ∷ []) i w.0 w.1) ∙ ap Some w.2);
              longer = omega (arith, long);
              there = lt;
              next = omega (arith, lt, long);
              new = λ i le less. omega (arith, le, less, long, last, lt);
              is = is;
              apart = distinct_apart ks' distinct;
            }
          where
            at_end : ks' ≡ ks ++ v ∷ [] → (m < length ks) ⊎ (length ks ≤ m) → length ks ≤ m
            at_end e (inr le) = le
            at_end e (inl less) =
                let w = get_there ks m less in
                let one : slice_get ks' m ≡ Some w.0 = ap (λ xs. slice_get xs m) e ∙ get_left ks (v ∷ []) m w.0 w.1 in
                let same_one : w.0 ≡ k = cc (one, stored) in
                let passes : same v (get_or ks m v) ≡ true = ap (same v) (get_is ks m w.0 v w.1 ∙ same_one) ∙ equal in
                let any = list_any_at (same v) ks m v less passes in
                absurd (cc (any, fresh))

-- nothing was handed in
pub none_numbered : (n : Numbering) → length n.numbers.items ≡ 0 → length n.keys.keys ≡ 0 → HasNumbered [] n
none_numbered n long empty = record {
  long = long;
  nothing = λ i. (λ _. refl, λ _. past i);
  keys = λ i m x met number. absurd (cc (past i, number));
  first = λ i m k number lt. absurd (cc (past i, number));
  counted = λ k. (λ lt. absurd (omega (arith, lt, empty)), λ w. absurd (cc (past w.0, w.1)));
  distinct = λ i j x a b. let w = at_split (λ v. v.items) n.keys.keys i x a in absurd (omega (arith, empty, get_below n.keys.keys i w.0 w.1));
}
  where
    past : (i : ℕ) → entry n.numbers.items i ≡ None
    past i = entry_past n.numbers.items i (omega (arith, long))

module _ {A B : Type 0} where
  push_none : (xs : List (Option A)) (ys : List (Option B)) (x : Option A) (y : Option B) → length xs ≡ length ys → ((i : ℕ) → entry xs i ≡ None → entry ys i ≡ None) → (x ≡ None → y ≡ None) → (i : ℕ) → entry (xs ++ x ∷ []) i ≡ None → entry (ys ++ y ∷ []) i ≡ None
  push_none xs ys x y long before one i none = go (cases_lt i (length xs)) (cases_eq i (length xs))
    where
      go : (i < length xs) ⊎ (length xs ≤ i) → (i ≡ length xs) ⊎ (i ≡ length xs → ⊥) → entry (ys ++ y ∷ []) i ≡ None
      go (inl lt) _ = entry_left ys y i (omega (arith, lt, long)) ∙ before i (sym (entry_left xs x i lt) ∙ none)
      go (inr le) (inl e) = ap (entry (ys ++ y ∷ [])) (e ∙ long) ∙ (entry_last ys y ∙ one (sym (entry_last xs x) ∙ (ap (entry (xs ++ x ∷ [])) (sym e) ∙ none)))
      go (inr le) (inr other) = entry_past (ys ++ y ∷ []) i (omega (arith, le, other, long, length_push ys y))

-- something with no key was handed in
pub added_none : (met : List (Option (List ℕ))) (n n' : Numbering) → HasNumbered met n → n'.keys ≡ n.keys → n'.numbers.items ≡ n.numbers.items ++ None ∷ [] → HasNumbered (met ++ None ∷ []) n'
added_none met n n' h keys numbers = record {
  long = ap length numbers ∙ omega (arith, length_push {X = Option ℕ} n.numbers.items None, length_push {X = Option (List ℕ)} met None, h.long);
  nothing = λ i. (λ e. push_none n.numbers.items met None None h.long (λ k. (h.nothing k).0) (λ _. refl) i (sym (at_number i) ∙ e), λ e. at_number i ∙ push_none met n.numbers.items None None (sym h.long) (λ k. (h.nothing k).1) (λ _. refl) i e);
  keys = λ i m x is number. key i m x (entry_cases met None i x is) (entry_cases n.numbers.items None i m (sym (at_number i) ∙ number));
  first = λ i m k number lt. first_at i m k lt (entry_cases n.numbers.items None i m (sym (at_number i) ∙ number));
  counted = λ k. (λ lt. there k (omega (arith, lt, ap (λ s. length s.keys) keys)), λ w. back k w.0 (entry_cases n.numbers.items None w.0 k (sym (at_number w.0) ∙ w.1)));
  distinct = λ i j x a b. h.distinct i j x (sym (at_key i) ∙ a) (sym (at_key j) ∙ b);
}
  where
    at_number : (i : ℕ) → entry n'.numbers.items i ≡ entry (n.numbers.items ++ None ∷ []) i
    at_number i = ap (λ xs. entry xs i) numbers

    at_key : (k : ℕ) → key_at n' k ≡ key_at n k
    at_key k = ap (λ s. option_map (λ v. v.items) (slice_get s.keys k)) keys

    key : (i m : ℕ) (x : List ℕ) → ((i < length met) × (entry met i ≡ Some x)) ⊎ ((i ≡ length met) × (None ≡ Some x)) → ((i < length n.numbers.items) × (entry n.numbers.items i ≡ Some m)) ⊎ ((i ≡ length n.numbers.items) × (None ≡ Some m)) → key_at n' m ≡ Some x
    key i m x (inl a) (inl b) = at_key m ∙ h.keys i m x a.1 b.1
    key i m x (inr a) _ = let e = a.1 in absurd (cc (e))
    key i m x _ (inr b) = let e = b.1 in absurd (cc (e))

    first_at : (i m k : ℕ) → k < m → ((i < length n.numbers.items) × (entry n.numbers.items i ≡ Some m)) ⊎ ((i ≡ length n.numbers.items) × (None ≡ Some m)) → (j : ℕ) × (j < i) × (entry n'.numbers.items j ≡ Some k)
    first_at i m k lt (inr b) = let e = b.1 in absurd (cc (e))
    first_at i m k lt (inl b) = let w = h.first i m k b.1 lt in (w.0, w.1, at_number w.0 ∙ (entry_left n.numbers.items None w.0 (omega (arith, w.1, b.0)) ∙ w.2))

    there : (k : ℕ) → k < length n.keys.keys → (i : ℕ) × (entry n'.numbers.items i ≡ Some k)
    there k lt = let w = (h.counted k).0 lt in (w.0, at_number w.0 ∙ (entry_left n.numbers.items None w.0 (entry_below n.numbers.items w.0 k w.1) ∙ w.1))

    back : (k i : ℕ) → ((i < length n.numbers.items) × (entry n.numbers.items i ≡ Some k)) ⊎ ((i ≡ length n.numbers.items) × (None ≡ Some k)) → k < length n'.keys.keys
    back k i (inl b) = let lt = (h.counted k).1 (i, b.1) in omega (arith, lt, ap (λ s. length s.keys) keys)
    back k i (inr b) = let e = b.1 in absurd (cc (e))

-- something with a key was handed in
pub added_some : (met : List (Option (List ℕ))) (n n' : Numbering) (x : List ℕ) (m : ℕ) → HasNumbered met n → Inserted (λ v. v.items) n.keys.keys n'.keys.keys x m → n'.numbers.items ≡ n.numbers.items ++ Some m ∷ [] → HasNumbered (met ++ Some x ∷ []) n'
added_some met n n' x m h ins numbers = record {
  long = ap length numbers ∙ omega (arith, length_push n.numbers.items (Some m), length_push met (Some x), h.long);
  nothing = λ i. (λ e. push_none n.numbers.items met (Some m) (Some x) h.long (λ k. (h.nothing k).0) (λ q. absurd (cc (q))) i (sym (at_number i) ∙ e), λ e. at_number i ∙ push_none met n.numbers.items (Some x) (Some m) (sym h.long) (λ k. (h.nothing k).1) (λ q. absurd (cc (q))) i e);
  keys = λ i k y is number. key i k y (entry_cases met (Some x) i y is) (entry_cases n.numbers.items (Some m) i k (sym (at_number i) ∙ number));
  first = λ i k j number lt. first_at i k j lt (entry_cases n.numbers.items (Some m) i k (sym (at_number i) ∙ number));
  counted = λ k. (λ lt. there k lt (cases_lt k (length n.keys.keys)), λ w. back k w.0 (entry_cases n.numbers.items (Some m) w.0 k (sym (at_number w.0) ∙ w.1)));
  distinct = ins.apart;
}
  where
    at_number : (i : ℕ) → entry n'.numbers.items i ≡ entry (n.numbers.items ++ Some m ∷ []) i
    at_number i = ap (λ xs. entry xs i) numbers

    key : (i k : ℕ) (y : List ℕ) → ((i < length met) × (entry met i ≡ Some y)) ⊎ ((i ≡ length met) × (Some x ≡ Some y)) → ((i < length n.numbers.items) × (entry n.numbers.items i ≡ Some k)) ⊎ ((i ≡ length n.numbers.items) × (Some m ≡ Some k)) → key_at n' k ≡ Some y
    key i k y (inl a) (inl b) = ins.grows k y (h.keys i k y a.1 b.1)
    key i k y (inl a) (inr b) = absurd (omega (arith, a.0, b.0, h.long))
    key i k y (inr a) (inl b) = absurd (omega (arith, a.0, b.0, h.long))
    key i k y (inr a) (inr b) = let e = b.1 in let same_number : m ≡ k = cc (e) in ap (key_at n') (sym same_number) ∙ (ins.is ∙ a.1)

    first_at : (i k j : ℕ) → j < k → ((i < length n.numbers.items) × (entry n.numbers.items i ≡ Some k)) ⊎ ((i ≡ length n.numbers.items) × (Some m ≡ Some k)) → (q : ℕ) × (q < i) × (entry n'.numbers.items q ≡ Some j)
    first_at i k j lt (inl b) = let w = h.first i k j b.1 lt in (w.0, w.1, at_number w.0 ∙ (entry_left n.numbers.items (Some m) w.0 (omega (arith, w.1, b.0)) ∙ w.2))
    first_at i k j lt (inr b) =
        let e = b.1 in
        let same_number : m ≡ k = cc (e) in
        let w = (h.counted j).0 (omega (arith, lt, same_number, ins.next)) in
        let low = entry_below n.numbers.items w.0 j w.1 in
        (w.0, omega (arith, low, b.0), at_number w.0 ∙ (entry_left n.numbers.items (Some m) w.0 low ∙ w.1))

    there : (k : ℕ) → k < length n'.keys.keys → (k < length n.keys.keys) ⊎ (length n.keys.keys ≤ k) → (i : ℕ) × (entry n'.numbers.items i ≡ Some k)
    there k lt (inl less) = let w = (h.counted k).0 less in (w.0, at_number w.0 ∙ (entry_left n.numbers.items (Some m) w.0 (entry_below n.numbers.items w.0 k w.1) ∙ w.1))
    there k lt (inr le) = (length n.numbers.items, at_number (length n.numbers.items) ∙ (entry_last n.numbers.items (Some m) ∙ ap Some (sym (ins.new k le lt))))

    back : (k i : ℕ) → ((i < length n.numbers.items) × (entry n.numbers.items i ≡ Some k)) ⊎ ((i ≡ length n.numbers.items) × (Some m ≡ Some k)) → k < length n'.keys.keys
    back k i (inl b) = let lt = (h.counted k).1 (i, b.1) in omega (arith, lt, ins.longer)
    back k i (inr b) = let e = b.1 in let same_number : m ≡ k = cc (e) in omega (arith, same_number, ins.there)

-- the numbers of all that was handed in
pub numbered_are : (met : List (Option (List ℕ))) (n : Numbering) (count : ℕ) → HasNumbered met n → count ≡ length n.keys.keys → AreNumbers met n.numbers.items count
numbered_are met n count h e = record {
  long = h.long;
  nothing = h.nothing;
  one = λ i j k m x y a b c d. (λ same_number. alike x y (sym (h.keys i k x a c) ∙ (ap (key_at n) same_number ∙ h.keys j m y b d)), λ same_key. h.distinct k m x (h.keys i k x a c) (h.keys j m y b d ∙ ap Some (sym same_key)));
  first = h.first;
  counted = λ k. (λ lt. (h.counted k).0 (omega (arith, lt, e)), λ w. let lt = (h.counted k).1 w in omega (arith, lt, e));
}
  where
    alike : (x y : List ℕ) → Some x ≡ Some y → x ≡ y
    alike x y q = cc (q)
