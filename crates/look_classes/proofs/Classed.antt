-- The codes of looks to horizon 0 and to one farther stand for the looks.
use Rattle.std.proofs.Common.{◌≡◌, ℕ, zero, suc, ◌+◌, ◌-◌, ◌*◌, ◌<◌, ◌≤◌, ◌⊎◌, List, [], ◌∷◌, ◌++◌, map, cond, Option, Some, None, refl, sym, ap, ap₂, ◌∙◌, inl, inr, arith}
use lib.IntN.{ℤ, pos, negsuc, ◌-ℤ◌}
use Rattle.std.proofs.lemmas.Int.{ints}
use Rattle.std.proofs.lemmas.Bool.{cases_lt, le-leb, lt-leb}
use Rattle.std.proofs.lemmas.List.{same_from_push, map-append}
use Rattle.std.specs.Option.{option_map, option_and_then}
use Rattle.coincidence.specs.Joined.{IsTable}
use Rattle.region_grower.specs.Ways.{IsDart}
use Rattle.region_grower.specs.Regions.{RegionState}
use Rattle.region_grower.specs.Corners.{valence_at, rounds}
use Rattle.look_classes.specs.Tree.{distance, right_of}
use Rattle.look_classes.specs.Places.{placed, place, outer_side}
use Rattle.look_classes.specs.Looks.{both, each_below, CornerLook, distances_from, look_from, first_look, corner_look}
use Rattle.look_classes.specs.Codes.{difference_code, distance_code, distance_codes, look_code, first_code, next_code, number_at}
use Rattle.look_classes.proofs.Exact.{SameBy, IsInjective, same_both, same_then, same_left, same_right, map_none, map_some, some_one}
use Rattle.look_classes.proofs.Dead.{each_next, each_zero}

-- a difference in a number
abbrev zig : ℤ → ℕ
zig (pos n) = 2 * n
zig (negsuc n) = 2 * n + 1

zig_one : IsInjective zig
zig_one (pos m) (pos n) e = ap pos (omega (arith, e))
zig_one (pos m) (negsuc n) e = absurd (omega (arith, e))
zig_one (negsuc m) (pos n) e = absurd (omega (arith, e))
zig_one (negsuc m) (negsuc n) e = ap negsuc (omega (arith, e))

not_less : (a b : ℕ) → b ≤ a → pos a -ℤ pos b ≡ pos (a - b)
not_less a b le = omega (arith, ints, le)

less : (a b : ℕ) → a < b → pos a -ℤ pos b ≡ negsuc (b - a - 1)
less a b lt = omega (arith, ints, lt)

difference_is : (a b : ℕ) → difference_code a b ≡ zig (pos a -ℤ pos b)
difference_is a b = go (cases_lt a b)
  where
    go : (a < b) ⊎ (b ≤ a) → difference_code a b ≡ zig (pos a -ℤ pos b)
    go (inl lt) =
        let n : 2 * (b - a) - 1 ≡ 2 * (b - a - 1) + 1 = omega (arith, lt) in
        ap (λ t. cond t (2 * (a - b)) (2 * (b - a) - 1)) (lt-leb b a lt) ∙ (n ∙ sym (ap zig (less a b lt)))
    go (inr le) = ap (λ t. cond t (2 * (a - b)) (2 * (b - a) - 1)) (le-leb b a le) ∙ sym (ap zig (not_less a b le))

map_one : {A B : Type 0} (e : A → B) → IsInjective e → IsInjective (map e)
map_one e inj [] [] h = refl
map_one e inj [] (y ∷ ys) h = absurd (cc (h))
map_one e inj (x ∷ xs) [] h = absurd (cc (h))
map_one e inj (x ∷ xs) (y ∷ ys) h = go (λ k. map_one e inj xs ys k) (heads h)
  where
    heads : map e (x ∷ xs) ≡ map e (y ∷ ys) → (e x ≡ e y) × (map e xs ≡ map e ys)
    heads h = (cc (h), cc (h))

    go : (map e xs ≡ map e ys → xs ≡ ys) → (e x ≡ e y) × (map e xs ≡ map e ys) → x ∷ xs ≡ y ∷ ys
    go rest w = ap₂ (λ a b. a ∷ b) (inj x y w.0) (rest w.1)

-- each of what is made
each_map : {A B : Type 0} (z : A → B) (n : ℕ) (g : ℕ → Option A) → each_below n (λ j. option_map z (g j)) ≡ option_map (map z) (each_below n g)
each_map z zero g = each_zero (λ j. option_map z (g j)) ∙ sym (ap (option_map (map z)) (each_zero g))
each_map {A} {B} z (suc n) g =
    each_next n (λ j. option_map z (g j)) ∙ (ap (λ o. both (λ xs x. xs ++ x ∷ []) o (option_map z (g n))) (each_map z n g) ∙ (join (each_below n g) (g n) ∙ sym (ap (option_map (map z)) (each_next n g))))
  where
    join : (o : Option (List A)) (w : Option A) → both (λ xs x. xs ++ x ∷ []) (option_map (map z) o) (option_map z w) ≡ option_map (map z) (both (λ xs x. xs ++ x ∷ []) o w)
    join None w = refl
    join (Some xs) None = refl
    join (Some xs) (Some x) = ap Some (sym (map-append z xs (x ∷ [])))

each_same : {A : Type 0} (n : ℕ) (f g : ℕ → Option A) → ((j : ℕ) → f j ≡ g j) → each_below n f ≡ each_below n g
each_same zero f g same = each_zero f ∙ sym (each_zero g)
each_same (suc n) f g same = each_next n f ∙ (ap₂ (both (λ xs x. xs ++ x ∷ [])) (each_same n f g same) (same n) ∙ sym (each_next n g))

abbrev encode : CornerLook → List ℕ
encode l = map zig l.distances ++ l.outer_place ∷ []

encode_one : IsInjective encode
encode_one a b e =
    let w = same_from_push (map zig a.distances) (map zig b.distances) a.outer_place b.outer_place e in
    ap₂ (λ (ds : List ℤ) (p : ℕ). record { distances = ds; outer_place = p }) (map_one zig zig_one a.distances b.distances w.0) w.1

module _ (r : RegionState) (table : IsTable r.table) where
  distances_are : (b : ℕ × ℕ) → distance_codes r b ≡ option_map (map zig) (distances_from r b)
  unfolding distances_from
  distances_are b =
      each_same (valence_at r.table b) (λ j. option_map (distance_code r b) (rounds j r.table b)) (λ j. option_map zig (option_map (λ e. pos (distance r e.0) -ℤ pos (distance r b.0)) (rounds j r.table b))) (λ j. one (rounds j r.table b)) ∙ each_map zig (valence_at r.table b) (λ j. option_map (λ e. pos (distance r e.0) -ℤ pos (distance r b.0)) (rounds j r.table b))
    where
      one : (o : Option (ℕ × ℕ)) → option_map (distance_code r b) o ≡ option_map zig (option_map (λ e. pos (distance r e.0) -ℤ pos (distance r b.0)) o)
      one None = refl
      one (Some e) = ap Some (difference_is (distance r e.0) (distance r b.0))

  look_is : (b : ℕ × ℕ) → look_code r b ≡ option_map encode (look_from r b)
  unfolding look_code look_from
  look_is b = ap (λ o. both (λ ds p. ds ++ p ∷ []) o (place r (right_of r b))) (distances_are b) ∙ join (distances_from r b) (place r (right_of r b))
    where
      join : (o : Option (List ℤ)) (w : Option ℕ) → both (λ ds p. ds ++ p ∷ []) (option_map (map zig) o) w ≡ option_map encode (both (λ ds p. record { distances = ds; outer_place = p }) o w)
      join None w = refl
      join (Some ds) None = refl
      join (Some ds) (Some p) = refl

  first_is : (d : ℕ × ℕ) → first_code r d ≡ option_map encode (first_look r d)
  unfolding first_code
  first_is d = join (placed r d)
    where
      join : (o : Option (ℕ × (ℕ × ℕ))) → option_and_then (λ b. look_code r b.1) o ≡ option_map encode (option_and_then (λ b. look_from r b.1) o)
      join None = refl
      join (Some b) = look_is b.1

  zero_is : (d : ℕ × ℕ) → corner_look 0 r d ≡ option_map (λ x. x ∷ []) (first_look r d)
  unfolding corner_look
  zero_is d = refl

  next_is : (h : ℕ) (d : ℕ × ℕ) → corner_look (suc h) r d ≡ both (λ x xs. x ∷ xs) (first_look r d) (option_and_then (corner_look h r) (outer_side r d))
  unfolding corner_look
  next_is h d = refl

  code_is : (firsts corners : List (Option ℕ)) (d : ℕ × ℕ) → next_code r firsts corners d ≡ both (λ a b. a ∷ b ∷ []) (number_at r firsts d) (option_and_then (number_at r corners) (outer_side r d))
  unfolding next_code
  code_is firsts corners d = refl

  -- looks to horizon 0 by their codes
  pub first_same : (P : ℕ × ℕ → Type 0) → SameBy P (first_code r) (first_look r)
  first_same P = same_left P (first_code r) (λ d. option_map encode (first_look r d)) (first_look r) (λ d _. first_is d) (same_map_left P)
    where
      same_map_left : (P : ℕ × ℕ → Type 0) → SameBy P (λ d. option_map encode (first_look r d)) (first_look r)
      same_map_left P = record {
        none = λ x _ n. map_none P encode (first_look r x) n;
        back = λ x _ n. ap (option_map encode) n;
        one = λ x y a b u v _ _ fa fb gu gv.
            let ea : a ≡ encode u = sym (some_one (encode u) a (sym (ap (option_map encode) gu) ∙ fa)) in
            let eb : b ≡ encode v = sym (some_one (encode v) b (sym (ap (option_map encode) gv) ∙ fb)) in
            (λ s. encode_one u v (sym ea ∙ (s ∙ eb)), λ s. ea ∙ (ap encode s ∙ sym eb));
      }

  -- numbers of looks to horizon 0 are those of what is looked at first
  pub zero_same : {A : Type 0} (P : ℕ × ℕ → Type 0) (f : ℕ × ℕ → Option A) → SameBy P f (first_look r) → SameBy P f (corner_look 0 r)
  zero_same P f h = record {
    none = λ x p n. zero_is x ∙ ap (option_map (λ x. x ∷ [])) (h.none x p n);
    back = λ x p n. h.back x p (map_none P (λ x. x ∷ []) (first_look r x) (sym (zero_is x) ∙ n));
    one = λ x y a b u v p q fa fb gu gv.
        let u' = map_some P (λ x. x ∷ []) (first_look r x) u (sym (zero_is x) ∙ gu) in
        let v' = map_some P (λ x. x ∷ []) (first_look r y) v (sym (zero_is y) ∙ gv) in
        let w = h.one x y a b u'.0 v'.0 p q fa fb u'.1 v'.1 in
        (λ s. sym u'.2 ∙ (ap (λ x. x ∷ []) (w.0 s) ∙ v'.2), λ s. w.1 (head u'.0 v'.0 (u'.2 ∙ (s ∙ sym v'.2))));
  }
    where
      head : (a b : CornerLook) → a ∷ [] ≡ b ∷ [] → a ≡ b
      head a b e = cc (e)

  pub next_same : (h : ℕ) (firsts corners : List (Option ℕ)) → SameBy (IsDart r.table) (number_at r firsts) (first_look r) → SameBy (IsDart r.table) (number_at r corners) (corner_look h r) → ((d e : ℕ × ℕ) → IsDart r.table d → outer_side r d ≡ Some e → IsDart r.table e) → SameBy (IsDart r.table) (next_code r firsts corners) (corner_look (suc h) r)
  next_same h firsts corners one two goes =
      same_left (IsDart r.table) (next_code r firsts corners) (λ d. both (λ a b. a ∷ b ∷ []) (number_at r firsts d) (option_and_then (number_at r corners) (outer_side r d))) (corner_look (suc h) r) (λ d _. code_is firsts corners d)
      (same_right (IsDart r.table) (λ d. both (λ a b. a ∷ b ∷ []) (number_at r firsts d) (option_and_then (number_at r corners) (outer_side r d))) (corner_look (suc h) r) (λ d. both (λ x xs. x ∷ xs) (first_look r d) (option_and_then (corner_look h r) (outer_side r d))) (λ d _. next_is h d)
      (same_both (IsDart r.table) (λ a b. a ∷ b ∷ []) (λ x xs. x ∷ xs) (number_at r firsts) (first_look r) (λ d. option_and_then (number_at r corners) (outer_side r d)) (λ d. option_and_then (corner_look h r) (outer_side r d)) two_one cons_one one (same_then (IsDart r.table) (IsDart r.table) (outer_side r) (number_at r corners) (corner_look h r) goes two)))
    where
      two_one : (x x' y y' : ℕ) → x ∷ y ∷ [] ≡ x' ∷ y' ∷ [] → (x ≡ x') × (y ≡ y')
      two_one x x' y y' e = (cc (e), cc (e))

      cons_one : (x x' : CornerLook) (y y' : List CornerLook) → x ∷ y ≡ x' ∷ y' → (x ≡ x') × (y ≡ y')
      cons_one x x' y y' e = (cc (e), cc (e))
