-- Rings of names: the names below a state of each length, in order, as one list; and a ring is one list alone.
use Rattle.std.proofs.lemmas.Bool.{cases_eq}
use Rattle.std.proofs.Common.{◌≡◌, ℕ, zero, suc, ◌+◌, ◌<◌, ◌≤◌, ◌⊎◌, ◌↔◌, inl, inr, ⊎_elim, List, [], ◌∷◌, ◌++◌, length, map, refl, sym, ap, ap₂, ◌∙◌, subst, arith, length-append}
use Rattle.std.specs.Prelude.{All, AllPairs, Contains}
use Rattle.std.proofs.lemmas.List.{length-map}
use Rattle.std.proofs.lemmas.List.Kept.{AllPairs-cons}
use Rattle.std.proofs.lemmas.List.Elements.{Contains-get_or, Contains-append_left, Contains-append_right, Contains-append_cases}
use Rattle.tile_model.specs.Tessellations.{TileKind}
use Rattle.tree_model.specs.declared.Rule.{Rule}
use Rattle.tree_model.specs.declared.Rule.TheVariants.{Parent, Child, Left, Right}
use Rattle.tree_model.specs.Automata.{TreeAutomaton, rule_at, root_at, side_count}
use Rattle.tree_model.specs.Names.{child_of, IsNameBelow, IsBefore, shorter, smaller, later, IsRing}

-- lists, their members and their order
module _ {A : Type 0} where
  member_cases : (x z : A) (xs : List A) → Contains (x ∷ xs) z → (x ≡ z) ⊎ Contains xs z
  member_cases x z xs (zero, lt, e) = inl e
  member_cases x z xs (suc k, lt, e) = inr (k, omega arith, e)

  member_first : (x : A) (xs : List A) → Contains (x ∷ xs) x
  member_first x xs = (0, omega arith, refl)

  member_later : (x z : A) (xs : List A) → Contains xs z → Contains (x ∷ xs) z
  member_later x z xs (k, lt, e) = (suc k, omega (arith, lt), e)

  no_member : (z : A) → Contains [] z → ⊥
  no_member z (k, lt, e) = absurd (omega (arith, lt))

  all_members : (P : A → Type 0) (xs : List A) → ((z : A) → Contains xs z → P z) → All P xs
  all_members P xs h k d lt = h _ (Contains-get_or xs k d lt)

  module _ (R : A → A → Type 0) where
    first_of : (x z : A) (xs : List A) → AllPairs R (x ∷ xs) → Contains xs z → R x z
    first_of x z xs h (k, lt, e) = subst (R x) e (h 0 (suc k) z (omega arith) (omega (arith, lt)))

    rest_of : (x : A) (xs : List A) → AllPairs R (x ∷ xs) → AllPairs R xs
    rest_of x xs h i j d lt within = h (suc i) (suc j) d (omega (arith, lt)) (omega (arith, within))

    ordered_append : (xs ys : List A) → AllPairs R xs → AllPairs R ys → ((x y : A) → Contains xs x → Contains ys y → R x y) → AllPairs R (xs ++ ys)
    ordered_append [] ys h g between = g
    ordered_append (x ∷ xs) ys h g between =
        let rest = ordered_append xs ys (rest_of x xs h) g (λ u v m n. between u v (member_later x u xs m) n) in
        AllPairs-cons R x (xs ++ ys) (all_members (R x) (xs ++ ys) (λ z m. go z (Contains-append_cases xs ys z m))) rest
      where
        go : (z : A) → Contains xs z ⊎ Contains ys z → R x z
        go z (inl m) = first_of x z xs h m
        go z (inr m) = between x z (member_first x xs) m

module _ {A B : Type 0} (f : A → B) where
  member_map : (xs : List A) (x : A) → Contains xs x → Contains (map f xs) (f x)
  member_map [] x m = absurd (no_member x m)
  member_map (y ∷ xs) x m = ⊎_elim (λ e. (0, omega arith, ap f e)) (λ n. member_later (f y) (f x) (map f xs) (member_map xs x n)) (member_cases y x xs m)

  map_member : (xs : List A) (z : B) → Contains (map f xs) z → (x : A) × Contains xs x × (f x ≡ z)
  map_member [] z m = absurd (no_member z m)
  map_member (y ∷ xs) z m = ⊎_elim (λ e. (y, member_first y xs, e)) (λ n. let (x, h, e) = map_member xs z n in (x, member_later y x xs h, e)) (member_cases (f y) z (map f xs) m)

  ordered_map : (R : A → A → Type 0) (S : B → B → Type 0) → ((x y : A) → R x y → S (f x) (f y)) → (xs : List A) → AllPairs R xs → AllPairs S (map f xs)
  ordered_map R S keeps [] h = λ i j d lt within. absurd (omega (arith, within))
  ordered_map R S keeps (x ∷ xs) h =
      AllPairs-cons S (f x) (map f xs)
      (all_members (S (f x)) (map f xs) (λ z m. let (y, n, e) = map_member xs z m in subst (S (f x)) e (keeps x y (first_of R x y xs h n))))
      (ordered_map R S keeps xs (rest_of R x xs h))

-- the order of names, read off the two names
abbrev Precedes : List ℕ → List ℕ → Type 0
Precedes [] [] = ⊥
Precedes [] (j ∷ n) = Unit {0}
Precedes (i ∷ m) [] = ⊥
Precedes (i ∷ m) (j ∷ n) = (i < j) ⊎ ((i ≡ j) × Precedes m n)

precedes : {m n : List ℕ} → IsBefore m n → Precedes m n
precedes (shorter i name) = tt
precedes (smaller i j m n l) = inl l
precedes (later i m n b) = inr (refl, precedes b)

precede_both : (m n : List ℕ) → Precedes m n → Precedes n m → ⊥
precede_both [] [] h g = h
precede_both [] (j ∷ n) h g = g
precede_both (i ∷ m) [] h g = h
precede_both (i ∷ m) (j ∷ n) h g =
    ⊎_elim (λ l. ⊎_elim (λ k. absurd (omega (arith, l, k))) (λ k. absurd (omega (arith, l, k.0))) g) (λ l. ⊎_elim (λ k. absurd (omega (arith, l.0, k))) (λ k. precede_both m n l.1 k.1) g) h

-- it is strict
before_both : (m n : List ℕ) → IsBefore m n → IsBefore n m → ⊥
before_both m n b c = precede_both m n (precedes b) (precedes c)

pub before_itself : (m : List ℕ) → IsBefore m m → ⊥
before_itself m b = before_both m m b b

-- two lists in order with the same members are one list
pub same_ordered : (xs ys : List (List ℕ)) → AllPairs IsBefore xs → AllPairs IsBefore ys → ((z : List ℕ) → Contains xs z ↔ Contains ys z) → xs ≡ ys
same_ordered [] [] h g same = refl
same_ordered [] (y ∷ ys) h g same = absurd (no_member y ((same y).1 (member_first y ys)))
same_ordered (x ∷ xs) [] h g same = absurd (no_member x ((same x).0 (member_first x xs)))
same_ordered (x ∷ xs) (y ∷ ys) h g same = ap₂ (λ u v. u ∷ v) e (same_ordered xs ys (rest_of IsBefore x xs h) (rest_of IsBefore y ys g) (λ z. (there z, back z)))
  where
    meet : (y ≡ x) ⊎ Contains ys x → (x ≡ y) ⊎ Contains xs y → x ≡ y
    meet (inl q) _ = sym q
    meet (inr m) (inl q) = q
    meet (inr m) (inr n) = absurd (before_both x y (first_of IsBefore x y xs h n) (first_of IsBefore y x ys g m))

    e : x ≡ y
    e = meet (member_cases y x ys ((same x).0 (member_first x xs))) (member_cases x y xs ((same y).1 (member_first y ys)))

    there_by : (z : List ℕ) → Contains xs z → (y ≡ z) ⊎ Contains ys z → Contains ys z
    there_by z m (inl q) = absurd (before_itself z (subst (λ u. IsBefore u z) (e ∙ q) (first_of IsBefore x z xs h m)))
    there_by z m (inr n) = n

    there : (z : List ℕ) → Contains xs z → Contains ys z
    there z m = there_by z m (member_cases y z ys ((same z).0 (member_later x z xs m)))

    back_by : (z : List ℕ) → Contains ys z → (x ≡ z) ⊎ Contains xs z → Contains xs z
    back_by z m (inl q) = absurd (before_itself z (subst (λ u. IsBefore u z) (sym e ∙ q) (first_of IsBefore y z ys g m)))
    back_by z m (inr n) = n

    back : (z : List ℕ) → Contains ys z → Contains xs z
    back z m = back_by z m (member_cases x z xs ((same z).1 (member_later y z ys m)))

-- a kind has one ring d
pub one_ring : (kinds : List TileKind) (a : TreeAutomaton) (k d : ℕ) (names names' : List (List ℕ)) → IsRing kinds a k d names → IsRing kinds a k d names' → names ≡ names'
one_ring kinds a k d names names' h g =
    same_ordered names names' h.ordered g.ordered (λ z. ((λ m. (g.members z).1 ((h.members z).0 m)), (λ m. (h.members z).1 ((g.members z).0 m))))

-- the names behind each of n sides from side i on, where f tells those behind one side
abbrev pub behind_sides : (ℕ → List (List ℕ)) → ℕ → ℕ → List (List ℕ)
behind_sides f zero i = []
behind_sides f (suc n) i = map (λ m. i ∷ m) (f i) ++ behind_sides f n (suc i)

abbrev pub behind_rule : (ℕ → List (List ℕ)) → Rule → List (List ℕ)
behind_rule f (Child c) = f c
behind_rule f _ = []

-- the names of length d below state s, in order
abbrev pub names_below : List TileKind → TreeAutomaton → ℕ → ℕ → List (List ℕ)
names_below kinds a zero s = [] ∷ []
names_below kinds a (suc d) s = behind_sides (λ i. behind_rule (names_below kinds a d) (rule_at a s i)) (side_count kinds a s) 0

module _ (f : ℕ → List (List ℕ)) where
  -- a name behind one of the sides
  record IsBehind (n i : ℕ) (m : List ℕ) : Type 0 where
    side : ℕ
    from : i ≤ side
    below : side < i + n
    rest : List ℕ
    is : m ≡ side ∷ rest
    member : Contains (f side) rest

  behind_is : (n i : ℕ) (m : List ℕ) → Contains (behind_sides f n i) m → IsBehind n i m
  behind_is zero i m h = absurd (no_member m h)
  behind_is (suc n) i m h =
      ⊎_elim (λ c. let (t, u, e) = map_member (λ t. i ∷ t) (f i) m c in record { side = i; from = omega arith; below = omega arith; rest = t; is = sym e; member = u })
      (λ c. let r = behind_is n (suc i) m c in record { side = r.side; from = omega (arith, r.from); below = omega (arith, r.below); rest = r.rest; is = r.is; member = r.member })
      (Contains-append_cases (map (λ t. i ∷ t) (f i)) (behind_sides f n (suc i)) m h)

  is_behind : (n i j : ℕ) (t : List ℕ) → i ≤ j → j < i + n → Contains (f j) t → Contains (behind_sides f n i) (j ∷ t)
  is_behind zero i j t l h c = absurd (omega (arith, l, h))
  is_behind (suc n) i j t l h c =
      ⊎_elim
      (λ e. Contains-append_left (map (λ m. i ∷ m) (f i)) (behind_sides f n (suc i)) (j ∷ t) (subst (λ x. Contains (map (λ m. i ∷ m) (f i)) (x ∷ t)) e (member_map (λ m. i ∷ m) (f i) t (subst (λ x. Contains (f x) t) (sym e) c))))
      (λ e. Contains-append_right (map (λ m. i ∷ m) (f i)) (behind_sides f n (suc i)) (j ∷ t) (is_behind n (suc i) j t (omega (arith, l, e)) (omega (arith, h)) c))
      (cases_eq i j)

  behind_ordered : ((j : ℕ) → AllPairs IsBefore (f j)) → (n i : ℕ) → AllPairs IsBefore (behind_sides f n i)
  behind_ordered each zero i = λ x y d lt within. absurd (omega (arith, within))
  behind_ordered each (suc n) i =
      ordered_append IsBefore (map (λ m. i ∷ m) (f i)) (behind_sides f n (suc i))
      (ordered_map (λ m. i ∷ m) IsBefore IsBefore (λ x y b. later i x y b) (f i) (each i))
      (behind_ordered each n (suc i))
      (λ x y c e.
      let (t, u, p) = map_member (λ m. i ∷ m) (f i) x c in
      let r = behind_is n (suc i) y e in
      subst (λ v. IsBefore v y) p (subst (λ v. IsBefore (i ∷ t) v) (sym r.is) (smaller i r.side t r.rest (omega (arith, r.from)))))

module _ (kinds : List TileKind) (a : TreeAutomaton) where
  rule_ordered : (d : ℕ) → ((s : ℕ) → AllPairs IsBefore (names_below kinds a d s)) → (r : Rule) → AllPairs IsBefore (behind_rule (names_below kinds a d) r)
  rule_ordered d each (Child c) = each c
  rule_ordered d each Parent = λ x y e lt within. absurd (omega (arith, within))
  rule_ordered d each Left = λ x y e lt within. absurd (omega (arith, within))
  rule_ordered d each Right = λ x y e lt within. absurd (omega (arith, within))

  below_ordered : (d s : ℕ) → AllPairs IsBefore (names_below kinds a d s)
  below_ordered zero s = λ x y e lt within. absurd (omega (arith, lt, within))
  below_ordered (suc d) s = behind_ordered (λ i. behind_rule (names_below kinds a d) (rule_at a s i)) (λ j. rule_ordered d (below_ordered d) (rule_at a s j)) (side_count kinds a s) 0

  rule_members : (d : ℕ) (r : Rule) (m : List ℕ) → Contains (behind_rule (names_below kinds a d) r) m → (r ≡ Child (child_of r)) × Contains (names_below kinds a d (child_of r)) m
  rule_members d (Child c) m h = (refl, h)
  rule_members d Parent m h = absurd (no_member m h)
  rule_members d Left m h = absurd (no_member m h)
  rule_members d Right m h = absurd (no_member m h)

  members_rule : (d : ℕ) (r : Rule) (m : List ℕ) → r ≡ Child (child_of r) → Contains (names_below kinds a d (child_of r)) m → Contains (behind_rule (names_below kinds a d) r) m
  members_rule d r m e h = subst (λ q. Contains (behind_rule (names_below kinds a d) q) m) (sym e) h

  below_names : (d s : ℕ) (m : List ℕ) → Contains (names_below kinds a d s) m → IsNameBelow kinds a s m × (length m ≡ d)
  below_names zero s m h = go (member_cases [] m [] h)
    where
      go : ([] ≡ m) ⊎ Contains [] m → IsNameBelow kinds a s m × (length m ≡ 0)
      go (inl e) = (subst (IsNameBelow kinds a s) e tt, ap length (sym e))
      go (inr c) = absurd (no_member m c)
  below_names (suc d) s m h =
      let r = behind_is (λ i. behind_rule (names_below kinds a d) (rule_at a s i)) (side_count kinds a s) 0 m h in
      let (e, c) = rule_members d (rule_at a s r.side) r.rest r.member in
      let (n, l) = below_names d (child_of (rule_at a s r.side)) r.rest c in
      (subst (IsNameBelow kinds a s) (sym r.is) (omega (arith, r.below), e, n), ap length r.is ∙ omega (arith, l))

  names_are_below : (d s : ℕ) (m : List ℕ) → IsNameBelow kinds a s m → length m ≡ d → Contains (names_below kinds a d s) m
  names_are_below zero s [] h e = member_first [] []
  names_are_below zero s (i ∷ m) h e = absurd (omega (arith, e))
  names_are_below (suc d) s [] h e = absurd (omega (arith, e))
  names_are_below (suc d) s (i ∷ m) h e =
      is_behind (λ j. behind_rule (names_below kinds a d) (rule_at a s j)) (side_count kinds a s) 0 i m (omega arith) (omega (arith, h.0))
      (members_rule d (rule_at a s i) m h.1 (names_are_below d (child_of (rule_at a s i)) m h.2 (omega (arith, e))))

  -- they are the ring
  pub ring_is : (k d : ℕ) → IsRing kinds a k d (names_below kinds a d (root_at a k))
  ring_is k d = record { ordered = below_ordered d (root_at a k); members = λ m. (below_names d (root_at a k) m, λ h. names_are_below d (root_at a k) m h.0 h.1) }

-- their number, side by side
abbrev pub count_sides : (ℕ → ℕ) → ℕ → ℕ → ℕ
count_sides f zero i = 0
count_sides f (suc n) i = f i + count_sides f n (suc i)

abbrev pub count_rule : (ℕ → ℕ) → Rule → ℕ
count_rule f (Child c) = f c
count_rule f _ = 0

-- the number of names of length d below state s
abbrev pub count_below : List TileKind → TreeAutomaton → ℕ → ℕ → ℕ
count_below kinds a zero s = 1
count_below kinds a (suc d) s = count_sides (λ i. count_rule (count_below kinds a d) (rule_at a s i)) (side_count kinds a s) 0

length_sides : (f : ℕ → List (List ℕ)) (g : ℕ → ℕ) → ((i : ℕ) → length (f i) ≡ g i) → (n i : ℕ) → length (behind_sides f n i) ≡ count_sides g n i
length_sides f g each zero i = refl
length_sides f g each (suc n) i =
    let rest = length_sides f g each n (suc i) in
    length-append (map (λ m. i ∷ m) (f i)) (behind_sides f n (suc i)) ∙ omega (arith, length-map (f i) (λ m. i ∷ m), each i, rest)

length_rule : (kinds : List TileKind) (a : TreeAutomaton) (d : ℕ) → ((s : ℕ) → length (names_below kinds a d s) ≡ count_below kinds a d s) → (r : Rule) → length (behind_rule (names_below kinds a d) r) ≡ count_rule (count_below kinds a d) r
length_rule kinds a d each (Child c) = each c
length_rule kinds a d each Parent = refl
length_rule kinds a d each Left = refl
length_rule kinds a d each Right = refl

-- so a ring is counted state by state, by the rings of one length less
pub length_below : (kinds : List TileKind) (a : TreeAutomaton) (d s : ℕ) → length (names_below kinds a d s) ≡ count_below kinds a d s
length_below kinds a zero s = refl
length_below kinds a (suc d) s =
    length_sides (λ i. behind_rule (names_below kinds a d) (rule_at a s i)) (λ i. count_rule (count_below kinds a d) (rule_at a s i)) (λ i. length_rule kinds a d (length_below kinds a d) (rule_at a s i)) (side_count kinds a s) 0
