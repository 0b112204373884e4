-- Classes by keys: they are told apart where those before were, and where they are no more than those
-- before they are stable.
use Rattle.std.proofs.Common.{◌≡◌, ◌≢◌, ◌⊎◌, inl, inr, ℕ, zero, suc, ◌<◌, ◌≤◌, List, [], ◌∷◌, length, slice_index_or, replicate, refl, sym, ap, ap₂, ◌∙◌, subst, arith}
use Rattle.std.proofs.lemmas.Bool.{cases_eq, cases_lt}
use Rattle.std.proofs.lemmas.List.{length-map}
use Rattle.tile_model.proofs.Pigeonhole.{pigeonhole}
use Rattle.tile_model.specs.Tessellations.{TileKind}
use Rattle.tree_model.specs.declared.Rule.TheVariants.{Parent, Child}
use Rattle.tree_model.specs.Automata.{TreeState, TreeAutomaton, state_at, rule_at, side_count}
use Rattle.tree_model.specs.Conditions.{IsAccepted}
use Rattle.tree_model.specs.Names.{child_of}
use Rattle.merge_model.specs.Faces.{with_child, face, face_at}
use Rattle.merge_model.specs.Telling.{AreTold, AreAlike}
use Rattle.merge_laws.proofs.Copies.{mapped, plain_face, face_sides, face_child}
use Rattle.merge_laws.proofs.Paths.{face_told, child_told, stable_alike}
use Rattle.rules_tools.specs.Keys.{class_of, state_code, classed_state, key_of}
use Rattle.rules_tools.specs.Classes.{AreApart, AreStable, AreByKey, AreFaces, Uses, IsSettling}
use Rattle.rules_tools.proofs.Deciding.{same_states, OfStates, one_state, two_faces, two_children, states_cases}

module _ (a : TreeAutomaton) (class : List ℕ) where
  pub key_class : (s t : ℕ) → key_of a class s ≡ key_of a class t → class_of class s ≡ class_of class t
  unfolding key_of
  key_class s t e = cc (e)

  pub key_state : (s t : ℕ) → key_of a class s ≡ key_of a class t → classed_state a class s ≡ classed_state a class t
  unfolding key_of
  key_state s t e =
      let rest : state_code (classed_state a class s) ≡ state_code (classed_state a class t) = cc (e) in
      same_states (classed_state a class s) (classed_state a class t) rest

  pub same_key : (s t : ℕ) → class_of class s ≡ class_of class t → classed_state a class s ≡ classed_state a class t → key_of a class s ≡ key_of a class t
  unfolding key_of
  same_key s t e q = ap₂ (λ n u. n ∷ state_code u) e q

-- so many classes are at most the states
pub by_key_few : (a : TreeAutomaton) (before class : List ℕ) (count : ℕ) → AreByKey a before class count → count ≤ length a.states
by_key_few a before class count keys = go count refl
  where
    most : (m s : ℕ) → s < length a.states → class_of class s ≡ m → m ≤ s
    most zero s ls e = omega arith
    most (suc m) s ls e = let (t, lt, q) = keys.first s m ls (omega (arith, e)) in omega (arith, lt, most m t (omega (arith, lt, ls)) q)

    go : (n : ℕ) → n ≡ count → n ≤ length a.states
    go zero e = omega arith
    go (suc n) e = let (s, ls, q) = keys.used n (omega (arith, e)) in omega (arith, most n s ls q, ls)

module _ (kinds : List TileKind) (a : TreeAutomaton) (ok : IsAccepted kinds a) where
  pub rule_is : (s i c : ℕ) → slice_index_or (state_at a s).rules i Parent ≡ Child c → rule_at a s i ≡ Child c
  unfolding rule_at
  rule_is s i c h = h

  pub goes_on : (s i c : ℕ) → s < length a.states → i < length (state_at a s).rules → rule_at a s i ≡ Child c → (i < side_count kinds a s) × (rule_at a s i ≡ Child (child_of (rule_at a s i)))
  goes_on s i c ls lt h = (subst (λ n. i < n) (ok.c1.tables s ls).rules lt, h ∙ ap (λ r. Child (child_of r)) (sym h))

  pub child_below : (s i c : ℕ) → s < length a.states → i < side_count kinds a s → rule_at a s i ≡ Child c → c < length a.states
  child_below s i c ls lt h = (ok.c1.targets s ls).child i c lt h

  -- a path tells states of two keys apart
  pub keys_told : (class : List ℕ) → AreApart kinds a class → (s t : ℕ) → s < length a.states → t < length a.states → key_of a class s ≢ key_of a class t → AreTold kinds a s t
  keys_told class apart s t ls lt other = go (cases_eq (class_of class s) (class_of class t)) (states_cases (class_of class) (state_at a s) (state_at a t))
    where
      go : (class_of class s ≡ class_of class t) ⊎ (class_of class s ≢ class_of class t) → OfStates (class_of class) (state_at a s) (state_at a t) → AreTold kinds a s t
      go (inr d) _ = apart s t ls lt d
      go (inl e) (one_state q) = absurd (other (same_key a class s t e q))
      go (inl e) (two_faces d) = face_told kinds a s t d
      go (inl e) (two_children i c d less h h' apart_too) =
          children (cases_eq (length (state_at a s).rules) (length (state_at a t).rules))
        where
          children : (length (state_at a s).rules ≡ length (state_at a t).rules) ⊎ (length (state_at a s).rules ≢ length (state_at a t).rules) → AreTold kinds a s t
          children (inr n) = face_told kinds a s t (λ same. n (longs same))
            where
              longs : face_at a s ≡ face_at a t → length (state_at a s).rules ≡ length (state_at a t).rules
              longs same = sym (length-map (state_at a s).rules (with_child (λ x. 0))) ∙ ap (λ (u : TreeState). length u.rules) same ∙ length-map (state_at a t).rules (with_child (λ x. 0))
          children (inl n) =
              let r = rule_is s i c h in
              let r' = rule_is t i d h' in
              let g = goes_on s i c ls less r in
              let g' = goes_on t i d lt (subst (λ k. i < k) n less) r' in
              let told = apart c d (child_below s i c ls g.0 r) (child_below t i d lt g'.0 r') apart_too in
              let told' : AreTold kinds a (child_of (rule_at a s i)) (child_of (rule_at a t i)) =
              subst (λ x. AreTold kinds a x (child_of (rule_at a t i))) (sym (ap child_of r)) (subst (λ y. AreTold kinds a c y) (sym (ap child_of r')) told) in
              child_told kinds a s t i g g' told'

  pub by_key_apart : (before class : List ℕ) (count : ℕ) → AreApart kinds a before → AreByKey a before class count → AreApart kinds a class
  by_key_apart before class count apart keys s t ls lt other = keys_told before apart s t ls lt (λ e. other ((keys.one s t ls lt).1 e))

  -- Classes are stable where states of one class have one key by classes before, and states that were
  -- of one class before are of one class.
  module _ (before class : List ℕ) (one_key : (s t : ℕ) → s < length a.states → t < length a.states → class_of class s ≡ class_of class t → key_of a before s ≡ key_of a before t) (kept : (s t : ℕ) → s < length a.states → t < length a.states → class_of before s ≡ class_of before t → class_of class s ≡ class_of class t) where
    -- the rules of a state by classes
    by_rules : (s t i : ℕ) → classed_state a before s ≡ classed_state a before t → with_child (class_of before) (rule_at a s i) ≡ with_child (class_of before) (rule_at a t i)
    unfolding rule_at
    by_rules s t i q =
        sym (mapped (with_child (class_of before)) (state_at a s).rules i Parent)
        ∙ ap (λ (u : TreeState). slice_index_or u.rules i Parent) q
        ∙ mapped (with_child (class_of before)) (state_at a t).rules i Parent

    pub stable_by_key : AreStable kinds a class
    stable_by_key = record {
      faces = λ s t ls lt e.
          let q = key_state a before s t (one_key s t ls lt e) in
          sym (plain_face (class_of before) (state_at a s)) ∙ ap face q ∙ plain_face (class_of before) (state_at a t);
      children = λ s t i ls lt e li h.
          let q = key_state a before s t (one_key s t ls lt e) in
          let f = sym (plain_face (class_of before) (state_at a s)) ∙ ap face q ∙ plain_face (class_of before) (state_at a t) in
          let h' = face_child kinds a s t f i h in
          let rules = by_rules s t i q in
          let same : class_of before (child_of (rule_at a s i)) ≡ class_of before (child_of (rule_at a t i)) =
          ap child_of (sym (ap (with_child (class_of before)) h) ∙ rules ∙ ap (with_child (class_of before)) h') in
          kept (child_of (rule_at a s i)) (child_of (rule_at a t i)) (child_below s i (child_of (rule_at a s i)) ls li h)
          (child_below t i (child_of (rule_at a t i)) lt (subst (λ n. i < n) (face_sides kinds a s t f) li) h') same;
    }

  module _ (before class : List ℕ) (count more : ℕ) (keys : AreByKey a before class more) (uses : Uses a before count) (few : more ≤ count) where
    finer : (s t : ℕ) → s < length a.states → t < length a.states → class_of class s ≡ class_of class t → class_of before s ≡ class_of before t
    finer s t ls lt e = key_class a before s t ((keys.one s t ls lt).0 e)

    -- a state of class i, for each i below the count
    abbrev stands : (i : ℕ) → (i < count) ⊎ (count ≤ i) → ℕ
    stands i (inl lt) = (uses i lt).0
    stands i (inr _) = 0

    abbrev for_class : ℕ → ℕ
    for_class i = stands i (cases_lt i count)

    stands_is : (i : ℕ) → i < count → (for_class i < length a.states) × (class_of before (for_class i) ≡ i)
    stands_is i lt = go (cases_lt i count)
      where
        go : (w : (i < count) ⊎ (count ≤ i)) → (stands i w < length a.states) × (class_of before (stands i w) ≡ i)
        go (inl less) = ((uses i less).1, (uses i less).2)
        go (inr le) = absurd (omega (arith, lt, le))

    -- Where a state has none of the classes of these, there are more classes.
    too_many : (x : ℕ) → x < length a.states → ((i : ℕ) → i < count → class_of class (for_class i) ≢ class_of class x) → ⊥
    too_many x lx none = let more' = pigeonhole more (suc count) to below one in omega (arith, more', few)
      where
        goes : (i : ℕ) → (i < count) ⊎ (count ≤ i) → ℕ
        goes i (inl _) = class_of class (for_class i)
        goes i (inr _) = class_of class x

        to : ℕ → ℕ
        to i = goes i (cases_lt i count)

        goes_below : (i : ℕ) (w : (i < count) ⊎ (count ≤ i)) → goes i w < more
        goes_below i (inl lt) = keys.known (for_class i) (stands_is i lt).0
        goes_below i (inr _) = keys.known x lx

        below : (i : ℕ) → i < suc count → to i < more
        below i lt = goes_below i (cases_lt i count)

        goes_one : (i j : ℕ) → i < suc count → j < suc count → (w : (i < count) ⊎ (count ≤ i)) (v : (j < count) ⊎ (count ≤ j)) → goes i w ≡ goes j v → i ≡ j
        goes_one i j li lj (inl lt) (inl less) e =
            sym (stands_is i lt).1 ∙ finer (for_class i) (for_class j) (stands_is i lt).0 (stands_is j less).0 e ∙ (stands_is j less).1
        goes_one i j li lj (inl lt) (inr _) e = absurd (none i lt e)
        goes_one i j li lj (inr _) (inl less) e = absurd (none j less (sym e))
        goes_one i j li lj (inr le) (inr le') e = omega (arith, li, lj, le, le')

        one : (i j : ℕ) → i < suc count → j < suc count → to i ≡ to j → i ≡ j
        one i j li lj e = goes_one i j li lj (cases_lt i count) (cases_lt j count) e

    -- so states of one class before are of one class
    pub kept : (s t : ℕ) → s < length a.states → t < length a.states → class_of before s ≡ class_of before t → class_of class s ≡ class_of class t
    kept s t ls lt e = go (cases_eq (class_of class s) (class_of class t))
      where
        none_of : (x : ℕ) → x < length a.states → class_of before x ≡ class_of before s → class_of class (for_class (class_of before s)) ≢ class_of class x → (i : ℕ) → i < count → class_of class (for_class i) ≢ class_of class x
        none_of x lx q other i li same =
            let number : i ≡ class_of before s = sym (stands_is i li).1 ∙ finer (for_class i) x (stands_is i li).0 lx same ∙ q in
            other (subst (λ k. class_of class (for_class k) ≡ class_of class x) number same)

        go : (class_of class s ≡ class_of class t) ⊎ (class_of class s ≢ class_of class t) → class_of class s ≡ class_of class t
        go (inl q) = q
        go (inr other) = which (cases_eq (class_of class (for_class (class_of before s))) (class_of class s))
          where
            which : (class_of class (for_class (class_of before s)) ≡ class_of class s) ⊎ (class_of class (for_class (class_of before s)) ≢ class_of class s) → class_of class s ≡ class_of class t
            which (inl q) = absurd (too_many t lt (none_of t lt (sym e) (λ w. other (sym q ∙ w))))
            which (inr d) = absurd (too_many s ls (none_of s ls refl d))

    pub settled : AreStable kinds a class
    settled = stable_by_key before class (λ s t ls lt e. (keys.one s t ls lt).0 e) kept

  -- no path tells states of one class apart, where classes are stable
  pub stable_classes : (class : List ℕ) → AreStable kinds a class → (s t : ℕ) → s < length a.states → t < length a.states → class_of class s ≡ class_of class t → AreAlike kinds a s t
  stable_classes class stable s t ls lt e =
      stable_alike kinds a (λ x y. (x < length a.states) × (y < length a.states) × (class_of class x ≡ class_of class y))
      (λ x y r. stable.faces x y r.0 r.1 r.2)
      (λ x y i r g.
      let f = stable.faces x y r.0 r.1 r.2 in (
        child_below x i (child_of (rule_at a x i)) r.0 g.0 g.1,
        child_below y i (child_of (rule_at a y i)) r.1 (subst (λ n. i < n) (face_sides kinds a x y f) g.0) (face_child kinds a x y f i g.1),
        stable.children x y i r.0 r.1 r.2 g.0 g.1,
      ))
      s t (ls, lt, e)

-- one round more
pub settling_on : (a : TreeAutomaton) (start before class next : List ℕ) (count more many : ℕ) → IsSettling a start before class count more → AreByKey a class next many → IsSettling a start class next more many
settling_on a start before class next count more many h keys = record {
  keys = keys;
  used = h.keys.used;
  apart = λ kinds ok apart. by_key_apart kinds a ok before class more (h.apart kinds ok apart) h.keys;
}

-- the last round
pub settled_apart : (a : TreeAutomaton) (start before class : List ℕ) (count more : ℕ) → IsSettling a start before class count more → (kinds : List TileKind) → IsAccepted kinds a → AreApart kinds a start → AreApart kinds a class
settled_apart a start before class count more h kinds ok apart = by_key_apart kinds a ok before class more (h.apart kinds ok apart) h.keys

pub settled_stable : (a : TreeAutomaton) (start before class : List ℕ) (count more : ℕ) → IsSettling a start before class count more → more ≤ count → (kinds : List TileKind) → IsAccepted kinds a → AreStable kinds a class
settled_stable a start before class count more h few kinds ok = settled kinds a ok before class count more h.keys h.used few

-- where all states are of one class
zero_class : (n s : ℕ) → class_of (replicate n 0) s ≡ 0
zero_class zero s = refl
zero_class (suc n) zero = refl
zero_class (suc n) (suc s) = zero_class n s

pub zeros_apart : (kinds : List TileKind) (a : TreeAutomaton) (n : ℕ) → AreApart kinds a (replicate n 0)
zeros_apart kinds a n s t ls lt d = absurd (d (zero_class n s ∙ sym (zero_class n t)))

-- classes by keys over a single class
pub first_apart : (kinds : List TileKind) (a : TreeAutomaton) → IsAccepted kinds a → (start faces : List ℕ) (n count : ℕ) → start ≡ replicate n 0 → AreByKey a start faces count → AreApart kinds a faces
first_apart kinds a ok start faces n count zeros keys =
    by_key_apart kinds a ok start faces count (subst (AreApart kinds a) (sym zeros) (zeros_apart kinds a n)) keys

-- keys without classes are of faces
pub are_faces : (a : TreeAutomaton) (faces : List ℕ) (count : ℕ) → AreByKey a [] faces count → AreFaces a faces
are_faces a faces count keys s t ls lt = (
  (λ e. key_state a [] s t ((keys.one s t ls lt).0 e)),
  (λ e. (keys.one s t ls lt).1 (same_key a [] s t refl e)),
)
