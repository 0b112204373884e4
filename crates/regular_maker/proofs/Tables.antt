-- The tables of the automaton of {p,q}, read by number.
use Rattle.std.proofs.Common.{◌≡◌, ℕ, zero, suc, ◌+◌, ◌<◌, ◌≤◌, ◌⊎◌, inl, inr, List, [], ◌∷◌, length, refl, sym, ap, ◌∙◌, subst, arith, pos}
use Rattle.std.specs.Prelude.{nat_eq, nat_le, if◌then◌else◌, slice_index_or}
use Rattle.std.proofs.lemmas.Bool.{cases_lt, cases_eq, eq-eqb, ne_eqb, le-leb, lt-leb}
use Rattle.std.proofs.lemmas.List.{get_or-replicate, length-replicate}
use Rattle.tree_model.specs.declared.Rule.{Rule}
use Rattle.tree_model.specs.declared.Rule.TheVariants.{Parent, Child, Left, Right}
use Rattle.tree_model.specs.Automata.{TreeState, TreeAutomaton, CornerType, no_state, no_corner, no_claim, state_at, corner_at, rule_at, claim_at, offset, corner_valence, outer}
use Rattle.tree_model.specs.Conditions.{IsRoot}
use Rattle.regular_maker.specs.Corners.{parity, depth_at, outer_of, corner_type}
use Rattle.regular_maker.specs.States.{lowest, rights, lefts, pair_claim, child_pair}
use Rattle.regular_maker.specs.Automaton.{number_of, pair_rule, root_state, pair_state, nth_state, all_states, pair_at, all_pairs, regular_automaton}
use Rattle.regular_maker.specs.declared.symbol.Pair.{Pair}
use Rattle.regular_maker.proofs.Listed.{length-listed, listed_at}

module _ (p q : ℕ) where
  abbrev A : TreeAutomaton
  A = regular_automaton p q

  -- the pairs of the states behind the root, and one of them
  abbrev pub pairs : List Pair
  pairs = all_pairs p q

  abbrev pub pair : ℕ → Pair
  pair k = pair_at q (all_pairs p q) k

  pub state_count : length A.states ≡ suc (length pairs)
  unfolding all_states
  state_count = ap suc (length-listed (nth_state p q pairs) (length pairs))

  pub root_is : state_at A 0 ≡ root_state p q
  unfolding state_at all_states
  root_is = refl

  pub state_is : (k : ℕ) → k < length pairs → state_at A (suc k) ≡ pair_state p q pairs (pair k)
  unfolding state_at all_states nth_state
  state_is k h = listed_at (nth_state p q pairs) (length pairs) k no_state h

  pub root_rule : (i : ℕ) → i < p → rule_at A 0 i ≡ Child 1
  unfolding rule_at root_state
  root_rule i h = ap (λ (s : TreeState). slice_index_or s.rules i Parent) root_is
      ∙ get_or-replicate p i (Child 1) Parent h

  pub root_claim : (i : ℕ) → i < p → claim_at A 0 i ≡ lowest q
  unfolding claim_at root_state
  root_claim i h = ap (λ (s : TreeState). slice_index_or s.claims i no_claim) root_is
      ∙ get_or-replicate p i (lowest q) no_claim h

  pub state_rule : (k i : ℕ) → k < length pairs → i < p
      → rule_at A (suc k) i ≡ pair_rule p q pairs (pair k) i
  unfolding rule_at pair_state
  state_rule k i h g =
      ap (λ (s : TreeState). slice_index_or s.rules i Parent) (state_is k h)
      ∙ listed_at (pair_rule p q pairs (pair k)) p i Parent g

  pub state_claim : (k i : ℕ) → k < length pairs → i < p
      → claim_at A (suc k) i ≡ pair_claim p q (pair k) i
  unfolding claim_at pair_state
  state_claim k i h g =
      ap (λ (s : TreeState). slice_index_or s.claims i no_claim) (state_is k h)
      ∙ listed_at (pair_claim p q (pair k)) p i no_claim g

  -- every state has kind 0 and residue 0, and p rules and claims
  pub record IsPlain (s : TreeState) : Type 0 where
    pub kind : s.kind ≡ 0
    pub off : s.off ≡ 0
    pub rules : length s.rules ≡ p
    pub claims : length s.claims ≡ p

  root_plain : IsPlain (root_state p q)
  unfolding root_state
  root_plain = record {
    kind = refl;
    off = refl;
    rules = length-replicate p (Child 1);
    claims = length-replicate p (lowest q);
  }

  state_plain : (x : Pair) → IsPlain (pair_state p q pairs x)
  unfolding pair_state
  state_plain x = record {
    kind = refl;
    off = refl;
    rules = length-listed (pair_rule p q pairs x) p;
    claims = length-listed (pair_claim p q x) p;
  }

  pub plain : (s : ℕ) → s < length A.states → IsPlain (state_at A s)
  plain zero h = subst IsPlain (sym root_is) root_plain
  plain (suc k) h = subst IsPlain (sym (state_is k (omega (arith, h, state_count))))
      (state_plain (pair k))

  -- the tables of corner types
  pub corner_count : length A.corners ≡ suc (parity q)
  corner_count = length-listed (corner_type q) (suc (parity q))

  pub corner_is : (g : ℕ) → g ≤ parity q → corner_at A g ≡ corner_type q g
  unfolding corner_at
  corner_is g h = listed_at (corner_type q) (suc (parity q)) g no_corner (omega (arith, h))

  pub valence_is : (g : ℕ) → g ≤ parity q → corner_valence A g ≡ q
  unfolding corner_valence
  valence_is g h = ap (λ (c : CornerType). length c.offsets) (corner_is g h)
      ∙ length-listed (depth_at q g) q

  pub offset_is : (g t : ℕ) → g ≤ parity q → t < q → offset A g t ≡ depth_at q g t
  unfolding offset
  offset_is g t h f = ap (λ (c : CornerType). slice_index_or c.offsets t (pos 0)) (corner_is g h)
      ∙ listed_at (depth_at q g) q t (pos 0) f

  pub outer_is : (g : ℕ) → g ≤ parity q → outer A g ≡ outer_of q g
  unfolding outer
  outer_is g h = ap (λ (c : CornerType). c.outer) (corner_is g h)

  -- the only root is state 0
  pub root_zero : IsRoot A 0
  root_zero = (0, omega arith, refl)

  pub only_root : (s : ℕ) → IsRoot A s → s ≡ 0
  only_root s r = one r.0 r.1 r.2
    where
      one : (k : ℕ) → k < 1 → slice_index_or (0 ∷ []) k s ≡ s → s ≡ 0
      one zero h e = sym e
      one (suc k) h e = absurd (omega arith)

-- What a side of the state of a pair is.
pub data IsRuled (p q : ℕ) (ps : List Pair) (x : Pair) (i : ℕ) : Rule → Type 0 where
  its_parent : i ≡ 0 → IsRuled p q ps x i Parent
  its_right : 1 ≤ i → i ≤ rights p q x → IsRuled p q ps x i Right
  its_left : 1 ≤ i → rights p q x < i → p ≤ i + lefts p q x → IsRuled p q ps x i Left
  its_child : rights p q x < i → i + lefts p q x < p
      → IsRuled p q ps x i (Child (number_of ps (child_pair p q x i)))

module _ (p q : ℕ) (ps : List Pair) (x : Pair) (i : ℕ) where
  pub ruled : IsRuled p q ps x i (pair_rule p q ps x i)
  unfolding pair_rule
  ruled = go (cases_eq i 0) (cases_lt (rights p q x) i) (cases_lt (i + lefts p q x) p)
    where
      go : (i ≡ 0) ⊎ (i ≡ 0 → ⊥) → (rights p q x < i) ⊎ (i ≤ rights p q x)
          → (i + lefts p q x < p) ⊎ (p ≤ i + lefts p q x)
          → IsRuled p q ps x i (if nat_eq i 0 then Parent else if nat_le i
          (rights p q x) then Right else if nat_le p (i + lefts p q x) then Left else Child
          (number_of ps (child_pair p q x i)))
      go (inl e) _ _ = rw (eq-eqb i 0 e) (its_parent e)
      go (inr other) (inr h) _
          = rw (ne_eqb i 0 other, le-leb i (rights p q x) h) (its_right (omega (arith, other)) h)
      go (inr other) (inl h) (inr g)
          = rw (ne_eqb i 0 other, lt-leb i (rights p q x) h, le-leb p (i + lefts p q x) g)
          (its_left (omega (arith, other)) h g)
      go (inr other) (inl h) (inl g)
          = rw (ne_eqb i 0 other, lt-leb i (rights p q x) h, lt-leb p (i + lefts p q x) g)
          (its_child h g)

  pub ruled_parent : (r : Rule) → IsRuled p q ps x i r → r ≡ Parent → i ≡ 0
  ruled_parent _ (its_parent z) e = z
  ruled_parent _ (its_right s h) e = absurd (cc)
  ruled_parent _ (its_left s h g) e = absurd (cc)
  ruled_parent _ (its_child h g) e = absurd (cc)

  pub parent_ruled : (r : Rule) → IsRuled p q ps x i r → i ≡ 0 → r ≡ Parent
  parent_ruled _ (its_parent z) e = refl
  parent_ruled _ (its_right s h) e = absurd (omega (arith, s, e))
  parent_ruled _ (its_left s h g) e = absurd (omega (arith, s, e))
  parent_ruled _ (its_child h g) e = absurd (omega (arith, h, e))

  pub ruled_right : (r : Rule) → IsRuled p q ps x i r → r ≡ Right → (1 ≤ i) × (i ≤ rights p q x)
  ruled_right _ (its_parent z) e = absurd (cc)
  ruled_right _ (its_right s h) e = (s, h)
  ruled_right _ (its_left s h g) e = absurd (cc)
  ruled_right _ (its_child h g) e = absurd (cc)

  pub right_ruled : (r : Rule) → IsRuled p q ps x i r → 1 ≤ i → i ≤ rights p q x → r ≡ Right
  right_ruled _ (its_parent z) s h = absurd (omega (arith, s, z))
  right_ruled _ (its_right _ _) s h = refl
  right_ruled _ (its_left _ g _) s h = absurd (omega (arith, g, h))
  right_ruled _ (its_child g _) s h = absurd (omega (arith, g, h))

  pub ruled_left : (r : Rule) → IsRuled p q ps x i r → r ≡ Left → (1 ≤ i) × (p ≤ i + lefts p q x)
  ruled_left _ (its_parent z) e = absurd (cc)
  ruled_left _ (its_right s h) e = absurd (cc)
  ruled_left _ (its_left s h g) e = (s, g)
  ruled_left _ (its_child h g) e = absurd (cc)

  pub left_ruled : (r : Rule) → IsRuled p q ps x i r → rights p q x < i → p ≤ i + lefts p q x
      → r ≡ Left
  left_ruled _ (its_parent z) h g = absurd (omega (arith, h, z))
  left_ruled _ (its_right _ f) h g = absurd (omega (arith, f, h))
  left_ruled _ (its_left _ _ _) h g = refl
  left_ruled _ (its_child _ f) h g = absurd (omega (arith, f, g))

  pub ruled_child : (c : ℕ) (r : Rule) → IsRuled p q ps x i r → r ≡ Child c
      → (rights p q x < i) × (i + lefts p q x < p) × (c ≡ number_of ps (child_pair p q x i))
  ruled_child c _ (its_parent z) e = absurd (cc)
  ruled_child c _ (its_right s h) e = absurd (cc)
  ruled_child c _ (its_left s h g) e = absurd (cc)
  ruled_child c _ (its_child h g) e = (h, g, cc)
