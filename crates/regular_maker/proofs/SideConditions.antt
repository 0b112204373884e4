-- The conditions on one state: where its parent side is, of which kinds its children are, and which
-- places stand beside Left and Right sides.
use Rattle.std.proofs.Common.{◌≡◌, ◌≢◌, ℕ, zero, suc, ◌+◌, ◌-◌, ◌<◌, ◌≤◌, ◌⊎◌, inl, inr, List, length, refl, sym, ap, ◌∙◌, subst, arith}
use Rattle.std.specs.Prelude.{◌↔◌}
use Rattle.std.proofs.lemmas.Bool.{cases_lt}
use Rattle.tile_model.specs.Tessellations.{TileKind, cross, valence}
use Rattle.tree_model.specs.declared.Rule.TheVariants.{Parent, Child, Left, Right}
use Rattle.tree_model.specs.declared.Claim.{Claim}
use Rattle.tree_model.specs.Automata.{TreeAutomaton, state_at, root_at, rule_at, claim_at, outer, side_count, next, previous, further}
use Rattle.tree_model.specs.Conditions.{IsRoot, HasParentRule, HasChildType, HasClaimValence, HasFirstPlace, HasLastPlace, HasOuterBefore, HasOuterBehind}
use Rattle.regular_maker.specs.Corners.{outer_of}
use Rattle.regular_maker.specs.States.{lowest, beyond, rights, lefts, pair_claim}
use Rattle.regular_maker.specs.Automaton.{pair_rule, all_pairs, regular_automaton}
use Rattle.regular_maker.proofs.Shapes.{IsShape, lowest_right, lowest_left, right_not_first, left_not_last}
use Rattle.regular_maker.proofs.Runs.{runs_apart}
use Rattle.regular_maker.proofs.Claims.{told, claim_before_left, claim_behind_right}
use Rattle.regular_maker.proofs.Tables.{state_count, root_rule, root_claim, state_rule, state_claim, plain, valence_is, outer_is, root_zero, only_root, ruled, ruled_parent, parent_ruled, ruled_right, right_ruled, ruled_left, left_ruled}
use Rattle.regular_maker.proofs.TableCondition.{pair, pair_is, child_of, root_child, placed, child_there}
use Rattle.regular_maker.proofs.Over.{IsOver, sides_are, type_is, previous_is, previous_less, next_inner, next_last}

module _ (p q : ℕ) (shape : IsShape p q) where
  abbrev A : TreeAutomaton
  A = regular_automaton p q

  child_no_root : (s i c : ℕ) → s < length A.states → i < p → rule_at A s i ≡ Child c → c ≢ 0
  child_no_root zero i c h side e = omega (arith, root_child p q shape i c side e)
  child_no_root (suc k) i c h side e
      = omega (arith, (child_of p q shape k i c (omega (arith, h, state_count p q)) side e).number)

  parent_at : (s i : ℕ) → s < length A.states → i < p → rule_at A s i ≡ Parent → (i ≡ 0) × (s ≢ 0)
  parent_at zero i h side e = absurd (cc (root_rule p q i side))
  parent_at (suc k) i h side e =
      let less : k < length (all_pairs p q) = omega (arith, h, state_count p q) in (
        ruled_parent p q (all_pairs p q) (pair p q shape k) i
            (pair_rule p q (all_pairs p q) (pair p q shape k) i)
            (ruled p q (all_pairs p q) (pair p q shape k) i) (sym (state_rule p q k i less side) ∙ e),
        omega arith,
      )

  at_parent : (s i : ℕ) → s < length A.states → i < p → i ≡ 0 → s ≢ 0 → rule_at A s i ≡ Parent
  at_parent zero i h side z other = absurd (other refl)
  at_parent (suc k) i h side z other =
      let less : k < length (all_pairs p q) = omega (arith, h, state_count p q) in
      state_rule p q k i less side
      ∙ parent_ruled p q (all_pairs p q) (pair p q shape k) i
      (pair_rule p q (all_pairs p q) (pair p q shape k) i)
      (ruled p q (all_pairs p q) (pair p q shape k) i) z

  first_place : (s i : ℕ) → s < length A.states → i < p → HasFirstPlace A s i
  first_place zero i h side =
      let low = lowest_right p q shape in
      let some = right_not_first p q shape (lowest q) low in (
        λ z. absurd (omega (
          arith,
          some,
          sym (ap (λ (c : Claim). c.place) (root_claim p q i side)),
          z,
        )),
        λ e. absurd (cc (root_rule p q i side)),
      )
  first_place (suc k) i h side =
      let less : k < length (all_pairs p q) = omega (arith, h, state_count p q) in
      let x = pair p q shape k in
      let this = told p q shape x (pair_is p q shape k less) i side in
      let place = ap (λ (c : Claim). c.place) (state_claim p q k i less side) in
      let rule = state_rule p q k i less side in
      let known = ruled p q (all_pairs p q) x i in
      let apart = runs_apart p q shape x (pair_is p q shape k less) in (
        λ z. elim (cases_lt (i + lefts p q x) p) [
          | inl before ↦ absurd (this.not_first before (sym place ∙ z))
          | inr left ↦ rule ∙ left_ruled p q (all_pairs p q) x i
              (pair_rule p q (all_pairs p q) x i) known (omega (arith, apart, left)) left
        ],
        λ e. place ∙ this.first
            (ruled_left p q (all_pairs p q) x i (pair_rule p q (all_pairs p q) x i) known
            (sym rule ∙ e)).1,
      )

  -- the place is the last one exactly where the side behind the claim is Right
  last_place : (s i j : ℕ) → s < length A.states → i < p → j < p
      → ((j ≡ suc i) ⊎ ((j ≡ 0) × (suc i ≡ p)))
      → (suc (claim_at A s i).place ≡ q) ↔ (rule_at A s j ≡ Right)
  last_place zero i j h side other next_to =
      let low = lowest_left p q shape in
      let few = left_not_last p q shape (lowest q) low in (
        λ z. absurd (omega (arith, few, ap (λ (c : Claim). c.place) (root_claim p q i side), z)),
        λ e. absurd (cc (root_rule p q j other)),
      )
  last_place (suc k) i j h side other next_to =
      let less : k < length (all_pairs p q) = omega (arith, h, state_count p q) in
      let x = pair p q shape k in
      let this = told p q shape x (pair_is p q shape k less) i side in
      let place = ap (λ (c : Claim). suc c.place) (state_claim p q k i less side) in
      let rule = state_rule p q k j less other in
      let known = ruled p q (all_pairs p q) x j in
      let apart = runs_apart p q shape x (pair_is p q shape k less) in (
        λ z. elim (cases_lt i (rights p q x)) [
          | inl inner ↦
              let behind : j ≡ suc i = behind_is j next_to (omega (arith, apart, inner)) in
              rule ∙ right_ruled p q (all_pairs p q) x j (pair_rule p q (all_pairs p q) x j) known
              (omega (arith, behind)) (omega (arith, behind, inner))
          | inr ended ↦ absurd (this.not_last ended (sym place ∙ z))
        ],
        λ e.
            let parts = ruled_right p q (all_pairs p q) x j (pair_rule p q (all_pairs p q) x j) known
            (sym rule ∙ e) in
            let behind : j ≡ suc i = after_is j next_to parts.0 in
            place ∙ this.last (omega (arith, parts.1, behind)),
      )
    where
      behind_is : (m : ℕ) → ((m ≡ suc i) ⊎ ((m ≡ 0) × (suc i ≡ p))) → suc i < p → m ≡ suc i
      behind_is m (inl e) f = e
      behind_is m (inr g) f = absurd (omega (arith, g.1, f))

      after_is : (m : ℕ) → ((m ≡ suc i) ⊎ ((m ≡ 0) × (suc i ≡ p))) → 1 ≤ m → m ≡ suc i
      after_is m (inl e) f = e
      after_is m (inr g) f = absurd (omega (arith, g.0, f))

  outer_before : (s i : ℕ) → s < length A.states → i < p → rule_at A s i ≡ Left
      → claim_at A s (previous p i) ≡ outer A (claim_at A s i).corner
  outer_before zero i h side e = absurd (cc (root_rule p q i side))
  outer_before (suc k) i h side e =
      let less : k < length (all_pairs p q) = omega (arith, h, state_count p q) in
      let x = pair p q shape k in
      let known = ruled_left p q (all_pairs p q) x i (pair_rule p q (all_pairs p q) x i)
      (ruled p q (all_pairs p q) x i) (sym (state_rule p q k i less side) ∙ e) in
      let before = claim_before_left p q shape x
      (pair_is p q shape k less) i known.0 side known.1 in
      let there : claim_at A (suc k) (previous p i) ≡ pair_claim p q x (i - 1)
      = ap (claim_at A (suc k)) (previous_is p i known.0)
      ∙ state_claim p q k (i - 1) less (omega (arith, side)) in
      let corner : (pair_claim p q x i).corner ≡ (claim_at A (suc k) i).corner
      = ap (λ (c : Claim). c.corner) (sym (state_claim p q k i less side)) in
      there ∙ before ∙ ap (outer_of q) corner
      ∙ sym (outer_is p q (claim_at A (suc k) i).corner
      (placed p q shape (suc k) i h side).corner)

  outer_behind : (s i : ℕ) → s < length A.states → i < p → rule_at A s i ≡ Right
      → claim_at A s i ≡ further (outer A (claim_at A s (previous p i)).corner)
  unfolding beyond
  outer_behind zero i h side e = absurd (cc (root_rule p q i side))
  outer_behind (suc k) i h side e =
      let less : k < length (all_pairs p q) = omega (arith, h, state_count p q) in
      let x = pair p q shape k in
      let known = ruled_right p q (all_pairs p q) x i (pair_rule p q (all_pairs p q) x i)
      (ruled p q (all_pairs p q) x i) (sym (state_rule p q k i less side) ∙ e) in
      let behind = claim_behind_right p q shape x (pair_is p q shape k less) i known.0 known.1 in
      let there : claim_at A (suc k) (previous p i) ≡ pair_claim p q x (i - 1)
      = ap (claim_at A (suc k)) (previous_is p i known.0)
      ∙ state_claim p q k (i - 1) less (omega (arith, side)) in
      let corner : (pair_claim p q x (i - 1)).corner ≡ (claim_at A (suc k) (previous p i)).corner
      = ap (λ (c : Claim). c.corner) (sym there) in
      let outer_at = outer_is p q (claim_at A (suc k) (previous p i)).corner
      (placed p q shape (suc k) (previous p i) h (previous_less p i side)).corner in
      state_claim p q k i less side ∙ behind ∙ ap (λ g. further (outer_of q g)) corner
      ∙ ap further (sym outer_at)

module _ (p q : ℕ) (shape : IsShape p q) (kinds : List TileKind) (over : IsOver p q kinds) where
  abbrev B : TreeAutomaton
  B = regular_automaton p q

  root_number : (k : ℕ) → k < length kinds → (k ≡ 0) × (root_at B k ≡ 0)
  unfolding root_at
  root_number zero h = (refl, refl)
  root_number (suc k) h = absurd (omega (arith, h, over.count))

  inside : (s i : ℕ) → s < length B.states → i < side_count kinds B s → i < p
  inside s i h side = omega (arith, side, sides_are p q kinds over s h)

  pub parent_rule : (s i : ℕ) → s < length B.states → i < side_count kinds B s
      → HasParentRule kinds B s i
  parent_rule s i h n =
      let side = inside s i h n in
      record {
        root = λ z k less e. (sym_kind k less, (plain p q s h).off);
        parent = (
          λ e. let parts = parent_at p q shape s i h side e in
              (parts.0, λ r. parts.1 (only_root p q s r)),
          λ parts. at_parent p q shape s i h side parts.0
              (λ z. parts.1 (subst (IsRoot B) (sym z) (root_zero p q))),
        );
        child = λ c e r. child_no_root p q shape s i c h side e (only_root p q c r);
      }
    where
      sym_kind : (k : ℕ) → k < length kinds → (state_at B s).kind ≡ k
      sym_kind k less = (plain p q s h).kind ∙ sym (root_number k less).0

  pub child_type : (s i : ℕ) → s < length B.states → i < side_count kinds B s
      → HasChildType kinds B s i
  child_type s i h n = λ c e.
      let child = plain p q c (child_there p q shape s i c h (inside s i h n) e) in
      ap (cross kinds) (type_is p q kinds over s i h) ∙ over.across
      ∙ (λ j. (sym child.kind j, sym child.off j))

  pub claim_valence : (s i : ℕ) → s < length B.states → i < side_count kinds B s
      → HasClaimValence kinds B s i
  claim_valence s i h n =
      valence_is p q (claim_at B s i).corner (placed p q shape s i h (inside s i h n)).corner
      ∙ sym over.tiles
      ∙ sym (ap (valence kinds) (type_is p q kinds over s i h))

  pub first_place_side : (s i : ℕ) → s < length B.states → i < side_count kinds B s
      → HasFirstPlace B s i
  first_place_side s i h n = first_place p q shape s i h (inside s i h n)

  pub last_place_side : (s i : ℕ) → s < length B.states → i < side_count kinds B s
      → HasLastPlace kinds B s i
  last_place_side s i h n =
      let side = inside s i h n in
      let v = valence_is p q (claim_at B s i).corner (placed p q shape s i h side).corner in
      let m = sides_are p q kinds over s h in
      let at : next (side_count kinds B s) i ≡ next p i = ap (λ k. next k i) m in
      let f = facts i side in
      let both = last_place p q shape s i (next p i) h side f.0 f.1 in (
        λ z. ap (rule_at B s) at ∙ both.0 (z ∙ v),
        λ e. both.1 (ap (rule_at B s) (sym at) ∙ e)
            ∙ sym v,
      )
    where
      facts : (j : ℕ) → j < p
          → (next p j < p) × ((next p j ≡ suc j) ⊎ ((next p j ≡ 0) × (suc j ≡ p)))
      facts j side = elim (cases_lt (suc j) p) [
        | inl inner ↦ (omega (arith, next_inner p j inner, inner), inl (next_inner p j inner))
        | inr ended ↦
            let e : suc j ≡ p = omega (arith, side, ended) in
            (omega (arith, next_last p j e, side), inr (next_last p j e, e))
      ]

  pub outer_before_side : (s i : ℕ) → s < length B.states → i < side_count kinds B s
      → HasOuterBefore kinds B s i
  outer_before_side s i h n = λ e.
      ap (λ m. claim_at B s (previous m i)) (sides_are p q kinds over s h)
      ∙ outer_before p q shape s i h (inside s i h n) e

  pub outer_behind_side : (s i : ℕ) → s < length B.states → i < side_count kinds B s
      → HasOuterBehind kinds B s i
  outer_behind_side s i h n = λ e.
      outer_behind p q shape s i h (inside s i h n) e
      ∙ ap (λ m. further (outer B (claim_at B s (previous m i)).corner))
      (sym (sides_are p q kinds over s h))
