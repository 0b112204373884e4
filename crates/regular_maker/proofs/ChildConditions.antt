-- The claims of a child are those beside its side, one place on, and it lies one deeper than its
-- parent round both corners.
use Rattle.std.proofs.Common.{◌≡◌, ℕ, zero, suc, ◌-◌, ◌<◌, ◌≤◌, List, length, refl, sym, ap, ◌∙◌, subst, arith, pos, ◌+ℤ◌}
use Rattle.tile_model.specs.Tessellations.{TileKind}
use Rattle.tree_model.specs.declared.Rule.TheVariants.{Child}
use Rattle.tree_model.specs.declared.Claim.{Claim}
use Rattle.tree_model.specs.Automata.{TreeAutomaton, rule_at, claim_at, offset, side_count, previous, further}
use Rattle.tree_model.specs.Conditions.{KeepsClaims}
use Rattle.regular_maker.specs.States.{lowest, nearer, pair_claim, child_pair, first_pair}
use Rattle.regular_maker.specs.Automaton.{index_in, all_pairs, regular_automaton}
use Rattle.regular_maker.specs.declared.symbol.Pair.{Pair}
use Rattle.regular_maker.proofs.Shapes.{IsShape}
use Rattle.regular_maker.proofs.Claims.{claim_at_start, claim_at_end}
use Rattle.regular_maker.proofs.Children.{IsOpen, root_open, child_open, deeper_behind, deeper_ahead}
use Rattle.regular_maker.proofs.Growing.{in_at}
use Rattle.regular_maker.proofs.AllPairs.{all_some, all_first}
use Rattle.regular_maker.proofs.Tables.{state_count, root_claim, state_claim, offset_is}
use Rattle.regular_maker.proofs.TableCondition.{pair, pair_is, IsChildOf, child_of, root_child, child_there}
use Rattle.regular_maker.proofs.Over.{IsOver, sides_are, previous_is, previous_less}

module _ (p q : ℕ) (shape : IsShape p q) where
  abbrev A : TreeAutomaton
  A = regular_automaton p q

  -- what the condition asks, of claims d and e beside the side and claims f and l at both ends of
  -- the child
  record AreNested (d e f l : Claim) : Type 0 where
    first : f ≡ further d
    first_depth : offset A d.corner (suc d.place) ≡ offset A d.corner d.place +ℤ pos 1
    last : e ≡ further l
    last_depth : offset A e.corner (e.place - 1) ≡ offset A e.corner e.place +ℤ pos 1

  nested : (d e : Claim) → IsOpen q d e → AreNested d e (further d) (nearer e)
  nested d e h =
      let right = h.behind in
      let left = h.ahead in
      let some = h.not_first in
      let place : e.place ≡ suc (e.place - 1) = omega (arith, some) in
      record {
        first = refl;
        first_depth = offset_is p q d.corner (suc d.place) right.corner h.not_last
            ∙ deeper_behind q d.corner d.place right.behind
            ∙ ap (λ z. z +ℤ pos 1) (sym (offset_is p q d.corner d.place right.corner right.place));
        last = λ i. record { corner = e.corner; place = place i };
        last_depth = offset_is p q e.corner (e.place - 1) left.corner
            (omega (arith, left.ahead, shape.tiles, shape.halves, shape.parity))
            ∙ deeper_ahead q e.corner e.place some left.ahead
            ∙ ap (λ z. z +ℤ pos 1)
            (sym (offset_is p q e.corner e.place left.corner
            (omega (arith, left.ahead, shape.tiles, shape.halves, shape.parity))));
      }

  -- the claims at both ends of the state of a pair that is numbered
  record HasEnds (c : ℕ) (x : Pair) : Type 0 where
    first : claim_at A c 0 ≡ x.first
    last : claim_at A c (p - 1) ≡ x.last

  ends : (n : ℕ) → n < length (all_pairs p q) → HasEnds (suc n) (pair p q shape n)
  ends n h =
      let known = pair_is p q shape n h in
      record {
        first = state_claim p q n 0 h (omega (arith, shape.sides))
            ∙ claim_at_start p q shape (pair p q shape n) known;
        last = state_claim p q n (p - 1) h (omega (arith, shape.sides))
            ∙ claim_at_end p q shape (pair p q shape n) known;
      }

  -- the child of the root, and that of another state
  root_ends : (c : ℕ) → c ≡ 1 → HasEnds c (first_pair q)
  root_ends c e = subst (λ n. HasEnds n (first_pair q)) (sym e)
      (subst (HasEnds 1) (all_first p q shape) (ends 0 (all_some p q shape)))

  child_ends : (k i c : ℕ) → IsChildOf p q shape k i c
      → HasEnds c (child_pair p q (pair p q shape k) i)
  child_ends k i c child =
      let x = child_pair p q (pair p q shape k) i in
      subst (λ n. HasEnds n x) (sym child.number)
      (subst (HasEnds (suc (index_in (all_pairs p q) x))) (in_at q (all_pairs p q) x child.there)
      (ends (index_in (all_pairs p q) x) child.there))

  four : (d e f l d' e' f' l' : Claim) → d ≡ d' → e ≡ e' → f ≡ f' → l ≡ l' → AreNested d' e' f' l'
      → AreNested d e f l
  four d e f l d' e' f' l' a b g h n =
      subst (λ (z : Claim). AreNested z e f l) (sym a)
      (subst (λ (z : Claim). AreNested d' z f l) (sym b)
      (subst (λ (z : Claim). AreNested d' e' z l) (sym g)
      (subst (λ (z : Claim). AreNested d' e' f' z) (sym h) n)))

  first_of_child : (n j c : ℕ) → HasEnds c (child_pair p q (pair p q shape n) j)
      → claim_at A c 0 ≡ further (pair_claim p q (pair p q shape n) (j - 1))
  unfolding child_pair
  first_of_child n j c there = there.first

  last_of_child : (n j c : ℕ) → HasEnds c (child_pair p q (pair p q shape n) j)
      → claim_at A c (p - 1) ≡ nearer (pair_claim p q (pair p q shape n) j)
  unfolding child_pair
  last_of_child n j c there = there.last

  state_kept : (n j c : ℕ) → n < length (all_pairs p q) → j < p → rule_at A (suc n) j ≡ Child c
      → AreNested (claim_at A (suc n) (previous p j)) (claim_at A (suc n) j) (claim_at A c 0)
      (claim_at A c (p - 1))
  state_kept n j c less side e =
      let x = pair p q shape n in
      let child = child_of p q shape n j c less side e in
      let there = child_ends n j c child in
      let some : 1 ≤ j = omega (arith, child.behind) in
      let before : claim_at A (suc n) (previous p j) ≡ pair_claim p q x (j - 1)
      = ap (claim_at A (suc n)) (previous_is p j some)
      ∙ state_claim p q n (j - 1) less (omega (arith, side)) in
      four (claim_at A (suc n) (previous p j)) (claim_at A (suc n) j) (claim_at A c 0)
      (claim_at A c (p - 1))
      (pair_claim p q x (j - 1)) (pair_claim p q x j) (further (pair_claim p q x (j - 1)))
      (nearer (pair_claim p q x j))
      before (state_claim p q n j less side) (first_of_child n j c there)
      (last_of_child n j c there)
      (nested (pair_claim p q x (j - 1)) (pair_claim p q x j)
      (child_open p q shape x (pair_is p q shape n less) j child.behind child.before))

  claims_kept : (s i c : ℕ) → s < length A.states → i < p → rule_at A s i ≡ Child c
      → AreNested (claim_at A s (previous p i)) (claim_at A s i) (claim_at A c 0)
      (claim_at A c (p - 1))
  claims_kept zero i c h side e =
      let there = root_ends c (root_child p q shape i c side e) in
      four (claim_at A 0 (previous p i)) (claim_at A 0 i) (claim_at A c 0) (claim_at A c (p - 1))
      (lowest q) (lowest q) (further (lowest q)) (nearer (lowest q))
      (root_claim p q (previous p i) (previous_less p i side))
      (root_claim p q i side) there.first there.last
      (nested (lowest q) (lowest q) (root_open p q shape))
  claims_kept (suc k) i c h side e = state_kept k i c (omega (arith, h, state_count p q)) side e

module _ (p q : ℕ) (shape : IsShape p q) (kinds : List TileKind) (over : IsOver p q kinds) where
  abbrev B : TreeAutomaton
  B = regular_automaton p q

  pub keeps_claims : (s i : ℕ) → s < length B.states → i < side_count kinds B s
      → KeepsClaims kinds B s i
  keeps_claims s i h n = λ c e.
      let m = sides_are p q kinds over s h in
      let side : i < p = omega (arith, n, m) in
      let there = child_there p q shape s i c h side e in
      let kept = claims_kept p q shape s i c h side e in
      let behind : claim_at B s (previous p i) ≡ claim_at B s (previous (side_count kinds B s) i)
      = ap (λ k. claim_at B s (previous k i)) (sym m) in
      let last : claim_at B c (p - 1) ≡ claim_at B c (side_count kinds B c - 1)
      = ap (λ k. claim_at B c (k - 1)) (sym (sides_are p q kinds over c there)) in
      record {
        first = kept.first ∙ ap further behind;
        first_depth = subst (λ (d : Claim). offset B d.corner (suc d.place)
            ≡ offset B d.corner d.place +ℤ pos 1) behind kept.first_depth;
        last = kept.last ∙ ap further last;
        last_depth = kept.last_depth;
      }
