-- The first condition: whatever the tables name is there.
use Rattle.std.proofs.Common.{◌≡◌, ℕ, zero, suc, ◌+◌, ◌<◌, ◌≤◌, List, length, refl, sym, ap, ◌∙◌, subst, arith}
use Rattle.tile_model.specs.Tessellations.{TileKind, kind_at}
use Rattle.tree_model.specs.declared.Rule.TheVariants.{Child}
use Rattle.tree_model.specs.declared.Claim.{Claim}
use Rattle.tree_model.specs.Automata.{TreeAutomaton, state_at, root_at, rule_at, claim_at}
use Rattle.tree_model.specs.Conditions.{HasLimits, HasTables, HasTargets, IsClosedTable}
use Rattle.regular_maker.specs.Corners.{parity}
use Rattle.regular_maker.specs.Pairs.{IsPair}
use Rattle.regular_maker.specs.States.{rights, lefts, child_pair}
use Rattle.regular_maker.specs.Automaton.{index_in, number_of, pair_rule, pair_at, all_pairs, regular_automaton}
use Rattle.regular_maker.specs.declared.symbol.Pair.{Pair}
use Rattle.regular_maker.proofs.Shapes.{IsShape, lowest_right}
use Rattle.regular_maker.proofs.Claims.{told}
use Rattle.regular_maker.proofs.Growing.{IsIn, child_from}
use Rattle.regular_maker.proofs.AllPairs.{all_list, all_few, all_some, all_closed}
use Rattle.regular_maker.proofs.Tables.{state_count, corner_count, root_rule, root_claim, state_rule, state_claim, plain, valence_is, ruled, ruled_child}
use Rattle.regular_maker.proofs.CornerConditions.{has_offsets, has_outer}
use Rattle.regular_maker.proofs.Over.{IsOver, sides_are}

module _ (p q : ℕ) (shape : IsShape p q) where
  abbrev A : TreeAutomaton
  A = regular_automaton p q

  abbrev pub pair : ℕ → Pair
  pair k = pair_at q (all_pairs p q) k

  pub pair_is : (k : ℕ) → k < length (all_pairs p q) → IsPair p q (pair k)
  pair_is k h = (all_list p q shape).pairs k h

  -- a Child side of a state behind the root lies between the runs, and its number is that of the
  -- pair across it
  pub record IsChildOf (k i c : ℕ) : Type 0 where
    pub behind : rights p q (pair k) < i
    pub before : i + lefts p q (pair k) < p
    pub number : c ≡ suc (index_in (all_pairs p q) (child_pair p q (pair k) i))
    pub there : IsIn (all_pairs p q) (child_pair p q (pair k) i)

  pub child_of : (k i c : ℕ) → k < length (all_pairs p q) → i < p → rule_at A (suc k) i ≡ Child c
      → IsChildOf k i c
  unfolding number_of
  child_of k i c h side e =
      let x = pair k in
      let parts = ruled_child p q (all_pairs p q) x i c (pair_rule p q (all_pairs p q) x i)
      (ruled p q (all_pairs p q) x i) (sym (state_rule p q k i h side) ∙ e) in
      record {
        behind = parts.0;
        before = parts.1;
        number = parts.2;
        there = all_closed p q shape k i h side (child_from p q x i parts.0 parts.1);
      }

  one_is : (i c : ℕ) → i < p → rule_at A 0 i ≡ Child c → c ≡ 1
  one_is i c side e = let f : Child 1 ≡ Child c = sym (root_rule p q i side) ∙ e in cc

  pub root_child : (i c : ℕ) → i < p → rule_at A 0 i ≡ Child c → c ≡ 1
  root_child = one_is

  pub child_there : (s i c : ℕ) → s < length A.states → i < p → rule_at A s i ≡ Child c
      → c < length A.states
  child_there zero i c h side e
      = omega (arith, one_is i c side e, state_count p q, all_some p q shape)
  child_there (suc k) i c h side e =
      let child = child_of k i c (omega (arith, h, state_count p q)) side e in
      omega (arith, child.number, child.there, state_count p q)

  -- a claim names a corner type and a place
  pub record IsPlaced (c : Claim) : Type 0 where
    pub corner : c.corner ≤ parity q
    pub place : c.place < q

  pub placed : (s i : ℕ) → s < length A.states → i < p → IsPlaced (claim_at A s i)
  placed zero i h side =
      let low = lowest_right p q shape in
      subst IsPlaced (sym (root_claim p q i side))
      (record { corner = low.corner; place = low.place })
  placed (suc k) i h side =
      let less : k < length (all_pairs p q) = omega (arith, h, state_count p q) in
      let this = told p q shape (pair k) (pair_is k less) i side in
      subst IsPlaced (sym (state_claim p q k i less side))
      (record { corner = this.corner; place = this.place })

module _ (p q : ℕ) (shape : IsShape p q) (kinds : List TileKind) (over : IsOver p q kinds) where
  abbrev B : TreeAutomaton
  B = regular_automaton p q

  limits : HasLimits kinds B
  limits = record {
    states = (omega (arith, state_count p q), omega (arith, state_count p q, all_few p q shape));
    corners = (omega (arith, corner_count p q), omega (arith, corner_count p q, shape.parity));
    roots = sym over.count;
  }

  root_zero : (k : ℕ) → k < 1 → root_at B k ≡ 0
  unfolding root_at
  root_zero zero h = refl
  root_zero (suc k) h = absurd (omega arith)

  tables : (s : ℕ) → s < length B.states → HasTables kinds B s
  tables s h =
      let state = plain p q s h in
      let one : (kind_at kinds (state_at B s).kind).repeat ≡ 1
      = ap (λ k. (kind_at kinds k).repeat) state.kind ∙ over.one_type in
      record {
        kind = omega (arith, state.kind, over.count);
        off = omega (arith, state.off, one);
        rules = state.rules ∙ sym (sides_are p q kinds over s h);
        claims = state.claims ∙ sym (sides_are p q kinds over s h);
      }

  targets : (s : ℕ) → s < length B.states → HasTargets kinds B s
  targets s h =
      let n = sides_are p q kinds over s h in
      record {
        child = λ i c side e. child_there p q shape s i c h (omega (arith, side, n)) e;
        claim = λ i side.
            let there = placed p q shape s i h (omega (arith, side, n)) in (
              omega (arith, there.corner, corner_count p q),
              omega (arith, there.place, valence_is p q (claim_at B s i).corner there.corner),
            );
      }

  pub closed_table : IsClosedTable kinds B
  closed_table = record {
    limits = limits;
    root = λ k h. omega (arith, root_zero k (omega (arith, h, over.count)), state_count p q);
    offsets = λ g h. has_offsets p q shape g (omega (arith, h, corner_count p q));
    outer = λ g h. has_outer p q shape g (omega (arith, h, corner_count p q));
    tables = tables;
    targets = targets;
  }
