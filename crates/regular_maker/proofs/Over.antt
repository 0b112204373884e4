-- What a regular file says of its only type, and what the automaton reads there.
use Rattle.std.proofs.Common.{◌≡◌, ℕ, zero, suc, ◌+◌, ◌-◌, ◌%◌, ◌<◌, ◌≤◌, List, length, refl, sym, ap, ◌∙◌, subst, arith}
use Rattle.tile_model.specs.Tessellations.{TileKind, kind_at, cross, valence, IsType}
use Rattle.tile_model.specs.Validity.{IsValid}
use Rattle.tree_model.specs.Automata.{TreeAutomaton, state_at, side_count, type_at, next, previous}
use Rattle.regular_maker.specs.Regular.{IsRegular, IsInfinite, IsSymbol, p_of, q_of}
use Rattle.regular_maker.specs.Automaton.{regular_automaton}
use Rattle.regular_maker.proofs.Tables.{plain}

-- The kinds are one kind of p sides that are all alike and lie across from each other, with q tiles
-- round each corner.
pub record IsOver (p q : ℕ) (kinds : List TileKind) : Type 0 where
  pub count : length kinds ≡ 1
  pub sides : (kind_at kinds 0).sides ≡ p
  pub one_type : (kind_at kinds 0).repeat ≡ 1
  pub across : cross kinds (0, 0) ≡ (0, 0)
  pub tiles : valence kinds (0, 0) ≡ q

module _ (kinds : List TileKind) (valid : IsValid kinds) (regular : IsRegular kinds) where
  the_type : IsType kinds (0, 0)
  the_type = (omega (arith, regular.one_kind), omega (arith, regular.one_type))

  pub over_of : IsOver (p_of kinds) (q_of kinds) kinds
  over_of =
      let partner = valid.partner (0, 0) the_type in
      let kind : (cross kinds (0, 0)).0 ≡ 0 = omega (arith, partner.0, regular.one_kind) in
      let same : (kind_at kinds (cross kinds (0, 0)).0).repeat ≡ 1
      = ap (λ k. (kind_at kinds k).repeat) kind ∙ regular.one_type in
      let residue : (cross kinds (0, 0)).1 ≡ 0 = omega (arith, partner.1, same) in
      record {
        count = regular.one_kind;
        sides = refl;
        one_type = regular.one_type;
        across = λ i. (kind i, residue i);
        tiles = refl;
      }

  pub symbol_of : IsInfinite (p_of kinds) (q_of kinds) → IsSymbol (p_of kinds) (q_of kinds)
  symbol_of infinite = record {
    sides = valid.sides 0 (omega (arith, regular.one_kind));
    tiles = valid.valence (0, 0) the_type;
    infinite = infinite;
  }

modulo_one : (n m : ℕ) → m ≡ 1 → n % m ≡ 0
modulo_one n m e = subst (λ k. n % k ≡ 0) (sym e) (omega arith)

module _ (p q : ℕ) (kinds : List TileKind) (over : IsOver p q kinds) where
  abbrev A : TreeAutomaton
  A = regular_automaton p q

  pub sides_are : (s : ℕ) → s < length A.states → side_count kinds A s ≡ p
  unfolding side_count
  sides_are s h = ap (λ k. (kind_at kinds k).sides) (plain p q s h).kind ∙ over.sides

  pub type_is : (s i : ℕ) → s < length A.states → type_at kinds A s i ≡ (0, 0)
  unfolding type_at
  type_is s i h =
      let kind = (plain p q s h).kind in
      let one : (kind_at kinds (state_at A s).kind).repeat ≡ 1
      = ap (λ k. (kind_at kinds k).repeat) kind ∙ over.one_type in
      let residue = modulo_one ((state_at A s).off + i)
      (kind_at kinds (state_at A s).kind).repeat one in
      λ j. (kind j, residue j)

pub previous_is : (n i : ℕ) → 1 ≤ i → previous n i ≡ i - 1
previous_is n zero h = absurd (omega arith)
previous_is n (suc i) h = omega arith

pub previous_less : (n i : ℕ) → i < n → previous n i < n
previous_less n zero h = omega arith
previous_less n (suc i) h = omega arith

pub next_inner : (n i : ℕ) → suc i < n → next n i ≡ suc i
unfolding next
next_inner n i h = grind arith

pub next_last : (n i : ℕ) → suc i ≡ n → next n i ≡ 0
unfolding next
next_last n i h = grind arith
