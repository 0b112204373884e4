-- The automaton of {p,q} meets the twelve conditions over each regular file of this symbol.
use Rattle.std.proofs.Common.{ℕ, List, arith}
use Rattle.tile_model.specs.Tessellations.{TileKind}
use Rattle.tile_model.specs.Validity.{IsValid}
use Rattle.tree_model.specs.Conditions.{IsAccepted}
use Rattle.regular_maker.specs.Regular.{IsRegular, IsInfinite, p_of, q_of}
use Rattle.regular_maker.specs.Automaton.{regular_automaton}
use Rattle.regular_maker.proofs.Shapes.{IsShape, shape_of}
use Rattle.regular_maker.proofs.Tables.{corner_count}
use Rattle.regular_maker.proofs.Over.{IsOver, over_of, symbol_of}
use Rattle.regular_maker.proofs.TableCondition.{closed_table}
use Rattle.regular_maker.proofs.SideConditions.{parent_rule, child_type, claim_valence, first_place_side, last_place_side, outer_before_side, outer_behind_side}
use Rattle.regular_maker.proofs.ChildConditions.{keeps_claims}
use Rattle.regular_maker.proofs.CornerConditions.{one_change, small_change, falling_cycles}

all_conditions : (p q : ℕ) (shape : IsShape p q) (kinds : List TileKind) → IsOver p q kinds
    → IsAccepted kinds (regular_automaton p q)
all_conditions p q shape kinds over = record {
  c1 = closed_table p q shape kinds over;
  c2 = parent_rule p q shape kinds over;
  c3 = child_type p q shape kinds over;
  c4 = claim_valence p q shape kinds over;
  c5 = first_place_side p q shape kinds over;
  c6 = last_place_side p q shape kinds over;
  c7 = outer_before_side p q shape kinds over;
  c8 = outer_behind_side p q shape kinds over;
  c9 = keeps_claims p q shape kinds over;
  c10 = λ g h. one_change p q shape g (omega (arith, h, corner_count p q));
  c11 = λ g h. small_change p q shape g (omega (arith, h, corner_count p q));
  c12 = λ g h. falling_cycles p q shape g (omega (arith, h, corner_count p q));
}

pub accepted : (kinds : List TileKind) → IsValid kinds → IsRegular kinds
    → IsInfinite (p_of kinds) (q_of kinds)
    → IsAccepted kinds (regular_automaton (p_of kinds) (q_of kinds))
accepted kinds valid regular infinite =
    all_conditions (p_of kinds) (q_of kinds)
    (shape_of (p_of kinds) (q_of kinds) (symbol_of kinds valid regular infinite))
    kinds (over_of kinds valid regular)
