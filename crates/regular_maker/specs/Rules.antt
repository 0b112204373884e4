-- The rules of a regular tessellation.
use Rattle.std.specs.Prelude.{◌≡◌, List}
use Rattle.tile_model.specs.Tessellations.{TileKind}
use Rattle.structure_check.specs.Rules.{TreeRules}
use Rattle.regular_maker.specs.Regular.{IsRegular, IsInfinite, p_of, q_of}
use Rattle.regular_maker.specs.Automaton.{regular_automaton}

-- The rules of a file that is regular and infinite: its own kinds, and this automaton.
pub record AreRegular (tess : List TileKind) (rules : TreeRules) : Type 0 where
  pub regular : IsRegular tess
  pub infinite : IsInfinite (p_of tess) (q_of tess)
  pub kinds : rules.kinds ≡ tess
  pub automaton : rules.automaton ≡ regular_automaton (p_of tess) (q_of tess)
