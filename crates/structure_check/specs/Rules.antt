-- Rules: a tessellation and an accepted automaton over it.
use Rattle.std.specs.Prelude.{List}
use Rattle.tile_model.specs.Tessellations.{TileKind}
use Rattle.tile_model.specs.Validity.{IsValid}
use Rattle.tree_model.specs.Automata.{TreeAutomaton}
use Rattle.tree_model.specs.Conditions.{IsAccepted}

-- an automaton over the kinds of a tessellation
pub record TreeRules : Type 0 where
  pub kinds : List TileKind
  pub automaton : TreeAutomaton

-- The kinds are a tessellation, and all twelve conditions hold.
pub record AreSound (rules : TreeRules) : Type 0 where
  pub valid : IsValid rules.kinds
  pub accepted : IsAccepted rules.kinds rules.automaton
