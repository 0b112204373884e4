-- What rules are answered.
use Rattle.std.specs.Prelude.{◌≡◌, List}
use Rattle.tile_model.specs.Tessellations.{TileKind}
use Rattle.structure_check.specs.Rules.{TreeRules, AreSound}

-- Rules of these kinds, of which all twelve conditions hold.
pub record AreAccepted (kinds : List TileKind) (rules : TreeRules) : Type 0 where
  pub same_kinds : rules.kinds ≡ kinds
  pub sound : AreSound rules
