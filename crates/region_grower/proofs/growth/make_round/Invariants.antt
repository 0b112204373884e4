-- Cells were made across the sides before this one.
use Rattle.std.proofs.Common.{◌≤◌, length}
use Rattle.region_grower.specs.Growth.{HasGrown}
use Rattle.region_grower.specs.Regions.{IsGrowing, StayLevel}
use Rattle.region_grower.proofs.growth.make_round.Given as goal

abbrev pub invariant-loop-side : goal.invariant-loop-side
invariant-loop-side l = record {
  growing : IsGrowing l.joins l.radii.items l.within;
  grown : HasGrown l.fn.joins l.joins;
  level : StayLevel l.fn.joins l.fn.radii.items l.joins l.radii.items;
  at_most : length l.joins.origins ≤ l.most;
}
