-- Cells were made round the cells before this one.
use Rattle.std.proofs.Common.{◌<◌, ◌≤◌, length}
use Rattle.region_grower.specs.Growth.{HasGrown}
use Rattle.region_grower.specs.Regions.{IsGrowing, StayLevel}
use Rattle.region_grower.proofs.growth.make_cells.Given as goal

abbrev pub invariant-loop-cell : goal.invariant-loop-cell
invariant-loop-cell l = record {
  growing : IsGrowing l.joins l.radii.items l.within;
  grown : HasGrown l.fn.joins l.joins;
  level : StayLevel l.fn.joins l.fn.radii.items l.joins l.radii.items;
  at_most : length l.joins.origins ≤ l.most;
  more : length l.fn.joins.origins < length l.joins.origins;
}
