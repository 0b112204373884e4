-- The tiles before.
use Rattle.std.proofs.Common.{◌≡◌, IfSome, Some}
use Rattle.std.specs.Option.{option_map}
use Rattle.region_grower.specs.Ways.{IsDart}
use Rattle.region_grower.specs.Corners.{rounds}
use Rattle.look_classes.specs.Looks.{each_below}
use Rattle.look_classes.specs.Codes.{distance_code}
use Rattle.look_classes.proofs.corners.distances.Given as goal

abbrev pub invariant-loop-tile : goal.invariant-loop-tile
invariant-loop-tile l = record {
  at : l.at ≡ rounds l.tile l.places.table l.fn.base;
  dart : IfSome l.at (IsDart l.places.table);
  codes : each_below l.tile (λ j. option_map (distance_code l.places l.fn.base) (rounds j l.places.table l.fn.base)) ≡ Some l.codes.items;
}
