-- So many tiles back.
use Rattle.std.proofs.Common.{◌≡◌, ◌-◌}
use Rattle.std.specs.Option.{option_map}
use Rattle.region_grower.specs.Ways.{IsDart}
use Rattle.region_grower.specs.Corners.{valence_at}
use Rattle.look_classes.specs.Places.{placed_within, placed}
use Rattle.look_classes.proofs.Rounds.{on}
use Rattle.look_classes.proofs.places.Places.placed.Given as goal

abbrev pub invariant-loop-place : goal.invariant-loop-place
invariant-loop-place l = record {
  dart : IsDart l.self.table l.at;
  rest : placed l.self l.fn.d ≡ option_map (on l.place) (placed_within (valence_at l.self.table l.fn.d - l.place) l.self l.at);
}
