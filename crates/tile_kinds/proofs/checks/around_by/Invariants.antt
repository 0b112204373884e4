-- So many tiles round the corner as were counted.
use Rattle.std.proofs.Common.{◌≡◌}
use Rattle.tile_model.specs.Tessellations.{IsType, around_times}
use Rattle.tile_kinds.proofs.checks.around_by.Given as goal

abbrev pub invariant-loop-tile : goal.invariant-loop-tile
invariant-loop-tile l = record { is_type : IsType l.kinds l.at; value : l.at ≡ around_times l.kinds l.tile l.fn.t }
