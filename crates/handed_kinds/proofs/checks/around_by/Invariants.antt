-- So many tiles round the corner as were counted.
use Rattle.std.proofs.Common.{◌≡◌}
use Rattle.handed_kinds.specs.Handed.{IsHandedType, around_times}
use Rattle.handed_kinds.proofs.checks.around_by.Given as goal

abbrev pub invariant-loop-tile : goal.invariant-loop-tile
invariant-loop-tile l = record { is_type : IsHandedType l.kinds l.at; value : l.at ≡ around_times l.kinds l.tile l.fn.t }
