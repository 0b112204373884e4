use Rattle.std.proofs.Common.{ℕ, ◌<◌}
use Rattle.structure_check.specs.Broken.{PartHolds}
use Rattle.structure_check.specs.Search.{part_number}
use Rattle.structure_check.proofs.table.check_part.Given as goal

abbrev pub invariant-loop-index : goal.invariant-loop-index
invariant-loop-index l = (j : ℕ) → j < l.index → PartHolds l.tess l.a (part_number l.part) j
