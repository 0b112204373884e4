-- The lower residues pass.
use Rattle.std.proofs.Common.{ℕ, ◌<◌}
use Rattle.handed_kinds.specs.Checks.{Passes}
use Rattle.handed_kinds.proofs.checks.failing_residue.Given as goal

abbrev pub invariant-loop-residue : goal.invariant-loop-residue
invariant-loop-residue l = (s : ℕ) → s < l.residue → Passes l.check l.kinds (l.k, s)
