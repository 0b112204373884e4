-- Counts of faults that never fall.
use Rattle.std.proofs.Common.{ℕ, ◌≤◌, arith}
use Rattle.way_io.specs.Counts.{Rose}

-- a count that rises later has risen in all
pub rose_on : (first before now : ℕ) → first ≤ before → Rose before now → Rose first now
rose_on first before now later rose = omega (arith, later, rose)
