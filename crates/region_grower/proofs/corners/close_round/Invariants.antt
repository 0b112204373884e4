-- The sides before this one were tried.
use Rattle.coincidence.specs.Joined.{IsTable}
use Rattle.region_grower.specs.Passes.{HasPassed}
use Rattle.region_grower.proofs.corners.close_round.Given as goal

abbrev pub invariant-loop-side : goal.invariant-loop-side
invariant-loop-side l = HasPassed l.fn.joins l.joins l.changed IsTable
