-- Each pass that changes something lowers what is left.
use Rattle.coincidence.specs.Joined.{IsTable}
use Rattle.region_grower.specs.Regions.{HasClosedOn, unfinished}
use Rattle.region_grower.proofs.corners.close_new.Given as goal

abbrev pub invariant-loop : goal.invariant-loop
invariant-loop l = record { table : IsTable l.joins; moved : HasClosedOn l.fn.joins l.joins }

abbrev pub decreases-loop : goal.decreases-loop
decreases-loop l = unfinished l.joins
