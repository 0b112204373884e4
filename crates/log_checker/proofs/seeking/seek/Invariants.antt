-- A piece begins there, and not behind the place; each step goes one piece on.
use Rattle.std.proofs.Common.{◌-◌, ◌<◌, ◌≤◌, length}
use Rattle.log_checker.specs.Trails.{Begins}
use Rattle.log_checker.proofs.seeking.seek.Given as goal

abbrev pub invariant-loop-at : goal.invariant-loop-at
invariant-loop-at l = record { begins : Begins l.pieces l.at.index l.at.before; behind : l.at.before ≤ l.place; not_first : 0 < l.place → l.at.before < l.place }

abbrev pub decreases-loop-at : goal.decreases-loop-at
decreases-loop-at l = length l.pieces - l.at.index
