-- The letters so far, and then the rest, are the walk.
use Rattle.std.proofs.Common.{◌≡◌, ◌++◌, take}
use Rattle.log_checker.specs.Footprints.{letters}
use Rattle.log_checker.proofs.checking.without.Given as goal

abbrev pub invariant-loop-footprint : goal.invariant-loop-footprint
invariant-loop-footprint l = l.fn.w ≡ letters (take l.footprint-index l.footprints) ++ l.rest
