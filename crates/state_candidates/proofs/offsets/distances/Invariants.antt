-- So many distances stand, and the way has come so far.
use Rattle.state_candidates.specs.Stops.{IsOnWay}
use Rattle.state_candidates.proofs.offsets.distances.Given as goal

abbrev pub invariant-loop-time : goal.invariant-loop-time
invariant-loop-time l = IsOnWay l.region l.fn.base l.near l.time l.offsets.items l.at
