-- As many places as turns, all of them empty.
use Rattle.std.proofs.Common.{◌≡◌, replicate}
use Rattle.std.specs.Prelude.{None}
use Rattle.session_core.proofs.session.no_walkers.Given as goal

abbrev pub invariant-loop-place : goal.invariant-loop-place
invariant-loop-place l = l.walkers.items ≡ replicate l._place None
