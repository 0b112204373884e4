-- The partners so far, and those that are left without their marks, are all of them.
use Rattle.std.proofs.Common.{◌≡◌, ◌++◌, drop, map}
use Rattle.tess_text.proofs.read.plain_kind.Given as goal

abbrev pub invariant-loop-side : goal.invariant-loop-side
invariant-loop-side l = l.partner.items ++ map (λ q. (q.0, q.1)) (drop l.side-index l.side-items) ≡ map (λ q. (q.0, q.1)) l.side-items
