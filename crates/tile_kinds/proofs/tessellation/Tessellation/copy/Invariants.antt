-- What is copied, followed by the kinds that are left, is the whole list.
use Rattle.std.proofs.Common.{◌≡◌, ◌++◌, drop}
use Rattle.tile_kinds.proofs.tessellation.Tessellation.copy.Given as goal

abbrev pub invariant-loop-kind : goal.invariant-loop-kind
invariant-loop-kind l = l.kinds.items ++ drop l.kind-index l.kind-items ≡ l.kind-items
