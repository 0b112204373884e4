-- The kinds so far, and those that are left without their marks, are all of them.
use Rattle.std.proofs.Common.{◌≡◌, ◌++◌, drop, map}
use Rattle.tess_text.specs.Spelling.{plain}
use Rattle.tess_text.proofs.read.plain_kinds.Given as goal

abbrev pub invariant-loop-kind : goal.invariant-loop-kind
invariant-loop-kind l = l.all.items ++ map plain (drop l.kind-index l.kinds) ≡ map plain l.kinds
