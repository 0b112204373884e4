-- The renamed roots so far, with those of what is left, are all.
use Rattle.std.proofs.Common.{◌≡◌, ◌++◌, drop, map}
use Rattle.corner_congruence.specs.Merged.{renamed_root}
use Rattle.corner_congruence.proofs.merging.merged_roots.Given as goal

abbrev pub invariant-loop-root : goal.invariant-loop-root
invariant-loop-root l =
    l.merged.items ++ map (renamed_root l.classes) (drop l.root-index l.roots) ≡ map (renamed_root l.classes) l.roots
