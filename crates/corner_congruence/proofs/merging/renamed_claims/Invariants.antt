-- The renamed claims so far, with those of what is left, are all.
use Rattle.std.proofs.Common.{◌≡◌, ◌++◌, drop, map}
use Rattle.corner_congruence.specs.Merged.{renamed_claim}
use Rattle.corner_congruence.proofs.merging.renamed_claims.Given as goal

abbrev pub invariant-loop-claim : goal.invariant-loop-claim
invariant-loop-claim l =
    l.all.items ++ map (renamed_claim l.classes) (drop l.claim-index l.claims) ≡ map (renamed_claim l.classes) l.claims
