-- What stands, with the codes of the claims that are left.
use Rattle.std.proofs.Common.{◌≡◌, ◌++◌, drop}
use Rattle.rules_tools.specs.Keys.{claims_code}
use Rattle.rules_tools.proofs.keys.push_claims.Given as goal

abbrev pub invariant-loop-claim : goal.invariant-loop-claim
invariant-loop-claim l = l.key.items ++ claims_code (drop l.claim-index l.claims) ≡ l.fn.key.items ++ claims_code l.claims
