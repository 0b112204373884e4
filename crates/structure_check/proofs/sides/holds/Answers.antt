use Rattle.structure_check.proofs.sides.holds.Goals as goal

pub returns-in-ChildClaims : goal.returns-in-ChildClaims
returns-in-ChildClaims c = rw c.in-ChildClaims.is c.keeps_claims.ensures
