use Rattle.std.proofs.Common.{[], ◌∷◌, subst}
use Rattle.derivation_log.specs.Drafts.{IsWritten}
use Rattle.derivation_log.proofs.Drafts.{turning_on}
use Rattle.derivation_log.proofs.draft.Draft.write_back.Goals as goal

pub loop-last-preserved : goal.loop-last-preserved
loop-last-preserved c =
    let written = subst (λ x. IsWritten c.loop-last.self (x ∷ []) c.write.new.self) c.turned_round.ensures c.in_ok-write.ensures in
    turning_on c.args.self.now c.args.log.now c.loop-last.rest.now c.in-Some.before.now c.loop-last.self c.write.new.self c.in-Some.last.now c.loop-last.invariant c.in-Some.ensures.cases.0 written
