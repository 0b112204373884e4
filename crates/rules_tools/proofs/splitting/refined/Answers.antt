use Rattle.std.proofs.Common.{IfSome, length, ◌∙◌, subst}
use Rattle.rules_tools.specs.Parents.{AreTrue, AreAll}
use Rattle.rules_tools.proofs.splitting.refined.Goals as goal

pub loop-turn-preserved : goal.loop-turn-preserved
loop-turn-preserved c = record {
  rows = c.split_by.ensures.rows;
  long = c.split_by.ensures.long ∙ c.loop-turn.invariant.long;
  apart = λ kinds ok apart.
      c.in_ok-split_by.ensures.apart kinds c.args.a.now ok
      (record {
        sound = subst (λ o. IfSome o (AreTrue c.args.a.now)) c.in-Some.is c.in_ok-parents.ensures.sound;
        all = subst (λ o. IfSome o (λ p. AreAll c.args.a.now p (length c.args.a.now.states))) c.in-Some.is c.in_ok-parents.ensures.all;
      })
      (c.loop-turn.invariant.apart kinds ok apart);
}
