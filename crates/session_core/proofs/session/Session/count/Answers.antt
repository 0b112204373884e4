use Rattle.std.proofs.Common.{refl, sym, subst}
use Rattle.std.specs.Prelude.{IfOk}
use Rattle.reply_model.specs.declared.Command.TheVariants.{Count}
use Rattle.reply_model.specs.declared.Reply.TheVariants.{Count as Counted}
use Rattle.session_core.specs.Answered.{HasAnswered}
use Rattle.session_core.proofs.Going.{seen, told}
use Rattle.session_core.proofs.Measuring.{has_counted, count_refused, if_ok}
use Rattle.session_core.proofs.session.Session.count.Goals as goal
use Rattle.session_core.proofs.session.Session.count.Goals.{in-Ok, in-Err}

pub returns-clause-answered : goal.returns-clause-answered
returns-clause-answered c =
    let held = c.self.invariant in
    elim c.match-count.branch [
      | in-Ok w ↦
          (told _ _ _ (Counted w.in-Ok.size) _ w.result-is
          (seen _ _ _ _ _ _ c.self.view_is refl
          (has_counted _ held.session c.self.inside.rings held.rules held.kind c.args.d w.in-Ok.size
          w.in-Ok.ensures.near w.in-Ok.ensures.counted)))
      | in-Err w ↦
          (subst (λ r. IfOk r (λ x. HasAnswered c.args.self.now (Count c.args.d) x _))
          (sym w.result-is)
          (if_ok w.refusal.result
          (λ x refused. seen _ _ _ _ _ _ c.self.view_is refl
          (count_refused _ held.session c.self.inside.rings held.rules held.kind c.args.d
          c.count.result w.in-Err.fault w.in-Err.is c.count.ensures.far c.count.ensures.too_big x
          refused)) w.refusal.ensures))
    ]
