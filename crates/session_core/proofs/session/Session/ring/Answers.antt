use Rattle.std.proofs.Common.{refl, sym, subst, arith}
use Rattle.std.specs.Prelude.{IfOk}
use Rattle.reply_model.specs.declared.Command.TheVariants.{Ring}
use Rattle.reply_model.specs.declared.Reply.TheVariants.{Tiles, TooMany}
use Rattle.session_core.specs.Answered.{HasAnswered}
use Rattle.session_core.proofs.Going.{seen, told}
use Rattle.session_core.proofs.Measuring.{has_listed, has_too_many, ring_refused, if_ok}
use Rattle.session_core.proofs.session.Session.ring.Goals as goal
use Rattle.session_core.proofs.session.Session.ring.Goals.{in-Ok, in-Ok-2, in-Err}

pub returns-clause-answered : goal.returns-clause-answered
returns-clause-answered c =
    let held = c.self.invariant in
    elim c.match-count.branch [
      | in-Ok w ↦
          (told _ _ _ (TooMany w.in-Ok.size) _ w.result-is
          (seen _ _ _ _ _ _ c.self.view_is refl
          (has_too_many _ held.session c.self.inside.rings held.rules held.kind c.args.d
          w.in-Ok.size w.in-Ok.ensures.near w.in-Ok.ensures.counted
          w.if-size-gt-MOST_LISTED.true)))
      | in-Ok-2 w ↦
          (told _ _ _ (Tiles c.args.d w.in-Ok.size) _ w.result-is
          (seen _ _ _ _ _ _ c.self.view_is refl
          (has_listed _ held.session c.self.inside.rings held.rules held.kind c.args.d
          w.in-Ok.size w.in-Ok.ensures.near w.in-Ok.ensures.counted
          (omega (arith, w.if-size-gt-MOST_LISTED.false)))))
      | in-Err w ↦
          (subst (λ r. IfOk r (λ x. HasAnswered c.args.self.now (Ring c.args.d) x _))
          (sym w.result-is)
          (if_ok w.refusal.result
          (λ x refused. seen _ _ _ _ _ _ c.self.view_is refl
          (ring_refused _ held.session c.self.inside.rings held.rules held.kind c.args.d
          c.count.result w.in-Err.fault w.in-Err.is c.count.ensures.far c.count.ensures.too_big x
          refused)) w.refusal.ensures))
    ]
