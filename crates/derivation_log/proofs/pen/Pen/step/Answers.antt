use Rattle.std.proofs.Common.{sym, subst}
use Rattle.derivation_log.specs.Pens.{HasStepped}
use Rattle.derivation_log.proofs.Steps.{stepped_left, stepped_right}
use Rattle.derivation_log.proofs.pen.Pen.step.Goals as goal

pub returns-in_ok-turn_left-in-L-clause-stepped : goal.returns-in_ok-turn_left-in-L-clause-stepped
returns-in_ok-turn_left-in-L-clause-stepped c =
    let stepped = stepped_left c.args.r.now c.accepted.ensures c.args.self.now c.turn_left.new.self c.requires c.in_ok-turn_left-in-L.ensures in
    subst (λ x. HasStepped c.args.r.now c.args.self.now x c.turn_left.new.self) (sym c.in-L.is) stepped

pub returns-in_ok-turn_right-in-R-clause-stepped : goal.returns-in_ok-turn_right-in-R-clause-stepped
returns-in_ok-turn_right-in-R-clause-stepped c =
    let stepped = stepped_right c.args.r.now c.accepted.ensures c.args.self.now c.turn_right.new.self c.requires c.in_ok-turn_right-in-R.ensures in
    subst (λ x. HasStepped c.args.r.now c.args.self.now x c.turn_right.new.self) (sym c.in-R.is) stepped
