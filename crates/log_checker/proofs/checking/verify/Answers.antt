use Rattle.std.proofs.Common.{◌≡◌, ◌+◌, subst}
use Rattle.log_model.specs.Logs.{IsFirstRefused}
use Rattle.log_checker.specs.Trails.{walk_of}
use Rattle.log_checker.proofs.Following.{lead_more, refused_here}
use Rattle.log_checker.proofs.checking.verify.Goals as goal

pub returns-then-not-branch-clause-change : goal.returns-then-not-branch-clause-change
returns-then-not-branch-clause-change c = λ n e.
    let same : c.loop-done.done + 1 ≡ n = cc (e) in
    let here = refused_here c.args.t.now c.args.from c.args.log.now c.loop-done.done c.index-log-done.result c.args.u.now (walk_of c.loop-done.trail.pieces.items) c.loop-done-test.true c.index-log-done.is c.loop-done.invariant.leads (c.in_ok-apply.ensures.refused c.if-not-branch.true) in
    subst (IsFirstRefused c.args.t.now c.args.from c.args.u.now c.args.log.now) same here

pub loop-done-preserved : goal.loop-done-preserved
loop-done-preserved c = record {
  leads = lead_more c.args.t.now c.args.from c.args.log.now c.loop-done.done c.index-log-done.result c.args.u.now (walk_of c.loop-done.trail.pieces.items) c.loop-done-test.true c.index-log-done.is c.loop-done.invariant.leads (walk_of c.apply.new.self.pieces.items) (c.in_ok-apply.ensures.changed c.if-not-branch.false);
  typed = c.in_ok-apply.ensures.typed c.if-not-branch.false;
  begins = c.in_ok-apply.ensures.begins c.if-not-branch.false;
}
