use Rattle.std.proofs.Common.{subst}
use Rattle.state_learner.specs.Learning.{HasClosed, IsFault}
use Rattle.walker_run.proofs.Making.{learnt_loaded, sphere_made, closed_made, given_up_made}
use Rattle.walker_run.proofs.load.learn_rules.Goals as goal

pub returns-in-Ok-clause-ok : goal.returns-in-Ok-clause-ok
returns-in-Ok-clause-ok g c = learnt_loaded c.args.tess.now c.args.cells c.in-Ok.rules c.in-Ok.ensures.rules

pub returns-in-Err-Spherical-clause-refused : goal.returns-in-Err-Spherical-clause-refused
returns-in-Err-Spherical-clause-refused g c = λ line is.
    let sphere = subst (λ x. IsFault c.args.tess.now c.args.cells x) c.in-Err-Spherical.field-0-is c.in-Err-Spherical.ensures.fault in
    sphere_made _ c.args.tess.now c.args.cells c.in-Err-Spherical.p c.in-Err-Spherical.q sphere line (cc is)

pub returns-in-Err-Closed-clause-refused : goal.returns-in-Err-Closed-clause-refused
returns-in-Err-Closed-clause-refused g c = λ line is.
    let closed : HasClosed c.args.tess.now c.in-Err-Closed.n = subst (λ x. IsFault c.args.tess.now c.args.cells x) c.in-Err-Closed.field-0-is c.in-Err-Closed.ensures.fault in
    closed_made c.args.tess.now c.args.cells c.in-Err-Closed.n closed line (cc is)

pub returns-in-Err-GaveUp-clause-refused : goal.returns-in-Err-GaveUp-clause-refused
returns-in-Err-GaveUp-clause-refused g c = λ line is.
    let given = subst (λ x. IsFault c.args.tess.now c.args.cells x) c.in-Err-GaveUp.field-0-is c.in-Err-GaveUp.ensures.fault in
    given_up_made c.args.tess.now c.args.cells given.irregular line (cc is)
