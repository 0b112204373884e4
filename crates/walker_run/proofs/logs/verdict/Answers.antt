use Rattle.std.proofs.Common.{ℕ, Err, refl, ap, subst}
use Rattle.tile_model.specs.Relation.{Lead}
use Rattle.log_model.specs.Logs.{IsFirstRefused, LeadsElsewhere}
use Rattle.walker_run.specs.declared.line.Line.TheVariants.{Related, LogChange, LogEnd}
use Rattle.walker_run.specs.Due.{log_leads, log_refused, log_ends}
use Rattle.walker_run.specs.Effects.{verified, verified_nothing}
use Rattle.walker_run.proofs.logs.verdict.Goals as goal

pub returns-in-Ok : goal.returns-in-Ok
returns-in-Ok c =
    verified Related (log_leads (subst (λ (d : ℕ × ℕ). Lead c.args.tess.now d c.args.log.now c.args.u.now c.args.w.now) c.start-start.ensures.value (c.in-Ok.ensures.leads refl)))

pub returns-in-Err-Change : goal.returns-in-Err-Change
returns-in-Err-Change c =
    let n = c.in-Err-Change.n in
    verified (LogChange n) (log_refused n (subst (λ (d : ℕ × ℕ). IsFirstRefused c.args.tess.now d c.args.u.now c.args.log.now n) c.start-start.ensures.value (c.in-Err-Change.ensures.change n (ap Err c.in-Err-Change.field-0-is))))

pub returns-in-Err-End : goal.returns-in-Err-End
returns-in-Err-End c =
    verified LogEnd (log_ends (subst (λ (d : ℕ × ℕ). LeadsElsewhere c.args.tess.now d c.args.log.now c.args.u.now c.args.w.now) c.start-start.ensures.value (c.in-Err-End.ensures.end (ap Err c.in-Err-End.field-0-is))))

pub returns-in-Err-Memory : goal.returns-in-Err-Memory
returns-in-Err-Memory c = verified_nothing
