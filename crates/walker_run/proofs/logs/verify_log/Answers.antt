use Rattle.std.proofs.Common.{◌≡◌, ◌⊎◌, List, Err, ap, subst}
use Rattle.tile_model.specs.Tessellations.{TileKind}
use Rattle.tile_model.specs.Relation.{Change}
use Rattle.call_words.specs.Tasks.{VerifyLog}
use Rattle.walker_run.specs.declared.line.Role.TheVariants.{Log}
use Rattle.walker_run.specs.declared.line.Line.TheVariants.{FileFault}
use Rattle.walker_run.specs.Held.{Loaded, Refused, IsLog}
use Rattle.walker_run.specs.Due.{Contents, kind_no_tess, kind_not_there, kind_there, verify_no_log}
use Rattle.walker_run.specs.Effects.{end_of, IsVerified}
use Rattle.walker_run.proofs.Steps.{onward, same_contents}
use Rattle.walker_run.proofs.Carrying.{stopped, kind_fits}
use Rattle.walker_run.proofs.Logging.{log_fits, verified_so}
use Rattle.walker_run.proofs.logs.verify_log.Goals as goal

pub returns-in_err-tess : goal.returns-in_err-tess
returns-in_err-tess g c = λ seen.
    let task = VerifyLog c.args.tess.now c.args.kind c.args.u.now c.args.w.now c.args.log.now in
    stopped _ _ _ seen seen task (List TileKind) c.from_residual.result c.in_err-tess.field-0.0 c.from_residual.ensures.1 c.in_err-tess.ensures.effects
    (λ line is told. kind_fits _ _ task c.args.tess.now c.args.kind line kind_no_tess kind_not_there (c.in_err-tess.ensures.refused told line (ap Err is)))
    (λ line is told kinds a makes same. makes)

pub returns-in_err-log : goal.returns-in_err-log
returns-in_err-log g c = λ seen.
    let task = VerifyLog c.args.tess.now c.args.kind c.args.u.now c.args.w.now c.args.log.now in
    let tess = c.in_ok-tess.tess in
    stopped _ _ _ seen seen task (List Change) c.from_residual-in_err-log.result c.in_err-log.field-0.0 c.from_residual-in_err-log.ensures.1
    (onward _ _ _ _ _ c.in_ok-tess.ensures.effects c.in_err-log.ensures.effects)
    (λ line is told. log_fits _ _ task line
    (λ l. IsLog (g.F.Files.contents c.args.files.now) c.args.log.now (Refused l))
    (tess, c.in_ok-tess.ensures.ok told, c.in_ok-tess.ensures.kind)
    (λ l refused. kind_there tess l (c.in_ok-tess.ensures.ok told) c.in_ok-tess.ensures.kind (verify_no_log l refused))
    (subst (λ (contents : Contents). (line ≡ FileFault Log) ⊎ IsLog contents c.args.log.now (Refused line)) (same_contents _ _ (c.in_ok-tess.ensures.effects.same told)) (c.in_err-log.ensures.refused told line (ap Err is))))
    (λ line is told kinds a makes same. makes)

pub returns : goal.returns
returns g c = λ seen.
    let tess = c.in_ok-tess.tess in
    let log = c.in_ok-log.log.items in
    verified_so _ _ _ seen seen c.args.tess.now c.args.kind c.args.u.now c.args.w.now tess
    (onward _ _ _ _ _ c.in_ok-tess.ensures.effects c.in_ok-log.ensures.effects)
    (λ told. c.in_ok-tess.ensures.ok told)
    c.in_ok-tess.ensures.kind
    c.args.log.now log
    (λ told. subst (λ (contents : Contents). IsLog contents c.args.log.now (Loaded log)) (same_contents _ _ (c.in_ok-tess.ensures.effects.same told)) (c.in_ok-log.ensures.ok told))
    (subst (λ (l : List Change). IsVerified tess c.args.kind c.args.u.now c.args.w.now l (end_of c.verdict.result)) c.deref.ensures.value c.verdict.ensures)
