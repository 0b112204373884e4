use Rattle.std.proofs.Common.{◌≡◌, ◌⊎◌, List, Err, ap, subst}
use Rattle.tile_model.specs.Tessellations.{TileKind}
use Rattle.structure_check.specs.Rules.{TreeRules}
use Rattle.call_words.specs.Tasks.{WriteLog}
use Rattle.walker_run.specs.declared.line.Role.TheVariants.{Rules}
use Rattle.walker_run.specs.declared.line.Line.TheVariants.{FileFault}
use Rattle.walker_run.specs.Held.{Loaded, Refused, IsRules}
use Rattle.walker_run.specs.Due.{Contents, kind_no_tess, kind_not_there, kind_there, log_no_rules}
use Rattle.walker_run.specs.Effects.{end_of, IsLogged}
use Rattle.walker_run.proofs.Steps.{onward, same_contents}
use Rattle.walker_run.proofs.Carrying.{stopped, kind_fits, rules_fit}
use Rattle.walker_run.proofs.Logging.{logged_so}
use Rattle.walker_run.proofs.logs.write_log.Goals as goal

pub returns-in_err-tess : goal.returns-in_err-tess
returns-in_err-tess g c = λ seen.
    let task = WriteLog c.args.tess.now c.args.rules.now c.args.kind c.args.u.now c.args.w.now in
    stopped _ _ _ seen seen task (List TileKind) c.from_residual.result c.in_err-tess.field-0.0 c.from_residual.ensures.1 c.in_err-tess.ensures.effects
    (λ line is told. kind_fits _ _ task c.args.tess.now c.args.kind line kind_no_tess kind_not_there (c.in_err-tess.ensures.refused told line (ap Err is)))
    (λ line is told kinds a makes same. makes)

pub returns-in_err-rules : goal.returns-in_err-rules
returns-in_err-rules g c = λ seen.
    let task = WriteLog c.args.tess.now c.args.rules.now c.args.kind c.args.u.now c.args.w.now in
    let tess = c.in_ok-tess.tess in
    stopped _ _ _ seen seen task TreeRules c.from_residual-in_err-rules.result c.in_err-rules.field-0.0 c.from_residual-in_err-rules.ensures.1
    (onward _ _ _ _ _ c.in_ok-tess.ensures.effects c.in_err-rules.ensures.effects)
    (λ line is told. rules_fit _ _ task c.args.tess.now tess line
    (λ l. IsRules (g.F.Files.contents c.args.files.now) tess c.args.rules.now (Refused l))
    (tess, c.in_ok-tess.ensures.ok told, c.in_ok-tess.ensures.kind)
    (λ l refused. kind_there tess l (c.in_ok-tess.ensures.ok told) c.in_ok-tess.ensures.kind (log_no_rules l refused))
    (subst (λ (contents : Contents). (line ≡ FileFault Rules) ⊎ IsRules contents tess c.args.rules.now (Refused line)) (same_contents _ _ (c.in_ok-tess.ensures.effects.same told)) (c.in_err-rules.ensures.refused told line (ap Err is))))
    (λ line is told kinds a makes same. makes)

pub returns : goal.returns
returns g c = λ seen.
    let tess = c.in_ok-tess.tess in
    let rules = c.in_ok-rules.rules in
    logged_so _ _ _ seen seen c.args.tess.now c.args.kind c.args.u.now c.args.w.now tess
    (onward _ _ _ _ _ c.in_ok-tess.ensures.effects c.in_ok-rules.ensures.effects)
    (λ told. c.in_ok-tess.ensures.ok told)
    c.in_ok-tess.ensures.kind
    c.args.rules.now rules.automaton
    (λ told. subst (λ (contents : Contents). IsRules contents tess c.args.rules.now (Loaded rules.automaton)) (same_contents _ _ (c.in_ok-tess.ensures.effects.same told)) (c.in_ok-rules.ensures.ok told))
    (subst (λ (ks : List TileKind). IsLogged ks c.args.kind c.args.u.now c.args.w.now (end_of c.log_of.result)) c.in_ok-rules.ensures.kinds c.log_of.ensures)
