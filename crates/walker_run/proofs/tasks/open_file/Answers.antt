use Rattle.std.proofs.Common.{◌≡◌, ◌<◌, ◌⊎◌, List, Err, None, length, refl, sym, ap, subst}
use Rattle.tile_model.specs.Tessellations.{TileKind}
use Rattle.structure_check.specs.Rules.{TreeRules}
use Rattle.call_words.specs.Tasks.{RunSession, FromFile}
use Rattle.walker_run.specs.declared.line.Role.TheVariants.{Rules}
use Rattle.walker_run.specs.declared.line.Line.TheVariants.{FileFault}
use Rattle.walker_run.specs.Held.{Loaded, Refused, IsRules}
use Rattle.walker_run.specs.Due.{Contents, session_no_tess, session_no_kind, session_no_rules}
use Rattle.walker_run.specs.Effects.{ServesFor}
use Rattle.walker_run.proofs.Steps.{onward, same_contents}
use Rattle.walker_run.proofs.Carrying.{stopped, opens, kind_fits, rules_fit}
use Rattle.walker_run.proofs.tasks.open_file.Goals as goal

pub returns-in_err-tess : goal.returns-in_err-tess
returns-in_err-tess g c = λ seen.
    stopped _ _ _ seen seen (RunSession c.args.tess.now c.args.kind (FromFile c.args.rules.now)) (List TileKind) c.from_residual.result c.in_err-tess.field-0.0 c.from_residual.ensures.1 c.in_err-tess.ensures.effects
    (λ line is told. kind_fits _ _ (RunSession c.args.tess.now c.args.kind (FromFile c.args.rules.now)) c.args.tess.now c.args.kind line session_no_tess session_no_kind (c.in_err-tess.ensures.refused told line (ap Err is)))
    (λ line is told kinds a makes same. makes)

pub returns-in_err-rules : goal.returns-in_err-rules
returns-in_err-rules g c = λ seen.
    stopped _ _ _ seen seen (RunSession c.args.tess.now c.args.kind (FromFile c.args.rules.now)) TreeRules c.from_residual-in_err-rules.result c.in_err-rules.field-0.0 c.from_residual-in_err-rules.ensures.1
    (onward _ _ _ _ _ c.in_ok-tess.ensures.effects c.in_err-rules.ensures.effects)
    (λ line is told. rules_fit _ _ (RunSession c.args.tess.now c.args.kind (FromFile c.args.rules.now)) c.args.tess.now c.in_ok-tess.tess line
    (λ l. IsRules (g.F.Files.contents c.args.files.now) c.in_ok-tess.tess c.args.rules.now (Refused l))
    (c.in_ok-tess.tess, c.in_ok-tess.ensures.ok told, c.in_ok-tess.ensures.kind)
    (λ l refused. session_no_rules c.in_ok-tess.tess l (c.in_ok-tess.ensures.ok told) c.in_ok-tess.ensures.kind refused)
    (subst (λ (contents : Contents). (line ≡ FileFault Rules) ⊎ IsRules contents c.in_ok-tess.tess c.args.rules.now (Refused line)) (same_contents _ _ (c.in_ok-tess.ensures.effects.same told)) (c.in_err-rules.ensures.refused told line (ap Err is))))
    (λ line is told kinds a makes same. makes)

pub returns : goal.returns
returns g c = λ seen.
    opens _ _ _ seen seen (RunSession c.args.tess.now c.args.kind (FromFile c.args.rules.now)) None c.in_ok-rules.rules.kinds c.in_ok-rules.rules.automaton c.args.kind
    (onward _ _ _ _ _ c.in_ok-tess.ensures.effects c.in_ok-rules.ensures.effects)
    (λ told. subst (λ (ks : List TileKind). ServesFor (g.F.Files.contents c.args.files.now) None (RunSession c.args.tess.now c.args.kind (FromFile c.args.rules.now)) ks c.in_ok-rules.rules.automaton c.args.kind) (sym c.in_ok-rules.ensures.kinds) (
      c.in_ok-tess.ensures.ok told,
      subst (λ (contents : Contents). IsRules contents c.in_ok-tess.tess c.args.rules.now (Loaded c.in_ok-rules.rules.automaton)) (same_contents _ _ (c.in_ok-tess.ensures.effects.same told)) (c.in_ok-rules.ensures.ok told),
      c.in_ok-tess.ensures.kind,
      refl,
    ))
    tt
    (subst (λ (ks : List TileKind). c.args.kind < length ks) (sym c.in_ok-rules.ensures.kinds) c.in_ok-tess.ensures.kind)
    c.in_ok-rules.ensures.accepted
