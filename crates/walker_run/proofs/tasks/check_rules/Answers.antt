use Rattle.std.proofs.Common.{◌≡◌, ◌⊎◌, List, Err, length, ap, subst}
use Rattle.tile_model.specs.Tessellations.{TileKind}
use Rattle.structure_check.specs.Rules.{TreeRules}
use Rattle.call_words.specs.Tasks.{CheckRules}
use Rattle.walker_run.specs.declared.line.Role.TheVariants.{Rules}
use Rattle.walker_run.specs.declared.line.Line.TheVariants.{Accepted, FileFault}
use Rattle.walker_run.specs.Held.{Loaded, Refused, IsRules}
use Rattle.walker_run.specs.Due.{Contents, check_no_tess, check_no_rules, check_accepted}
use Rattle.walker_run.specs.Effects.{fits_row}
use Rattle.walker_run.proofs.Steps.{still, onward, same_contents}
use Rattle.walker_run.proofs.Carrying.{stopped, says_plainly, says_as, tess_fits, rules_fit}
use Rattle.walker_run.proofs.tasks.check_rules.Goals as goal

pub returns-in_err-tess : goal.returns-in_err-tess
returns-in_err-tess g c = λ seen.
    stopped _ _ _ seen seen (CheckRules c.args.tess.now c.args.rules.now) (List TileKind) c.from_residual.result c.in_err-tess.field-0.0 c.from_residual.ensures.1 c.in_err-tess.ensures.effects
    (λ line is told. tess_fits _ _ (CheckRules c.args.tess.now c.args.rules.now) c.args.tess.now line check_no_tess (c.in_err-tess.ensures.refused told line (ap Err is)))
    (λ line is told kinds a makes same. makes)

pub returns-in_err-rules : goal.returns-in_err-rules
returns-in_err-rules g c = λ seen.
    stopped _ _ _ seen seen (CheckRules c.args.tess.now c.args.rules.now) TreeRules c.from_residual-in_err-rules.result c.in_err-rules.field-0.0 c.from_residual-in_err-rules.ensures.1
    (onward _ _ _ _ _ c.in_ok-tess.ensures.effects c.in_err-rules.ensures.effects)
    (λ line is told. rules_fit _ _ (CheckRules c.args.tess.now c.args.rules.now) c.args.tess.now c.in_ok-tess.tess line
    (λ l. IsRules (g.F.Files.contents c.args.files.now) c.in_ok-tess.tess c.args.rules.now (Refused l))
    (c.in_ok-tess.tess, c.in_ok-tess.ensures.ok told)
    (λ l refused. check_no_rules c.in_ok-tess.tess l (c.in_ok-tess.ensures.ok told) refused)
    (subst (λ (contents : Contents). (line ≡ FileFault Rules) ⊎ IsRules contents c.in_ok-tess.tess c.args.rules.now (Refused line)) (same_contents _ _ (c.in_ok-tess.ensures.effects.same told)) (c.in_err-rules.ensures.refused told line (ap Err is))))
    (λ line is told kinds a makes same. makes)

pub returns : goal.returns
returns g c = λ seen.
    let states = length c.in_ok-rules.rules.automaton.states in
    let corners = length c.in_ok-rules.rules.automaton.corners in
    says_as _ _ _ seen seen (CheckRules c.args.tess.now c.args.rules.now) c.accepted.result (Accepted states corners) c.accepted.ensures
    (says_plainly _ _ _ seen seen (CheckRules c.args.tess.now c.args.rules.now) (Accepted states corners)
    (still _ _ _ (Accepted states corners) tt (λ role is. absurd (cc is)) (onward _ _ _ _ _ c.in_ok-tess.ensures.effects c.in_ok-rules.ensures.effects))
    (λ told. fits_row (Accepted states corners) (check_accepted c.in_ok-tess.tess c.in_ok-rules.rules.automaton (c.in_ok-tess.ensures.ok told)
    (subst (λ (contents : Contents). IsRules contents c.in_ok-tess.tess c.args.rules.now (Loaded c.in_ok-rules.rules.automaton)) (same_contents _ _ (c.in_ok-tess.ensures.effects.same told)) (c.in_ok-rules.ensures.ok told))))
    (λ told kinds a makes same. makes))
