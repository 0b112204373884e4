use Rattle.std.proofs.Common.{◌≡◌, ◌⊎◌, inl, inr, IsTrue, List, None, Err, ap, subst}
use Rattle.tile_model.specs.Tessellations.{TileKind}
use Rattle.structure_check.specs.Rules.{TreeRules}
use Rattle.merge_model.specs.Merging.{IsMerged}
use Rattle.call_words.specs.Tasks.{MergeRules}
use Rattle.walker_run.specs.declared.line.Role.TheVariants.{Rules}
use Rattle.walker_run.specs.declared.line.Line.{Line}
use Rattle.walker_run.specs.declared.line.Line.TheVariants.{FileFault}
use Rattle.walker_run.specs.declared.stop.Stop.TheVariants.{Say}
use Rattle.walker_run.specs.Held.{Loaded, Refused, IsRules}
use Rattle.walker_run.specs.Due.{Contents, merge_no_tess, merge_no_rules}
use Rattle.walker_run.specs.Effects.{end_of}
use Rattle.walker_run.proofs.Unique.{not_refused_too, unmerged}
use Rattle.walker_run.proofs.Steps.{onward, same_contents}
use Rattle.walker_run.proofs.Carrying.{stopped, lacked, tess_fits, rules_fit}
use Rattle.walker_run.proofs.Keeping.{keeps}
use Rattle.walker_run.proofs.merging.merge_rules.Goals as goal

pub returns-in_err-tess : goal.returns-in_err-tess
returns-in_err-tess g c = λ seen.
    let task = MergeRules c.args.tess.now c.args.rules.now c.args.out.now in
    let contents = g.F.Files.contents c.args.files.now in
    stopped _ _ _ seen seen task (List TileKind) c.from_residual.result c.in_err-tess.field-0.0 c.from_residual.ensures.1 c.in_err-tess.ensures.effects
    (λ line is told. tess_fits _ _ task c.args.tess.now line merge_no_tess (c.in_err-tess.ensures.refused told line (ap Err is)))
    (λ line is told kinds a makes same. elim (c.in_err-tess.ensures.refused told line (ap Err is)) [
      | inl fault ↦ absurd (cc (fault, same))
      | inr refused ↦ not_refused_too c.laws_below.ensures contents c.args.tess.now makes.loaded refused
    ])

pub returns-in_err-rules : goal.returns-in_err-rules
returns-in_err-rules g c = λ seen.
    let task = MergeRules c.args.tess.now c.args.rules.now c.args.out.now in
    let contents = g.F.Files.contents c.args.files.now in
    let tess = c.in_ok-tess.tess in
    let refusal : (line : Line) → c.in_err-rules.field-0.0 ≡ Say line → IsTrue g.F.Files.tells → (line ≡ FileFault Rules) ⊎ IsRules contents tess c.args.rules.now (Refused line) = λ line is told.
    subst (λ (held : Contents). (line ≡ FileFault Rules) ⊎ IsRules held tess c.args.rules.now (Refused line)) (same_contents _ _ (c.in_ok-tess.ensures.effects.same told)) (c.in_err-rules.ensures.refused told line (ap Err is)) in
    stopped _ _ _ seen seen task TreeRules c.from_residual-in_err-rules.result c.in_err-rules.field-0.0 c.from_residual-in_err-rules.ensures.1
    (onward _ _ _ _ _ c.in_ok-tess.ensures.effects c.in_err-rules.ensures.effects)
    (λ line is told. rules_fit _ _ task c.args.tess.now tess line
    (λ l. IsRules contents tess c.args.rules.now (Refused l))
    (tess, c.in_ok-tess.ensures.ok told)
    (λ l refused. merge_no_rules tess l (c.in_ok-tess.ensures.ok told) refused)
    (refusal line is told))
    (λ line is told kinds a makes same. elim (refusal line is told) [
      | inl fault ↦ absurd (cc (fault, same))
      | inr refused ↦ unmerged c.laws_below.ensures contents c.args.tess.now c.args.rules.now kinds tess a line makes (c.in_ok-tess.ensures.ok told) refused
    ])

pub returns-in_err-merged : goal.returns-in_err-merged
returns-in_err-merged g c = λ seen.
    lacked _ _ _ seen seen (MergeRules c.args.tess.now c.args.rules.now c.args.out.now) c.from_residual-in_err-merged.result c.from_residual-in_err-merged.ensures.1
    (onward _ _ _ _ _ c.in_ok-tess.ensures.effects c.in_ok-rules.ensures.effects)

pub returns : goal.returns
returns g c = λ seen.
    let rules = c.in_ok-rules.rules in
    keeps _ _ _ _ seen seen (MergeRules c.args.tess.now c.args.rules.now c.args.out.now) None c.in_ok-tess.tess c.in_ok-merged.merged.rules.automaton
    (onward _ _ _ _ _ c.in_ok-tess.ensures.effects c.in_ok-rules.ensures.effects)
    (λ told. record {
      source = rules.automaton;
      classes = c.in_ok-merged.merged.class.items;
      loaded = c.in_ok-tess.ensures.ok told;
      read = subst (λ (held : Contents). IsRules held c.in_ok-tess.tess c.args.rules.now (Loaded rules.automaton)) (same_contents _ _ (c.in_ok-tess.ensures.effects.same told)) (c.in_ok-rules.ensures.ok told);
      merged = subst (λ (ks : List TileKind). IsMerged ks rules.automaton c.in_ok-merged.merged.class.items c.in_ok-merged.merged.rules.automaton) c.in_ok-rules.ensures.kinds c.in_ok-merged.ensures.merged;
    })
    c.laws_below.ensures (end_of c.keep_rules.result) c.keep_rules.ensures
