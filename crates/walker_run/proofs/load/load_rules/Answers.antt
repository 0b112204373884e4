use Rattle.std.proofs.Common.{◌≡◌, inl, inr, ℕ, List, Err, refl, sym, ap, subst}
use Rattle.serde_json.specs.Data.{Data}
use Rattle.tree_model.specs.Automata.{TreeAutomaton}
use Rattle.rules_file.specs.Spelling.{IsTextOf, IsRulesFile}
use Rattle.walker_run.specs.declared.line.Line.{Line}
use Rattle.walker_run.specs.Held.{Refused, Loaded, IsRules, rules_too_long, rules_syntax, rules_shape, rules_broken, rules_loaded}
use Rattle.walker_run.specs.declared.stop.Stop.TheVariants.{Say}
use Rattle.walker_run.proofs.Steps.{handed_on}
use Rattle.walker_run.proofs.load.load_rules.Goals as goal

pub returns-in_err-bytes-clause-refused : goal.returns-in_err-bytes-clause-refused
returns-in_err-bytes-clause-refused g c = λ told said is.
    let handed = handed_on c.in_err-bytes.field-0.0 c.from_residual.result c.from_residual.ensures.1 in
    let stop : c.in_err-bytes.field-0.0 ≡ Say said = cc (handed, is) in
    elim (c.in_err-bytes.ensures.refused told said (ap Err stop)) [
      | inl fault ↦ inl fault
      | inr long ↦ inr (subst (λ (a : Line). IsRules (g.F.Files.contents c.args.files.now) c.args.tess c.args.name.now (Refused a)) (sym long.0) (rules_too_long long.1))
    ]

pub returns-in-Err-Syntax-clause-refused : goal.returns-in-Err-Syntax-clause-refused
returns-in-Err-Syntax-clause-refused g c = λ told said is.
    let none : (d : Data) → ¬ (IsTextOf c.in_ok-bytes.bytes.items d) = subst (λ (l : List ℕ). (d : Data) → ¬ (IsTextOf l d)) c.deref.ensures.value (c.in-Err-Syntax.ensures.syntax (ap Err c.in-Err-Syntax.field-0-is)) in
    inr (subst (λ (a : Line). IsRules (g.F.Files.contents c.args.files.now) c.args.tess c.args.name.now (Refused a)) (cc is) (rules_syntax c.in_ok-bytes.bytes.items (c.in_ok-bytes.ensures.ok told) none))

pub returns-in-Err-Shape-clause-refused : goal.returns-in-Err-Shape-clause-refused
returns-in-Err-Shape-clause-refused g c = λ told said is.
    let found = c.in-Err-Shape.ensures.shape c.in-Err-Shape.part c.in-Err-Shape.index (ap Err c.in-Err-Shape.field-0-is) in
    let text : IsTextOf c.in_ok-bytes.bytes.items found.0 = subst (λ (l : List ℕ). IsTextOf l found.0) c.deref.ensures.value found.1 in
    inr (subst (λ (a : Line). IsRules (g.F.Files.contents c.args.files.now) c.args.tess c.args.name.now (Refused a)) (cc is) (rules_shape c.in_ok-bytes.bytes.items found.0 c.in-Err-Shape.part c.in-Err-Shape.index (c.in_ok-bytes.ensures.ok told) text found.2))

pub returns-in-Ok-check-clause-ok : goal.returns-in-Ok-check-clause-ok
returns-in-Ok-check-clause-ok g c = λ told.
    let file : IsRulesFile c.in_ok-bytes.bytes.items c.in-Ok.automaton = subst (λ (l : List ℕ). IsRulesFile l c.in-Ok.automaton) c.deref.ensures.value c.in-Ok.ensures.ok in
    subst (λ (a : TreeAutomaton). IsRules (g.F.Files.contents c.args.files.now) c.args.tess c.args.name.now (Loaded a)) (sym c.in-Ok-check.ensures.automaton_kept) (rules_loaded c.in_ok-bytes.bytes.items c.in-Ok.automaton (c.in_ok-bytes.ensures.ok told) file (c.in-Ok-check.ensures.exactly.0 refl))

pub returns-clause-refused : goal.returns-clause-refused
returns-clause-refused g c = λ told said is.
    let file : IsRulesFile c.in_ok-bytes.bytes.items c.in-Ok.automaton = subst (λ (l : List ℕ). IsRulesFile l c.in-Ok.automaton) c.deref.ensures.value c.in-Ok.ensures.ok in
    inr (subst (λ (a : Line). IsRules (g.F.Files.contents c.args.files.now) c.args.tess c.args.name.now (Refused a)) (cc is) (rules_broken c.in_ok-bytes.bytes.items c.in-Ok.automaton c.in-Err.broken.condition c.in-Err.broken.first c.in-Err.broken.second (c.in_ok-bytes.ensures.ok told) file c.in-Err.ensures.first_broken))
