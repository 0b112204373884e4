use Rattle.std.proofs.Common.{◌≡◌, inl, inr, ℕ, List, Err, sym, ◌∙◌, ap, subst}
use Rattle.std.specs.Prelude.{All, IfSome, IfNone}
use Rattle.tile_model.specs.Relation.{Change, Lead, AreRelated}
use Rattle.log_model.specs.LogTexts.{HasText, log_text}
use Rattle.walker_run.specs.Effects.{Prints, IsLogged, logged, logged_apart, logged_deep, logged_nothing}
use Rattle.walker_run.proofs.Logging.{unprinted_for}
use Rattle.walker_run.proofs.logs.log_of.Goals as goal

pub returns-in_err-print_log-in-Ok-Some : goal.returns-in_err-print_log-in-Ok-Some
returns-in_err-print_log-in-Ok-Some c = unprinted_for _ _ _ _ c.from_residual.result c.from_residual.ensures.1

pub returns-in_ok-print_log-in-Ok-Some : goal.returns-in_ok-print_log-in-Ok-Some
returns-in_ok-print_log-in-Ok-Some c =
    let log = c.in-Ok-Some.log.items in
    let text : c.in_ok-print_log-in-Ok-Some.field-0.items ≡ log_text log = c.in_ok-print_log-in-Ok-Some.ensures ∙ ap (λ (l : List Change). log_text l) c.deref.ensures.value in
    let leads : Lead c.args.rules.now.kinds (c.args.kind, 0) log c.args.u.now c.args.w.now =
    subst (λ x. IfSome x (λ l. Lead c.args.rules.now.kinds (c.args.kind, 0) l.items c.args.u.now c.args.w.now)) c.in-Ok-Some.field-0-is c.in-Ok-Some.ensures.leads in
    let texts : All HasText log = subst (λ x. IfSome x (λ l. All HasText l.items)) c.in-Ok-Some.field-0-is c.in-Ok-Some.ensures.texts in
    subst (λ (l : List ℕ). IsLogged c.args.rules.now.kinds c.args.kind c.args.u.now c.args.w.now (Prints l)) (sym text)
    (logged log (λ far. elim (c.in-Ok-Some.ensures.too_deep far) [ inl e ↦ absurd (cc e) | inr e ↦ absurd (cc e) ]) texts leads)

pub returns-in-Ok-None : goal.returns-in-Ok-None
returns-in-Ok-None c =
    logged_apart (λ far. elim (c.in-Ok-None.ensures.too_deep far) [ inl e ↦ absurd (cc e) | inr e ↦ absurd (cc e) ])
    (subst (λ x. IfNone x (¬ AreRelated c.args.rules.now.kinds (c.args.kind, 0) c.args.u.now c.args.w.now)) c.in-Ok-None.field-0-is c.in-Ok-None.ensures.apart)

pub returns-in-Err-Deep : goal.returns-in-Err-Deep
returns-in-Err-Deep c = logged_deep (c.in-Err-Deep.ensures.deep (ap Err c.in-Err-Deep.field-0-is))

pub returns-in-Err-Memory : goal.returns-in-Err-Memory
returns-in-Err-Memory c = logged_nothing
