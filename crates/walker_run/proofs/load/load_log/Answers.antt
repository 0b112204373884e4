use Rattle.std.proofs.Common.{◌≡◌, inl, inr, ℕ, List, Err, ◌∙◌, sym, ap, subst}
use Rattle.log_model.specs.LogTexts.{IsFirstBadLine}
use Rattle.walker_run.specs.declared.line.Line.{Line}
use Rattle.walker_run.specs.declared.line.Line.TheVariants.{LogLine}
use Rattle.walker_run.specs.declared.stop.Stop.TheVariants.{Say}
use Rattle.walker_run.specs.Held.{Refused, IsLog, log_too_long, log_line, log_loaded}
use Rattle.walker_run.proofs.Steps.{handed_on}
use Rattle.walker_run.proofs.load.load_log.Goals as goal

pub returns-in_err-bytes-clause-refused : goal.returns-in_err-bytes-clause-refused
returns-in_err-bytes-clause-refused g c = λ told said is.
    let handed = handed_on c.in_err-bytes.field-0.0 c.from_residual.result c.from_residual.ensures.1 in
    let stop : c.in_err-bytes.field-0.0 ≡ Say said = cc (handed, is) in
    elim (c.in_err-bytes.ensures.refused told said (ap Err stop)) [
      | inl fault ↦ inl fault
      | inr long ↦ inr (subst (λ (a : Line). IsLog (g.F.Files.contents c.args.files.now) c.args.name.now (Refused a)) (sym long.0) (log_too_long long.1))
    ]

pub returns-in-Ok-clause-ok : goal.returns-in-Ok-clause-ok
returns-in-Ok-clause-ok g c = λ told.
    log_loaded c.in_ok-bytes.bytes.items c.in-Ok.log.items (c.in_ok-bytes.ensures.ok told) c.in-Ok.ensures.text.0 (c.in-Ok.ensures.text.1 ∙ c.deref.ensures.value)

pub returns-in-Err-Line-clause-refused : goal.returns-in-Err-Line-clause-refused
returns-in-Err-Line-clause-refused g c = λ told said is.
    let line : LogLine c.in-Err-Line.line ≡ said = cc is in
    let bad : IsFirstBadLine c.in_ok-bytes.bytes.items c.in-Err-Line.line = subst (λ (l : List ℕ). IsFirstBadLine l c.in-Err-Line.line) c.deref.ensures.value (c.in-Err-Line.ensures.line c.in-Err-Line.line (ap Err c.in-Err-Line.field-0-is)) in
    inr (subst (λ (a : Line). IsLog (g.F.Files.contents c.args.files.now) c.args.name.now (Refused a)) line (log_line c.in_ok-bytes.bytes.items c.in-Err-Line.line (c.in_ok-bytes.ensures.ok told) bad))
