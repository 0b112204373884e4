use Rattle.std.proofs.Common.{◌≡◌, inl, inr, ℕ, List, Err, sym, ap, subst}
use Rattle.tess_text.specs.Grammar.{IsFirstBadLine}
use Rattle.tess_text.specs.Spelling.{IsSpelling, IsRefused, IsFaultOf}
use Rattle.tess_text.specs.declared.fault.TessFault.{TessFault}
use Rattle.tess_text.specs.declared.fault.TessFault.TheVariants.{Line, Kinds}
use Rattle.walker_run.specs.declared.line.Line.{Line as SaidLine}
use Rattle.walker_run.specs.declared.line.Line.TheVariants.{TessLine, TessKinds}
use Rattle.walker_run.specs.Held.{Refused, IsTess, tess_too_long, tess_line, tess_kinds, tess_loaded}
use Rattle.walker_run.specs.declared.stop.Stop.TheVariants.{Say}
use Rattle.walker_run.proofs.Steps.{handed_on}
use Rattle.walker_run.proofs.load.load_tess.Goals as goal

pub returns-in_err-bytes-clause-refused : goal.returns-in_err-bytes-clause-refused
returns-in_err-bytes-clause-refused g c = λ told said is.
    let handed = handed_on c.in_err-bytes.field-0.0 c.from_residual.result c.from_residual.ensures.1 in
    let stop : c.in_err-bytes.field-0.0 ≡ Say said = cc (handed, is) in
    elim (c.in_err-bytes.ensures.refused told said (ap Err stop)) [
      | inl fault ↦ inl fault
      | inr long ↦ inr (subst (λ (a : SaidLine). IsTess (g.F.Files.contents c.args.files.now) c.args.name.now (Refused a)) (sym long.0) (tess_too_long long.1))
    ]

pub returns-in-Ok-clause-ok : goal.returns-in-Ok-clause-ok
returns-in-Ok-clause-ok g c = λ told.
    let spelling : IsSpelling c.in_ok-bytes.bytes.items c.in-Ok.tess = subst (λ (l : List ℕ). IsSpelling l c.in-Ok.tess) c.deref.ensures.value c.in-Ok.ensures.spelling in
    tess_loaded c.in_ok-bytes.bytes.items c.in-Ok.tess (c.in_ok-bytes.ensures.ok told) spelling c.in-Ok.ensures.valid

pub returns-in-Err-Line-clause-refused : goal.returns-in-Err-Line-clause-refused
returns-in-Err-Line-clause-refused g c = λ told said is.
    let line : TessLine c.in-Err-Line.line ≡ said = cc is in
    let cause : IsFaultOf c.deref.result.now (Line c.in-Err-Line.line) = subst (λ (f : TessFault). IsFaultOf c.deref.result.now f) c.in-Err-Line.field-0-is c.in-Err-Line.ensures.cause in
    let bad : IsFirstBadLine c.in_ok-bytes.bytes.items c.in-Err-Line.line = subst (λ (l : List ℕ). IsFirstBadLine l c.in-Err-Line.line) c.deref.ensures.value cause in
    inr (subst (λ (a : SaidLine). IsTess (g.F.Files.contents c.args.files.now) c.args.name.now (Refused a)) line (tess_line c.in_ok-bytes.bytes.items c.in-Err-Line.line (c.in_ok-bytes.ensures.ok told) bad))

pub returns-in-Err-Kinds-clause-refused : goal.returns-in-Err-Kinds-clause-refused
returns-in-Err-Kinds-clause-refused g c = λ told said is.
    let fault : TessKinds c.in-Err-Kinds.fault ≡ said = cc is in
    let cause : IsFaultOf c.deref.result.now (Kinds c.in-Err-Kinds.fault) = subst (λ (f : TessFault). IsFaultOf c.deref.result.now f) c.in-Err-Kinds.field-0-is c.in-Err-Kinds.ensures.cause in
    let bad : IsRefused c.in_ok-bytes.bytes.items c.in-Err-Kinds.fault = subst (λ (l : List ℕ). IsRefused l c.in-Err-Kinds.fault) c.deref.ensures.value cause in
    inr (subst (λ (a : SaidLine). IsTess (g.F.Files.contents c.args.files.now) c.args.name.now (Refused a)) fault (tess_kinds c.in_ok-bytes.bytes.items c.in-Err-Kinds.fault (c.in_ok-bytes.ensures.ok told) bad))
