use Rattle.std.proofs.Common.{◌≡◌, ℕ, List, Err, sym, ◌∙◌, ap, subst}
use Rattle.tile_model.specs.Tessellations.{TileKind}
use Rattle.tile_model.specs.Walks.{type_of}
use Rattle.call_words.specs.Tasks.{TellType}
use Rattle.walker_run.specs.declared.line.Line.TheVariants.{TypeTold}
use Rattle.walker_run.specs.Due.{TypeRow, type_no_tess, type_no_kind, type_told}
use Rattle.walker_run.specs.Effects.{fits_row}
use Rattle.walker_run.proofs.Steps.{still}
use Rattle.walker_run.proofs.Carrying.{stopped, says_plainly, kind_fits}
use Rattle.walker_run.proofs.tasks.tell_type.Goals as goal

pub returns-in_err-tess : goal.returns-in_err-tess
returns-in_err-tess g c = λ seen.
    stopped _ _ _ seen seen (TellType c.args.tess.now c.args.kind c.args.walk.now) (List TileKind) c.from_residual.result c.in_err-tess.field-0.0 c.from_residual.ensures.1 c.in_err-tess.ensures.effects
    (λ line is told. kind_fits _ _ (TellType c.args.tess.now c.args.kind c.args.walk.now) c.args.tess.now c.args.kind line type_no_tess type_no_kind (c.in_err-tess.ensures.refused told line (ap Err is)))
    (λ line is told kinds a makes same. makes)

pub returns : goal.returns
returns g c = λ seen.
    let leads : type_of c.in_ok-tess.tess (c.args.kind, 0) c.args.walk.now ≡ c.type_of.result = sym (c.type_of.ensures.value ∙ ap (λ (d : ℕ × ℕ). type_of c.in_ok-tess.tess d c.args.walk.now) c.start-start.ensures.value) in
    says_plainly _ _ _ seen seen (TellType c.args.tess.now c.args.kind c.args.walk.now) (TypeTold c.type_of.result)
    (still _ _ _ (TypeTold c.type_of.result) tt (λ role is. absurd (cc is)) c.in_ok-tess.ensures.effects)
    (λ told. fits_row (TypeTold c.type_of.result) (subst (λ (d : ℕ × ℕ). TypeRow (g.F.Files.contents c.args.files.now) c.args.tess.now c.args.kind c.args.walk.now (TypeTold d)) leads
    (type_told c.in_ok-tess.tess (c.in_ok-tess.ensures.ok told) c.in_ok-tess.ensures.kind)))
    (λ told kinds a makes same. makes)
