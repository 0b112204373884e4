use Rattle.std.proofs.Common.{◌<◌, List, Ok, Err, length, refl, sym, ap, subst}
use Rattle.tile_model.specs.Tessellations.{TileKind}
use Rattle.call_words.specs.Tasks.{RunSession, FromTeacher}
use Rattle.walker_run.specs.Due.{session_no_tess, session_no_kind, session_no_rules}
use Rattle.walker_run.specs.Effects.{lesson_of, fits_row, ServesFor}
use Rattle.walker_run.proofs.Carrying.{stopped, taught_stopped, opens, kind_fits}
use Rattle.walker_run.proofs.tasks.open_taught.Goals as goal

pub returns-in_err-tess : goal.returns-in_err-tess
returns-in_err-tess g c =
    stopped _ _ _ _ _ (RunSession c.args.tess.now c.args.kind (FromTeacher c.args.cells)) (List TileKind) c.from_residual.result c.in_err-tess.field-0.0 c.from_residual.ensures.1 c.in_err-tess.ensures.effects
    (λ line is told. kind_fits _ _ (RunSession c.args.tess.now c.args.kind (FromTeacher c.args.cells)) c.args.tess.now c.args.kind line session_no_tess session_no_kind (c.in_err-tess.ensures.refused told line (ap Err is)))
    (λ line is told kinds a makes same. makes)

pub returns-in_err-rules : goal.returns-in_err-rules
returns-in_err-rules g c =
    taught_stopped _ _ _ _ _ (RunSession c.args.tess.now c.args.kind (FromTeacher c.args.cells)) c.from_residual-in_err-rules.result c.in_ok-tess.tess c.args.cells c.in_err-rules.field-0.0 c.from_residual-in_err-rules.ensures.1
    c.in_ok-tess.ensures.effects
    (record { tess = c.args.tess.now; teaches = (refl, refl); loaded = c.in_ok-tess.ensures.ok })
    (λ line is. c.in_err-rules.ensures.refused line (ap Err is))
    (λ line is. c.in_err-rules.ensures.meaning line (ap Err is))
    (λ line is told. fits_row line (session_no_rules c.in_ok-tess.tess line (c.in_ok-tess.ensures.ok told) c.in_ok-tess.ensures.kind (c.in_err-rules.ensures.refused line (ap Err is))))
    (λ line is told kinds a makes. makes)

pub returns : goal.returns
returns g c =
    opens _ _ _ _ _ (RunSession c.args.tess.now c.args.kind (FromTeacher c.args.cells)) (lesson_of (Ok c.in_ok-rules.rules)) c.in_ok-rules.rules.kinds c.in_ok-rules.rules.automaton c.args.kind
    c.in_ok-tess.ensures.effects
    (λ told. subst (λ (ks : List TileKind). ServesFor (g.F.Files.contents c.args.files.now) (lesson_of (Ok c.in_ok-rules.rules)) (RunSession c.args.tess.now c.args.kind (FromTeacher c.args.cells)) ks c.in_ok-rules.rules.automaton c.args.kind) (sym c.in_ok-rules.ensures.kinds)
    (c.in_ok-tess.ensures.ok told, c.in_ok-rules.ensures.ok, c.in_ok-tess.ensures.kind, refl))
    tt
    (subst (λ (ks : List TileKind). c.args.kind < length ks) (sym c.in_ok-rules.ensures.kinds) c.in_ok-tess.ensures.kind)
    c.in_ok-rules.ensures.accepted
