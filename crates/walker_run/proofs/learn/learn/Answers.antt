use Rattle.std.proofs.Common.{inl, inr, List, Ok, Err, refl, ap}
use Rattle.tile_model.specs.Tessellations.{TileKind}
use Rattle.call_words.specs.Tasks.{LearnRules}
use Rattle.call_words.specs.Forms.{name_of}
use Rattle.walker_run.specs.Due.{check_no_tess, check_no_rules}
use Rattle.walker_run.specs.Effects.{end_of, lesson_of, fits_row}
use Rattle.walker_run.proofs.Unique.{one_loaded, not_refused_too}
use Rattle.walker_run.proofs.Carrying.{stopped, taught_stopped, tess_fits}
use Rattle.walker_run.proofs.Keeping.{no_making, keeps}
use Rattle.walker_run.proofs.learn.learn.Goals as goal

pub returns-in_err-tess : goal.returns-in_err-tess
returns-in_err-tess g c =
    stopped _ _ _ _ _ (LearnRules c.args.tess.now c.args.cells (name_of c.args.out)) (List TileKind) c.from_residual.result c.in_err-tess.field-0.0 c.from_residual.ensures.1 c.in_err-tess.ensures.effects
    (λ line is told. tess_fits _ _ (LearnRules c.args.tess.now c.args.cells (name_of c.args.out)) c.args.tess.now line check_no_tess (c.in_err-tess.ensures.refused told line (ap Err is)))
    (λ line is told kinds a makes same. elim (c.in_err-tess.ensures.refused told line (ap Err is)) [
      | inl fault ↦ absurd (cc (fault, same))
      | inr refused ↦ not_refused_too c.laws_below.ensures (g.F.Files.contents c.args.files.now) c.args.tess.now makes.loaded refused
    ])

pub returns-in_err-rules : goal.returns-in_err-rules
returns-in_err-rules g c =
    taught_stopped _ _ _ _ _ (LearnRules c.args.tess.now c.args.cells (name_of c.args.out)) c.from_residual-in_err-rules.result c.in_ok-tess.tess c.args.cells c.in_err-rules.field-0.0 c.from_residual-in_err-rules.ensures.1
    c.in_ok-tess.ensures.effects
    (record { tess = c.args.tess.now; teaches = (refl, refl); loaded = c.in_ok-tess.ensures.ok })
    (λ line is. c.in_err-rules.ensures.refused line (ap Err is))
    (λ line is. c.in_err-rules.ensures.meaning line (ap Err is))
    (λ line is told. fits_row line (check_no_rules c.in_ok-tess.tess line (c.in_ok-tess.ensures.ok told) (c.in_err-rules.ensures.refused line (ap Err is))))
    (λ line is told kinds a makes. no_making (lesson_of (Err c.in_err-rules.field-0.0)) c.in_ok-tess.tess kinds c.args.cells line a
    (one_loaded c.laws_below.ensures (g.F.Files.contents c.args.files.now) c.args.tess.now (c.in_ok-tess.ensures.ok told) makes.loaded) (c.in_err-rules.ensures.refused line (ap Err is)) makes.made)

pub returns : goal.returns
returns g c =
    keeps _ _ _ _ _ _ (LearnRules c.args.tess.now c.args.cells (name_of c.args.out)) (lesson_of (Ok c.in_ok-rules.rules)) c.in_ok-tess.tess c.in_ok-rules.rules.automaton
    c.in_ok-tess.ensures.effects (λ told. record { loaded = c.in_ok-tess.ensures.ok told; made = c.in_ok-rules.ensures.ok }) c.laws_below.ensures (end_of c.keep_rules.result) c.keep_rules.ensures
