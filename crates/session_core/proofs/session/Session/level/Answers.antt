use Rattle.std.proofs.Common.{◌≤◌, length, sym, subst, arith}
use Rattle.tree_model.specs.Limits.{deepest}
use Rattle.reply_model.specs.declared.Command.TheVariants.{Level}
use Rattle.reply_model.specs.declared.Reply.TheVariants.{NoWalker, Level as AtLevel}
use Rattle.session_core.specs.Answered.{HasAnswered}
use Rattle.session_core.proofs.Steps.{level_nobody, level_spot}
use Rattle.session_core.proofs.Standing.{answered}
use Rattle.session_core.proofs.session.Session.level.Goals as goal

pub returns-in-None : goal.returns-in-None
returns-in-None c =
    answered c.args.self.now (Level c.args.w) NoWalker c.args.self.now c.spot.ensures.session
    c.requires (level_nobody c.args.w c.in-None.ensures.found)

pub overflow_cast-result : goal.overflow_cast-result
overflow_cast-result c =
    let near : length c.in-Some.spot.now.name ≤ deepest =
    (c.spot.ensures.session.spots c.args.w c.in-Some.spot.now c.in-Some.ensures.found).near in
    omega (arith, near, c.level.ensures)

pub returns-in-Some : goal.returns-in-Some
returns-in-Some c =
    subst (λ n. HasAnswered c.args.self.now (Level c.args.w) (AtLevel n) c.args.self.now)
    (sym c.level.ensures)
    (answered c.args.self.now (Level c.args.w) (AtLevel (length c.in-Some.spot.now.name))
    c.args.self.now c.spot.ensures.session c.requires
    (level_spot c.args.w c.in-Some.spot.now c.in-Some.ensures.found))
