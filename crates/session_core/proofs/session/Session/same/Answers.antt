use Rattle.std.proofs.Common.{inl, inr}
use Rattle.std.proofs.lemmas.Bool.{both_ways}
use Rattle.reply_model.specs.declared.Command.TheVariants.{Same}
use Rattle.reply_model.specs.declared.Reply.TheVariants.{NoWalker, Yes, No}
use Rattle.session_core.proofs.Steps.{same_nobody, one_tile, two_tiles}
use Rattle.session_core.proofs.Standing.{answered}
use Rattle.session_core.proofs.session.Session.same.Goals as goal

pub returns-in_default : goal.returns-in_default
returns-in_default c =
    answered c.args.self.now (Same c.args.w c.args.v) NoWalker c.args.self.now
    c.spot.ensures.session (c.requires.first, c.requires.second)
    (same_nobody c.args.w c.args.v (inl c.in_default.ensures.found))

pub returns-in_default-spot : goal.returns-in_default-spot
returns-in_default-spot c =
    answered c.args.self.now (Same c.args.w c.args.v) NoWalker c.args.self.now
    c.spot.ensures.session (c.requires.first, c.requires.second)
    (same_nobody c.args.w c.args.v (inr c.in_default-spot.ensures.found))

pub returns-then-are_together : goal.returns-then-are_together
returns-then-are_together c =
    answered c.args.self.now (Same c.args.w c.args.v) Yes c.args.self.now c.spot.ensures.session
    (c.requires.first, c.requires.second)
    (one_tile c.args.w c.args.v _ _ c.in-Some.ensures.found c.in-Some-spot.ensures.found
    (c.are_together.ensures.0 c.if-are_together.true))

pub returns-else-are_together : goal.returns-else-are_together
returns-else-are_together c =
    answered c.args.self.now (Same c.args.w c.args.v) No c.args.self.now c.spot.ensures.session
    (c.requires.first, c.requires.second)
    (two_tiles c.args.w c.args.v _ _ c.in-Some.ensures.found c.in-Some-spot.ensures.found
    (λ n. both_ways _ c.if-are_together.false (c.are_together.ensures.1 n)))
