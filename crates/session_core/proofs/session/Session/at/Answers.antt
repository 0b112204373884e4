use Rattle.std.proofs.Common.{ap, ◌∙◌}
use Rattle.reply_model.specs.declared.Command.TheVariants.{At}
use Rattle.reply_model.specs.declared.Reply.TheVariants.{NoWalker}
use Rattle.session_core.specs.Sessions.{SessionState}
use Rattle.session_core.proofs.Steps.{at_nobody}
use Rattle.session_core.proofs.Standing.{answered}
use Rattle.session_core.proofs.Going.{has_told}
use Rattle.session_core.proofs.session.Session.at.Goals as goal

pub returns-in_default : goal.returns-in_default
returns-in_default c =
    answered c.args.self.now (At c.args.w) NoWalker c.args.self.now c.spot.ensures.session
    c.requires (at_nobody c.args.w c.in_default.ensures.found)

pub returns : goal.returns
returns c =
    let rules = ap (λ (s : SessionState). s.rules) c.self.view_is in
    has_told c.args.self.now c.spot.ensures.session c.args.w c.requires c.in-Some.spot.now
    c.self.inside.rules.now _ _ _ c.in-Some.ensures.found rules
    (c.in_ok-copy.ensures ∙ c.name.ensures) c.spin.ensures c.kind.ensures.value
