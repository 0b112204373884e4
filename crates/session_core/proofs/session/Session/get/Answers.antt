use Rattle.std.proofs.Common.{sym, ap, subst}
use Rattle.std.specs.Prelude.{None, Some}
use Rattle.std.specs.Option.{option_copied}
use Rattle.reply_model.specs.declared.Command.TheVariants.{Get}
use Rattle.reply_model.specs.declared.Reply.TheVariants.{NoWalker, Text}
use Rattle.session_core.specs.Sessions.{SessionState}
use Rattle.session_core.specs.Answered.{HasAnswered}
use Rattle.session_core.proofs.Steps.{get_nobody}
use Rattle.session_core.proofs.Standing.{answered}
use Rattle.session_core.proofs.Going.{has_text, text_seen}
use Rattle.session_core.proofs.session.Session.get.Goals as goal

pub returns-in_default : goal.returns-in_default
returns-in_default c =
    answered c.args.self.now (Get c.args.w) NoWalker c.args.self.now c.spot.ensures.session
    c.requires (get_nobody c.args.w c.in_default.ensures.found)

pub returns-in_ok-copy_of-in-Some-get : goal.returns-in_ok-copy_of-in-Some-get
returns-in_ok-copy_of-in-Some-get c =
    let texts = ap (λ (s : SessionState). s.texts) c.self.view_is in
    let seen =
    text_seen c.args.self.now c.self.inside.texts c.in-Some.spot.now.name c.name.result.now _
    (Some c.in-Some-get.text.now) texts c.name.ensures c.get.ensures
    (ap option_copied c.in-Some-get.is) in
    subst (λ t. HasAnswered c.args.self.now (Get c.args.w) (Text t) c.args.self.now)
    (sym c.in_ok-copy_of-in-Some-get.ensures)
    (has_text c.args.self.now c.spot.ensures.session c.args.w c.requires c.in-Some.spot.now
    c.in-Some.ensures.found (Some c.in-Some-get.text.now) seen)

pub returns-in-None : goal.returns-in-None
returns-in-None c =
    let texts = ap (λ (s : SessionState). s.texts) c.self.view_is in
    let seen =
    text_seen c.args.self.now c.self.inside.texts c.in-Some.spot.now.name c.name.result.now _ None
    texts c.name.ensures c.get.ensures (ap option_copied c.in-None.is) in
    has_text c.args.self.now c.spot.ensures.session c.args.w c.requires c.in-Some.spot.now
    c.in-Some.ensures.found None seen
