use Rattle.std.proofs.Common.{inl, inr, ap, ◌∙◌}
use Rattle.std.specs.Prelude.{Err}
use Rattle.cell_distance.specs.declared.fault.DistFault.{DistFault}
use Rattle.reply_model.specs.declared.Command.TheVariants.{Path}
use Rattle.reply_model.specs.declared.Reply.TheVariants.{NoWalker}
use Rattle.session_core.specs.Sessions.{SessionState}
use Rattle.session_core.proofs.Steps.{path_nobody}
use Rattle.session_core.proofs.Standing.{answered}
use Rattle.session_core.proofs.Comparing.{was_not_far, has_far_path, has_along}
use Rattle.session_core.proofs.session.Session.path.Goals as goal

pub returns-in_default : goal.returns-in_default
returns-in_default c =
    answered c.args.self.now (Path c.args.w c.args.v) NoWalker c.args.self.now
    c.spot.ensures.session (c.requires.first, c.requires.second)
    (path_nobody c.args.w c.args.v (inl c.in_default.ensures.found))

pub returns-in_default-spot : goal.returns-in_default-spot
returns-in_default-spot c =
    answered c.args.self.now (Path c.args.w c.args.v) NoWalker c.args.self.now
    c.spot.ensures.session (c.requires.first, c.requires.second)
    (path_nobody c.args.w c.args.v (inr c.in_default-spot.ensures.found))

pub spot_shortest-requires-clause-near : goal.spot_shortest-requires-clause-near
spot_shortest-requires-clause-near c =
    (c.spot.ensures.session.spots c.args.w c.in-Some.first.now c.in-Some.ensures.found).near

pub returns-in-Ok : goal.returns-in-Ok
returns-in-Ok c =
    let rules = ap (λ (s : SessionState). s.rules) c.self.view_is in
    has_along c.args.self.now c.spot.ensures.session c.args.w c.args.v c.requires.first
    c.requires.second c.in-Some.first.now c.in-Some-spot.second.now c.in-Some.ensures.found
    c.in-Some-spot.ensures.found c.self.inside.rules.now rules c.in-Ok.way
    (λ u stands far. was_not_far c.spot_shortest.result c.in-Ok.way c.in-Ok.is
    (c.spot_shortest.ensures.too_deep u stands far)) c.in-Ok.ensures.named

pub returns-in-Err-Deep : goal.returns-in-Err-Deep
returns-in-Err-Deep c =
    let rules = ap (λ (s : SessionState). s.rules) c.self.view_is in
    has_far_path c.args.self.now c.spot.ensures.session c.args.w c.args.v c.requires.first
    c.requires.second c.in-Some.first.now c.in-Some-spot.second.now c.in-Some.ensures.found
    c.in-Some-spot.ensures.found c.self.inside.rules.now rules
    (c.spot_shortest.ensures.deep
    (c.in-Err-Deep.is ∙ ap (λ (f : DistFault). Err f) c.in-Err-Deep.field-0-is))
