use Rattle.std.proofs.Common.{◌≡◌, refl, sym, subst, ◌∙◌}
use Rattle.std.specs.Prelude.{None}
use Rattle.reply_model.specs.declared.Command.TheVariants.{New}
use Rattle.reply_model.specs.declared.Reply.TheVariants.{Taken}
use Rattle.session_core.specs.Sessions.{SessionState, IsSession, walker_at}
use Rattle.session_core.proofs.Steps.{taken}
use Rattle.session_core.proofs.Standing.{answered}
use Rattle.session_core.proofs.Going.{some_there, none_there, seen, has_made, made_session}
use Rattle.session_core.proofs.session.Session.new_walker.Goals as goal

pub returns-then-is_some-clause-answered : goal.returns-then-is_some-clause-answered
returns-then-is_some-clause-answered c =
    let some =
    some_there (λ s. s.now) c.spot.result (walker_at c.args.self.now c.args.w)
    c.spot.ensures.found (sym c.is_some.ensures ∙ c.if-is_some.true) in
    answered c.args.self.now (New c.args.w) Taken c.args.self.now
    (subst IsSession c.self.view_is c.self.invariant.session) c.requires (taken c.args.w some)

pub invariant_of-self : goal.invariant_of-self
invariant_of-self c = record {
  session =
      made_session _ c.self.invariant.session c.args.w c.requires c.in_ok-spot.spot
      c.in_ok-spot.ensures;
  rules = c.self.invariant.rules;
  kind = c.self.invariant.kind;
}

pub returns-clause-answered : goal.returns-clause-answered
returns-clause-answered c =
    let none =
    none_there (λ s. s.now) c.spot.result (walker_at c.args.self.now c.args.w)
    c.spot.ensures.found (sym c.is_some.ensures ∙ c.if-is_some.false) in
    let before =
    subst (λ (s : SessionState). walker_at s c.args.w ≡ None) (sym c.self.view_is) none in
    let made =
    has_made _ c.self.invariant.session c.args.w c.requires c.in_ok-spot.spot before
    c.in_ok-spot.ensures in
    seen _ _ _ _ _ _ c.self.view_is refl made
