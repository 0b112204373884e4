use Rattle.std.proofs.Common.{◌≡◌, refl, sym, ap, ◌∙◌, subst}
use Rattle.std.specs.Prelude.{Some}
use Rattle.step_engine.specs.Crossings.{WalksDeep}
use Rattle.tree_model.specs.Limits.{deepest}
use Rattle.reply_model.specs.declared.Reply.TheVariants.{Done, Deep}
use Rattle.session_core.specs.Sessions.{IsSession}
use Rattle.session_core.proofs.Going.{held, put_back, seen, nobody_goes, has_stopped, has_moved, moved_session, was_deep, was_not_deep, stayed, told, untold}
use Rattle.session_core.proofs.session.Session.go.Goals as goal
use Rattle.session_core.proofs.session.Session.go.Goals.{in-Ok, in-Err-Deep, in-Err-Memory}

pub returns-in_default-clause-answered : goal.returns-in_default-clause-answered
returns-in_default-clause-answered c =
    let none =
    held _ c.args.w _ c.self.invariant.session c.requires c.index_mut.ensures.value ∙ c.in_default.is in
    seen _ _ _ _ _ _ c.self.view_is (sym (put_back _ c.args.w _ _ c.index_mut.ensures.value refl))
    (nobody_goes _ c.self.invariant.session c.args.w c.requires c.args.path.now none)

pub invariant_of-self-2 : goal.invariant_of-self-2
invariant_of-self-2 c =
    let some =
    held _ c.args.w _ c.self.invariant.session c.requires c.index_mut.ensures.value ∙ c.in-Some.is in
    let session : IsSession _ = elim c.match-walk.branch [
      | in-Ok w ↦
          (let near : WalksDeep c.self.inside.rules.now c.in-Some.spot c.args.path.now deepest → ⊥
          = λ d. was_not_deep c.walk.result w.in-Ok.field-0 w.in-Ok.is
          (c.walk.ensures.too_deep d) in
          moved_session _ c.self.invariant.session c.args.w c.requires c.args.path.now c.in-Some.spot
          c.walk.new.s some w.in-Ok.ensures.spot w.in-Ok.ensures.tree w.in-Ok.ensures.leads near)
      | in-Err-Deep w ↦
          (let same : c.walk.new.s ≡ c.in-Some.spot = stayed c.walk.result w.in-Err-Deep.field-0
          w.in-Err-Deep.is c.walk.ensures.unchanged in
          subst IsSession
          (sym
          (put_back _ c.args.w _ _ c.index_mut.ensures.value
          (c.in-Some.is ∙ ap Some (sym same)))) c.self.invariant.session)
      | in-Err-Memory w ↦
          (let same : c.walk.new.s ≡ c.in-Some.spot = stayed c.walk.result w.in-Err-Memory.field-0
          w.in-Err-Memory.is c.walk.ensures.unchanged in
          subst IsSession
          (sym
          (put_back _ c.args.w _ _ c.index_mut.ensures.value
          (c.in-Some.is ∙ ap Some (sym same)))) c.self.invariant.session)
    ] in
    record { session = session; rules = c.self.invariant.rules; kind = c.self.invariant.kind }

pub returns-clause-answered : goal.returns-clause-answered
returns-clause-answered c =
    let some =
    held _ c.args.w _ c.self.invariant.session c.requires c.index_mut.ensures.value ∙ c.in-Some.is in
    elim c.match-walk.branch [
      | in-Ok w ↦
          (let near : WalksDeep c.self.inside.rules.now c.in-Some.spot c.args.path.now deepest → ⊥
          = λ d. was_not_deep c.walk.result w.in-Ok.field-0 w.in-Ok.is
          (c.walk.ensures.too_deep d) in
          let moved =
          has_moved _ c.self.invariant.session c.args.w c.requires c.args.path.now c.in-Some.spot
          c.walk.new.s some w.in-Ok.ensures.spot w.in-Ok.ensures.tree w.in-Ok.ensures.leads
          near in
          told _ _ _ Done _ w.result-is (seen _ _ _ _ _ _ c.self.view_is refl moved))
      | in-Err-Deep w ↦
          (let same : c.walk.new.s ≡ c.in-Some.spot = stayed c.walk.result w.in-Err-Deep.field-0
          w.in-Err-Deep.is c.walk.ensures.unchanged in
          let deep =
          c.walk.ensures.deep
          (was_deep c.walk.result w.in-Err-Deep.field-0 w.in-Err-Deep.is
          w.in-Err-Deep.field-0-is) in
          let stopped =
          has_stopped _ c.self.invariant.session c.args.w c.requires c.args.path.now c.in-Some.spot
          some deep in
          told _ _ _ Deep _ w.result-is
          (seen _ _ _ _ _ _ c.self.view_is
          (sym
          (put_back _ c.args.w _ _ c.index_mut.ensures.value
          (c.in-Some.is ∙ ap Some (sym same)))) stopped))
      | in-Err-Memory w ↦ untold _ _ _ _ _ w.result-is
    ]
