use Rattle.std.proofs.Common.{◌+◌, Some, sym, ap, ◌∙◌, subst}
use Rattle.merge_model.specs.Faces.{with_children}
use Rattle.merge_model.specs.Merging.{class_number}
use Rattle.rules_tools.specs.Reducing.{AreFirstStates}
use Rattle.rules_tools.proofs.Reduced.{known_state, new_state}
use Rattle.rules_tools.proofs.reducing.add_state.Goals as goal

pub returns-then-is_other : goal.returns-then-is_other
returns-then-is_other c =
    known_state c.args.a.now c.args.classes.now c.requires.ordered c.args.s c.args.states.now.items c.requires.before
    (λ e. c.is_other.ensures.other c.if-is_other.true (e ∙ ap Some (sym (c.len.ensures ∙ c.args.states.now.ok.0))))

pub returns : goal.returns
returns c =
    let has = c.is_other.ensures.this c.if-is_other.false ∙ ap Some (c.len.ensures ∙ c.args.states.now.ok.0) in
    subst (AreFirstStates c.args.a.now c.args.classes.now (c.args.s + 1)) (sym c.in_ok-push.ensures.items)
    (new_state c.args.a.now c.args.classes.now c.args.s c.args.states.now.items c.in_ok-with_classes.field-0 c.requires.before has
    (c.in_ok-with_classes.ensures ∙ ap (with_children (class_number c.args.classes.now)) c.state.ensures))
