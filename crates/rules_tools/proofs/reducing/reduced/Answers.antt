use Rattle.std.proofs.Common.{map, ap, ◌∙◌}
use Rattle.tree_model.specs.Automata.{TreeAutomaton}
use Rattle.merge_model.specs.Merging.{class_number}
use Rattle.rules_tools.proofs.Reduced.{is_merged}
use Rattle.rules_tools.proofs.reducing.reduced.Goals as goal

pub returns : goal.returns
returns c = λ kinds count ok classed.
    is_merged kinds c.args.a.now ok c.args.classes.now count classed (record { states = c.in_ok-states.field-0.items; corners = c.in_ok-same_corners.field-0.items; roots = c.in_ok-roots.field-0.items }) c.in_ok-states.ensures
    (c.in_ok-roots.ensures ∙ ap (map (class_number c.args.classes.now)) (c.deref-2.ensures.value ∙ ap (λ (x : TreeAutomaton). x.roots) c.a.view_is))
    (c.in_ok-same_corners.ensures ∙ (c.deref.ensures.value ∙ ap (λ (x : TreeAutomaton). x.corners) c.a.view_is))
