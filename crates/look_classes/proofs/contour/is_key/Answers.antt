-- By what is known of both darts.
use Rattle.std.proofs.Common.{◌≡◌, Some, None, true, false, not, sym, ap, ◌∙◌}
use Rattle.coincidence.specs.Tables.{joined_to}
use Rattle.look_classes.specs.Tree.{in_tree}
use Rattle.look_classes.proofs.Walks.{comes_over_is}
use Rattle.look_classes.proofs.Steps.{key_is, key_in, key_none}
use Rattle.look_classes.proofs.contour.is_key.Goals as goal

pub returns-then-not-holds : goal.returns-then-not-holds
returns-then-not-holds c =
    let r = c.args.tree.now in
    let joined : joined_to r.table c.args.d ≡ Some c.in-Some.over = sym (c.over.ensures.value ∙ ap (λ v. joined_to v.table c.args.d) c.region.ensures.value) ∙ c.in-Some.is in
    let out : in_tree r c.args.d ≡ false = sym c.holds.ensures ∙ c.if-not-holds.true in
    c.comes_to.ensures ∙ (comes_over_is r c.region.ensures.table c.args.met.now c.requires.met c.requires.all c.args.d c.in-Some.over c.requires.dart joined ∙ sym (key_is r c.args.d c.in-Some.over joined out))

pub returns-else-not-holds : goal.returns-else-not-holds
returns-else-not-holds c =
    let within : in_tree c.args.tree.now c.args.d ≡ true = sym c.holds.ensures ∙ c.if-not-holds.false in
    ap not c.if-not-holds.false ∙ sym (key_in c.args.tree.now c.args.d within)

pub returns-in-None : goal.returns-in-None
returns-in-None c =
    let none : joined_to c.args.tree.now.table c.args.d ≡ None = sym (c.over.ensures.value ∙ ap (λ v. joined_to v.table c.args.d) c.region.ensures.value) ∙ c.in-None.is in
    sym (key_none c.args.tree.now c.args.d none)
