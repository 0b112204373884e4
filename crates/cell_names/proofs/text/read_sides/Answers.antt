use Rattle.std.proofs.Common.{ℕ, List, ◌∷◌, ◌++◌, [], ◌∙◌, ap}
use Rattle.cell_names.proofs.Reading.{no_name, begun, next, read_on, read_whole, read_alone, behind, NoDigit-behind}
use Rattle.cell_names.proofs.text.read_sides.Goals as goal

pub returns-in_default-clause-complete : goal.returns-in_default-clause-complete
returns-in_default-clause-complete c = λ name spelt.
    absurd (no_name c.args.bytes.now name c.requires c.in_default.ensures.complete spelt)

pub loop-separator-init : goal.loop-separator-init
loop-separator-init c =
    begun _ c.in-Some.first _ _ c.in-Some.ensures.below c.in-Some.ensures.split c.in-Some.ensures.complete
    (c.in_ok-push.ensures.ok ∙ ap (λ (l : List ℕ). l ++ c.in-Some.first ∷ []) c.root-name.ensures)

pub returns-then-separator-ne46-clause-complete : goal.returns-then-separator-ne46-clause-complete
returns-then-separator-ne46-clause-complete c = λ name spelt.
    let n = next _ _ _ _ name (c.loop-separator.invariant.goes_on name spelt) c.in-Some-split_first.ensures.cases.0 in
    absurd (c.if-separator-ne46.true n.is_dot)

pub returns-in_default-take_side-clause-complete : goal.returns-in_default-take_side-clause-complete
returns-in_default-take_side-clause-complete c = λ name spelt.
    let n = next _ _ _ _ name (c.loop-separator.invariant.goes_on name spelt) c.in-Some-split_first.ensures.cases.0 in
    absurd (c.in_default-take_side.ensures.complete n.side (behind n.left) n.small n.text (NoDigit-behind n.left))

pub loop-separator-preserved : goal.loop-separator-preserved
loop-separator-preserved c =
    let dotted = c.in-Some-split_first.ensures.cases.0 ∙ ap (λ (b : ℕ). b ∷ c.in-Some-split_first.behind.now) c.if-separator-ne46.false in
    read_on _ _ _ _ c.in-Some-take_side.side _ _ c.loop-separator.invariant dotted c.in-Some-take_side.ensures.below c.in-Some-take_side.ensures.split c.in-Some-take_side.ensures.complete c.in_ok-push-2.ensures.ok

pub returns-clause-spelt : goal.returns-clause-spelt
returns-clause-spelt c = read_whole _ _ _ c.loop-separator.invariant c.in_default-split_first.ensures.cases

pub returns-clause-complete : goal.returns-clause-complete
returns-clause-complete c = λ name spelt.
    read_alone _ _ _ name c.loop-separator.invariant c.in_default-split_first.ensures.cases spelt
