-- One state after the other.
use Rattle.std.proofs.Common.{◌≡◌, sym, subst, arith, length}
use Rattle.key_numbers.specs.Numbering.{HasNumbered}
use Rattle.rules_tools.specs.Keys.{listed, class_key}
use Rattle.rules_tools.proofs.Numbered.{listed_none, listed_more, are_classes}
use Rattle.rules_tools.proofs.merging.number_classes.Goals as goal

pub loop-s-init : goal.loop-s-init
loop-s-init c =
    subst (λ xs. HasNumbered xs c.new-numbering.result) (sym (listed_none (class_key c.args.marks.now c.args.class.now))) c.new-numbering.ensures

pub loop-s-preserved : goal.loop-s-preserved
loop-s-preserved c =
    subst (λ xs. HasNumbered xs c.add.new.self) (sym (listed_more (class_key c.args.marks.now c.args.class.now) c.loop-s.s))
    (c.in_ok-add.ensures (listed (class_key c.args.marks.now c.args.class.now) c.loop-s.s) (class_key c.args.marks.now c.args.class.now c.loop-s.s) c.loop-s.invariant c.in_ok-class_key.ensures)

pub returns : goal.returns
returns c = λ kinds ok reached apart stable.
    let e : c.loop-s.s ≡ length c.args.a.now.states = omega (arith, c.loop-s-test.false, c.loop-s.auto.s-end, c.count-s-end.ensures) in
    let f = class_key c.args.marks.now c.args.class.now in
    let are = c.in_ok-numbers.ensures (listed f (length c.args.a.now.states)) (subst (λ n. HasNumbered (listed f n) c.loop-s.numbering) e c.loop-s.invariant) in
    (c.in_ok-numbers.field-0-1, are_classes kinds c.args.a.now ok c.args.marks.now c.args.class.now reached apart stable c.in_ok-numbers.numbers.items c.in_ok-numbers.field-0-1 are)
