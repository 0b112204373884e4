-- One state after the other.
use Rattle.std.proofs.Common.{◌≡◌, ℕ, Some, map, sym, ap, ◌∙◌, subst, arith, length}
use Rattle.merge_model.specs.Merging.{number}
use Rattle.key_numbers.specs.Numbering.{HasNumbered}
use Rattle.rules_tools.specs.Keys.{key_of, listed}
use Rattle.rules_tools.specs.Classes.{AreByKey}
use Rattle.rules_tools.proofs.Numbered.{listed_none, listed_more, by_key}
use Rattle.rules_tools.proofs.rounds.round.Goals as goal

pub loop-s-init : goal.loop-s-init
loop-s-init c =
    subst (λ xs. HasNumbered xs c.new-numbering.result) (sym (listed_none (λ s. Some (key_of c.args.a.now c.args.before.now s)))) c.new-numbering.ensures

pub loop-s-preserved : goal.loop-s-preserved
loop-s-preserved c =
    subst (λ xs. HasNumbered xs c.add.new.self) (sym (listed_more (λ s. Some (key_of c.args.a.now c.args.before.now s)) c.loop-s.s))
    (c.in_ok-add.ensures (listed (λ s. Some (key_of c.args.a.now c.args.before.now s)) c.loop-s.s) (Some (key_of c.args.a.now c.args.before.now c.loop-s.s)) c.loop-s.invariant (ap Some (sym c.in_ok-key.ensures)))

pub returns : goal.returns
returns c =
    let e : c.loop-s.s ≡ length c.args.a.now.states = omega (arith, c.loop-s-test.false, c.loop-s.auto.s-end, c.count-s-end.ensures) in
    let f = λ (s : ℕ). Some (key_of c.args.a.now c.args.before.now s) in
    let are = c.in_ok-numbers.ensures (listed f (length c.args.a.now.states)) (subst (λ n. HasNumbered (listed f n) c.loop-s.numbering) e c.loop-s.invariant) in
    subst (λ xs. AreByKey c.args.a.now c.args.before.now xs c.in_ok-numbers.count) (sym (c.in_ok-plain.ensures ∙ ap (map number) c.deref.ensures.value))
    (by_key c.args.a.now c.args.before.now c.in_ok-numbers.numbers.items c.in_ok-numbers.count are)
