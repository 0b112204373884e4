use Rattle.std.proofs.Common.{◌<◌, arith, subst}
use Rattle.std.proofs.lemmas.Bool.Decides.{nat_tests}
use Rattle.rules_tools.specs.Classes.{AreByKey}
use Rattle.rules_tools.proofs.Refining.{by_key_few, settling_on, settled_apart, settled_stable}
use Rattle.rules_tools.proofs.rounds.settle.Goals as goal

pub loop-count-init : goal.loop-count-init
loop-count-init c = record {
  keys = subst (λ b. AreByKey c.args.a.now b c.in_ok-class.class.items c.in_ok-class.more) c.deref.ensures.value c.in_ok-class.ensures;
  used = λ m lt. absurd (omega (arith, lt));
  apart = λ kinds ok apart. apart;
}

pub loop-count-smaller : goal.loop-count-smaller
loop-count-smaller c =
    let few = by_key_few c.args.a.now c.loop-count.before.items c.loop-count.class.items c.loop-count.more c.loop-count.invariant.keys in
    let less : c.loop-count.count < c.loop-count.more = grind (arith, nat_tests, c.loop-count-test.true) in
    omega (arith, few, less)

pub loop-count-preserved : goal.loop-count-preserved
loop-count-preserved c =
    settling_on c.args.a.now c.args.start.items c.loop-count.before.items c.loop-count.class.items c.in_ok-next.next.items c.loop-count.count c.loop-count.more c.in_ok-next.next_count c.loop-count.invariant
    (subst (λ b. AreByKey c.args.a.now b c.in_ok-next.next.items c.in_ok-next.next_count) c.deref-in-loop-count.ensures.value c.in_ok-next.ensures)

pub returns-clause-apart : goal.returns-clause-apart
returns-clause-apart c = λ kinds ok apart. settled_apart c.args.a.now c.args.start.items c.loop-count.before.items c.loop-count.class.items c.loop-count.count c.loop-count.more c.loop-count.invariant kinds ok apart

pub returns-clause-stable : goal.returns-clause-stable
returns-clause-stable c = λ kinds ok. settled_stable c.args.a.now c.args.start.items c.loop-count.before.items c.loop-count.class.items c.loop-count.count c.loop-count.more c.loop-count.invariant (grind (arith, nat_tests, c.loop-count-test.false)) kinds ok
