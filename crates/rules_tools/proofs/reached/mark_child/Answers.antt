use Rattle.std.proofs.Common.{arith}
use Rattle.merge_laws.proofs.Numbers.{reachable_state}
use Rattle.rules_tools.proofs.Searching.{rule_child}
use Rattle.rules_tools.proofs.reached.mark_child.Goals as goal

pub child-requires : goal.child-requires
child-requires c = reachable_state c.args.tess.now c.args.a.now c.requires.accepted c.args.s c.requires.reachable

pub mark-requires : goal.mark-requires
mark-requires c =
    let r = rule_child c.args.tess.now c.args.a.now c.requires.accepted c.args.s c.args.i c.in-Some.child c.requires.reachable c.in-Some.ensures.within c.in-Some.ensures.some in
    omega (arith, r.1, c.requires.search.long)

pub returns-clause-search : goal.returns-clause-search
returns-clause-search c =
    let r = rule_child c.args.tess.now c.args.a.now c.requires.accepted c.args.s c.args.i c.in-Some.child c.requires.reachable c.in-Some.ensures.within c.in-Some.ensures.some in
    c.mark.ensures.search c.args.tess.now c.args.a.now c.requires.search r.0
