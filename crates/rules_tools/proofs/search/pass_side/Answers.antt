use Rattle.std.proofs.Common.{◌+◌, ◌++◌, ◌∷◌, [], sym, subst, arith}
use Rattle.std.specs.Prelude.{IfSome, IfNone}
use Rattle.rules_tools.specs.Pairs.{pair_at, path_at, IsGoneThrough}
use Rattle.rules_tools.specs.Searches.{AreChildren, AreNone}
use Rattle.rules_tools.proofs.Growing.{first_state, second_state, child_state, child_side, child_rule, no_child, side_without, side_linked, pair_pushed, links_of_more, new_linked}
use Rattle.rules_tools.proofs.search.pass_side.Goals as goal

pub children-requires-clause-first : goal.children-requires-clause-first
children-requires-clause-first c = first_state c.args.tess.now c.args.a.now c.requires.accepted c.args.x.now.first c.args.x.now.second c.requires.first c.requires.second c.args.x.now.above.items c.args.x.now.queue.items c.args.next c.args.side c.requires.searching c.args.next c.requires.within

pub children-requires-clause-second : goal.children-requires-clause-second
children-requires-clause-second c = second_state c.args.tess.now c.args.a.now c.requires.accepted c.args.x.now.first c.args.x.now.second c.requires.first c.requires.second c.args.x.now.above.items c.args.x.now.queue.items c.args.next c.args.side c.requires.searching c.args.next c.requires.within

pub returns-in_default-clause-searching : goal.returns-in_default-clause-searching
returns-in_default-clause-searching c =
    let none = subst (λ o. IfNone o (AreNone c.args.a.now c.args.x.now c.args.next c.args.side)) c.in_default.is c.children.ensures.none in
    side_without c.args.tess.now c.args.a.now c.requires.accepted c.args.x.now.first c.args.x.now.second c.requires.first c.requires.second c.args.x.now.above.items c.args.x.now.queue.items c.args.next c.args.side c.requires.searching
    (λ child _ rule. no_child c.args.tess.now c.args.a.now c.requires.accepted c.args.x.now.first c.args.x.now.second c.requires.first c.requires.second (pair_at c.args.x.now.queue.items c.args.next).first (pair_at c.args.x.now.queue.items c.args.next).second c.args.side c.requires.face none child rule)

pub join-requires-clause-first : goal.join-requires-clause-first
join-requires-clause-first c =
    let children = subst (λ o. IfSome o (AreChildren c.args.a.now c.args.x.now c.args.next c.args.side)) c.in-Some.is c.children.ensures.some in
    let parent = first_state c.args.tess.now c.args.a.now c.requires.accepted c.args.x.now.first c.args.x.now.second c.requires.first c.requires.second c.args.x.now.above.items c.args.x.now.queue.items c.args.next c.args.side c.requires.searching c.args.next c.requires.within in
    let known = child_state c.args.tess.now c.args.a.now c.requires.accepted c.args.x.now.first c.args.x.now.second c.requires.first c.requires.second (pair_at c.args.x.now.queue.items c.args.next).first c.args.side c.in-Some.pair.first parent children.first in
    omega (arith, known, c.requires.searching.long)

pub join-requires-clause-second : goal.join-requires-clause-second
join-requires-clause-second c =
    let children = subst (λ o. IfSome o (AreChildren c.args.a.now c.args.x.now c.args.next c.args.side)) c.in-Some.is c.children.ensures.some in
    let parent = second_state c.args.tess.now c.args.a.now c.requires.accepted c.args.x.now.first c.args.x.now.second c.requires.first c.requires.second c.args.x.now.above.items c.args.x.now.queue.items c.args.next c.args.side c.requires.searching c.args.next c.requires.within in
    let known = child_state c.args.tess.now c.args.a.now c.requires.accepted c.args.x.now.first c.args.x.now.second c.requires.first c.requires.second (pair_at c.args.x.now.queue.items c.args.next).second c.args.side c.in-Some.pair.second parent children.second in
    omega (arith, known, c.requires.searching.long)

pub returns-then-join-clause-searching : goal.returns-then-join-clause-searching
returns-then-join-clause-searching c =
    let children = subst (λ o. IfSome o (AreChildren c.args.a.now c.args.x.now c.args.next c.args.side)) c.in-Some.is c.children.ensures.some in
    side_linked c.args.tess.now c.args.a.now c.requires.accepted c.args.x.now.first c.args.x.now.second c.requires.first c.requires.second c.args.x.now.above.items c.args.x.now.queue.items c.args.next c.args.side c.requires.searching c.requires.within c.in-Some.pair.first c.in-Some.pair.second
    (child_rule c.args.tess.now c.args.a.now c.requires.accepted c.args.x.now.first c.args.x.now.second c.requires.first c.requires.second (pair_at c.args.x.now.queue.items c.args.next).first c.args.side c.in-Some.pair.first children.first)
    (child_rule c.args.tess.now c.args.a.now c.requires.accepted c.args.x.now.first c.args.x.now.second c.requires.first c.requires.second (pair_at c.args.x.now.queue.items c.args.next).second c.args.side c.in-Some.pair.second children.second)
    c.join.new.above.items c.join.ensures.long c.join.ensures.falling (c.join.ensures.kept c.args.x.now.queue.items c.requires.searching.links c.if-join.true)
    (c.join.ensures.same_count c.if-join.true) (c.join.ensures.one c.args.x.now.queue.items c.requires.searching.links c.if-join.true)

pub returns-clause-searching : goal.returns-clause-searching
returns-clause-searching c =
    let children = subst (λ o. IfSome o (AreChildren c.args.a.now c.args.x.now c.args.next c.args.side)) c.in-Some.is c.children.ensures.some in
    let h = c.requires.searching in
    let parent = first_state c.args.tess.now c.args.a.now c.requires.accepted c.args.x.now.first c.args.x.now.second c.requires.first c.requires.second c.args.x.now.above.items c.args.x.now.queue.items c.args.next c.args.side c.requires.searching c.args.next c.requires.within in
    let now = path_at h.paths c.args.next ++ c.args.side ∷ [] in
    subst (λ us. IsGoneThrough c.args.tess.now c.args.a.now c.args.x.now.first c.args.x.now.second c.join.new.above.items us c.args.next (c.args.side + 1)) (sym c.in_ok-push.ensures.items)
    (pair_pushed c.args.tess.now c.args.a.now c.requires.accepted c.args.x.now.first c.args.x.now.second c.requires.first c.requires.second c.args.x.now.above.items c.args.x.now.queue.items c.args.next c.args.side c.requires.searching c.requires.within c.requires.face c.in-Some.pair children.from children.side c.requires.side
    (child_side c.args.tess.now c.args.a.now c.requires.accepted c.args.x.now.first c.args.x.now.second c.requires.first c.requires.second (pair_at c.args.x.now.queue.items c.args.next).first c.args.side c.in-Some.pair.first parent children.first)
    (child_rule c.args.tess.now c.args.a.now c.requires.accepted c.args.x.now.first c.args.x.now.second c.requires.first c.requires.second (pair_at c.args.x.now.queue.items c.args.next).first c.args.side c.in-Some.pair.first children.first)
    (child_rule c.args.tess.now c.args.a.now c.requires.accepted c.args.x.now.first c.args.x.now.second c.requires.first c.requires.second (pair_at c.args.x.now.queue.items c.args.next).second c.args.side c.in-Some.pair.second children.second)
    c.join.new.above.items c.join.ensures.long c.join.ensures.falling
    (c.join.ensures.joined (c.args.x.now.queue.items ++ c.in-Some.pair ∷ []) (links_of_more c.args.x.now.queue.items c.in-Some.pair h.paths now h.pairs.long c.args.x.now.above.items h.links)
    (new_linked c.args.x.now.queue.items c.in-Some.pair h.paths now h.pairs.long))
    (c.join.ensures.count c.if-join.false))
