-- How many items there are, and what the first two spell.
use Rattle.std.proofs.Common.{◌≡◌, ap, sym, subst, arith}
use Rattle.rules_file.specs.Taking.{value_at, items_at}
use Rattle.rules_file.proofs.Pairs.{items_over, items_more, items_broken, rest_broken, items_left, left_broken, pair_of_none, pair_of_one, pair_of_more, two_items, pair_spelt, no_corner, no_place}
use Rattle.rules_file.proofs.entry.take_pair.Goals as goal

pub returns-then-take_end_array-clause-passed : goal.returns-then-take_end_array-clause-passed
returns-then-take_end_array-clause-passed c = (items_over c.args.depth _ _ c.if-take_end_array.ensures).0

pub returns-then-take_end_array-clause-none : goal.returns-then-take_end_array-clause-none
returns-then-take_end_array-clause-none c = λ x. pair_of_none _ x (items_over c.args.depth _ _ c.if-take_end_array.ensures).1

pub returns-in_err-corner-clause-err : goal.returns-in_err-corner-clause-err
returns-in_err-corner-clause-err c refused = items_broken c.args.depth _ _ c.if-take_end_array.ensures (c.in_err-corner.ensures.err (grind arith))

pub returns-then-take_end_array-2-clause-passed : goal.returns-then-take_end_array-2-clause-passed
returns-then-take_end_array-2-clause-passed c =
    let rest = items_over c.args.depth _ _ c.if-take_end_array-2.ensures in
    (items_more c.args.depth _ _ _ _ c.if-take_end_array.ensures c.in_ok-corner.ensures.passed rest.0).0

pub returns-then-take_end_array-2-clause-none : goal.returns-then-take_end_array-2-clause-none
returns-then-take_end_array-2-clause-none c =
    let rest = items_over c.args.depth _ _ c.if-take_end_array-2.ensures in
    let all = items_more c.args.depth _ _ _ _ c.if-take_end_array.ensures c.in_ok-corner.ensures.passed rest.0 in
    λ x. pair_of_one _ _ _ x all.1 rest.1

pub returns-in_err-place-clause-err : goal.returns-in_err-place-clause-err
returns-in_err-place-clause-err c refused =
    rest_broken c.args.depth _ _ _ c.if-take_end_array.ensures c.in_ok-corner.ensures.passed
    (items_broken c.args.depth _ _ c.if-take_end_array-2.ensures (c.in_err-place.ensures.err (grind arith)))

pub returns-in_err-pass_items-clause-err : goal.returns-in_err-pass_items-clause-err
returns-in_err-pass_items-clause-err c refused =
    let none = c.in_err-pass_items.ensures.err (grind arith) in
    rest_broken c.args.depth _ _ _ c.if-take_end_array.ensures c.in_ok-corner.ensures.passed
    (rest_broken c.args.depth _ _ _ c.if-take_end_array-2.ensures c.in_ok-place.ensures.passed
    (left_broken c.args.depth _ _ c.if-not-take_end_array.ensures none))

pub returns-then-not-take_end_array-clause-passed : goal.returns-then-not-take_end_array-clause-passed
returns-then-not-take_end_array-clause-passed c =
    let left = items_left c.args.depth _ _ _ c.if-not-take_end_array.ensures c.in_ok-pass_items.ensures.passed in
    let rest = items_more c.args.depth _ _ _ _ c.if-take_end_array-2.ensures c.in_ok-place.ensures.passed left.0 in
    (items_more c.args.depth _ _ _ _ c.if-take_end_array.ensures c.in_ok-corner.ensures.passed rest.0).0

pub returns-then-not-take_end_array-clause-none : goal.returns-then-not-take_end_array-clause-none
returns-then-not-take_end_array-clause-none c =
    let left = items_left c.args.depth _ _ _ c.if-not-take_end_array.ensures c.in_ok-pass_items.ensures.passed in
    let rest = items_more c.args.depth _ _ _ _ c.if-take_end_array-2.ensures c.in_ok-place.ensures.passed left.0 in
    let all = items_more c.args.depth _ _ _ _ c.if-take_end_array.ensures c.in_ok-corner.ensures.passed rest.0 in
    λ x. pair_of_more _ _ _ _ _ x all.1 rest.1 left.1

pub returns-in-Some-Some-clause-passed : goal.returns-in-Some-Some-clause-passed
returns-in-Some-Some-clause-passed c =
    let over = items_over c.args.depth _ _ c.if-not-take_end_array.ensures in
    let rest = items_more c.args.depth _ _ _ _ c.if-take_end_array-2.ensures c.in_ok-place.ensures.passed over.0 in
    (items_more c.args.depth _ _ _ _ c.if-take_end_array.ensures c.in_ok-corner.ensures.passed rest.0).0

pub returns-in-Some-Some-clause-some : goal.returns-in-Some-Some-clause-some
returns-in-Some-Some-clause-some c =
    let over = items_over c.args.depth _ _ c.if-not-take_end_array.ensures in
    let rest = items_more c.args.depth _ _ _ _ c.if-take_end_array-2.ensures c.in_ok-place.ensures.passed over.0 in
    let all = items_more c.args.depth _ _ _ _ c.if-take_end_array.ensures c.in_ok-corner.ensures.passed rest.0 in
    pair_spelt _ _ _ c.in-Some-Some.corner c.in-Some-Some.place (two_items _ _ _ _ _ all.1 rest.1 over.1)
    (rw c.in-Some-Some.is-0 at c.in_ok-corner.ensures.some) (rw c.in-Some-Some.is-1 at c.in_ok-place.ensures.some)

pub returns-in_default-clause-passed : goal.returns-in_default-clause-passed
returns-in_default-clause-passed c =
    let over = items_over c.args.depth _ _ c.if-not-take_end_array.ensures in
    let rest = items_more c.args.depth _ _ _ _ c.if-take_end_array-2.ensures c.in_ok-place.ensures.passed over.0 in
    (items_more c.args.depth _ _ _ _ c.if-take_end_array.ensures c.in_ok-corner.ensures.passed rest.0).0

pub returns-in_default-clause-none : goal.returns-in_default-clause-none
returns-in_default-clause-none c =
    let over = items_over c.args.depth _ _ c.if-not-take_end_array.ensures in
    let rest = items_more c.args.depth _ _ _ _ c.if-take_end_array-2.ensures c.in_ok-place.ensures.passed over.0 in
    let all = items_more c.args.depth _ _ _ _ c.if-take_end_array.ensures c.in_ok-corner.ensures.passed rest.0 in
    λ x. no_place _ _ _ x (two_items _ _ _ _ _ all.1 rest.1 over.1) (rw c.in_default.is-1 at c.in_ok-place.ensures.none)

pub returns-in_default-2-clause-passed : goal.returns-in_default-2-clause-passed
returns-in_default-2-clause-passed c =
    let over = items_over c.args.depth _ _ c.if-not-take_end_array.ensures in
    let rest = items_more c.args.depth _ _ _ _ c.if-take_end_array-2.ensures c.in_ok-place.ensures.passed over.0 in
    (items_more c.args.depth _ _ _ _ c.if-take_end_array.ensures c.in_ok-corner.ensures.passed rest.0).0

pub returns-in_default-2-clause-none : goal.returns-in_default-2-clause-none
returns-in_default-2-clause-none c =
    let over = items_over c.args.depth _ _ c.if-not-take_end_array.ensures in
    let rest = items_more c.args.depth _ _ _ _ c.if-take_end_array-2.ensures c.in_ok-place.ensures.passed over.0 in
    let all = items_more c.args.depth _ _ _ _ c.if-take_end_array.ensures c.in_ok-corner.ensures.passed rest.0 in
    λ x. no_corner _ _ _ x (two_items _ _ _ _ _ all.1 rest.1 over.1) (rw c.in_default.is-0 at c.in_ok-corner.ensures.none)
