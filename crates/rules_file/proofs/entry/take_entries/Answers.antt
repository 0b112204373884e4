-- Each entry goes behind those before it.
use Rattle.std.proofs.Common.{◌≡◌, None, length, ap, ◌∙◌, subst, sym, arith}
use Rattle.std.specs.Vec.{vec_len}
use Rattle.rules_file.specs.Taking.{value_at, items_at}
use Rattle.rules_file.specs.Spelling.{IsFirstMisfit}
use Rattle.rules_file.proofs.Taking.{has_shorter}
use Rattle.rules_file.proofs.Pairs.{IsGoing, value_here, items_broken, rest_broken}
use Rattle.rules_file.proofs.Entries.{HasTaken-none, HasTaken-more, HasTaken-all, HasTaken-misfit, HasTaken-broken}
use Rattle.rules_file.proofs.entry.take_entries.Goals as goal

pub entries-init : goal.entries-init
entries-init g c = HasTaken-none _ _ _ _ c.new-found.ensures.items

pub returns-in_err-value-clause-err : goal.returns-in_err-value-clause-err
returns-in_err-value-clause-err g c refused =
    let going : IsGoing c.entries.reader c.take_end_array.new.self = c.entries-test.ensures in
    HasTaken-broken _ _ _ _ _ (items_broken c.args.depth _ _ going (c.in_err-value.ensures.err (grind arith))) c.entries.invariant

pub entries-smaller : goal.entries-smaller
entries-smaller g c =
    let going : IsGoing c.entries.reader c.take_end_array.new.self = c.entries-test.ensures in
    omega (arith, ap length going.1, has_shorter c.args.depth _ _ c.in_ok-value.ensures.passed)

pub entries-preserved : goal.entries-preserved
entries-preserved g c =
    let going : IsGoing c.entries.reader c.take_end_array.new.self = c.entries-test.ensures in
    let here = value_here c.args.depth _ _ _ going c.in_ok-value.ensures.passed in
    HasTaken-more (g.T.Entry.spells c.args.ranked) c.args.depth _ _ _ c.entries.found.items _ c.in-Some.value going.0 here
    (subst (λ s. g.T.Entry.spells c.args.ranked (value_at c.args.depth s) c.in-Some.value) going.1 (rw c.in-Some.is at c.in_ok-value.ensures.some))
    c.in_ok-push-in-Some.ensures.items c.entries.invariant

pub returns-in_err-pass_items-in-None-clause-err : goal.returns-in_err-pass_items-in-None-clause-err
returns-in_err-pass_items-in-None-clause-err g c refused =
    let going : IsGoing c.entries.reader c.take_end_array.new.self = c.entries-test.ensures in
    HasTaken-broken _ _ _ _ _ (rest_broken c.args.depth _ _ _ going c.in_ok-value.ensures.passed (c.in_err-pass_items-in-None.ensures.err (grind arith))) c.entries.invariant

pub returns-in-None-clause-passed : goal.returns-in-None-clause-passed
returns-in-None-clause-passed g c =
    let going : IsGoing c.entries.reader c.take_end_array.new.self = c.entries-test.ensures in
    let here = value_here c.args.depth _ _ _ going c.in_ok-value.ensures.passed in
    (HasTaken-misfit (g.T.Entry.spells c.args.ranked) c.args.depth _ _ _ _ c.entries.found.items going.0 here
    (λ x. subst (λ s. ¬ g.T.Entry.spells c.args.ranked (value_at c.args.depth s) x) going.1 ((rw c.in-None.is at c.in_ok-value.ensures.none) x))
    c.in_ok-pass_items-in-None.ensures.passed c.entries.invariant).0

pub returns-in-None-clause-misfit : goal.returns-in-None-clause-misfit
returns-in-None-clause-misfit g c =
    let going : IsGoing c.entries.reader c.take_end_array.new.self = c.entries-test.ensures in
    let here = value_here c.args.depth _ _ _ going c.in_ok-value.ensures.passed in
    let all = HasTaken-misfit (g.T.Entry.spells c.args.ranked) c.args.depth _ _ _ _ c.entries.found.items going.0 here
    (λ x. subst (λ s. ¬ g.T.Entry.spells c.args.ranked (value_at c.args.depth s) x) going.1 ((rw c.in-None.is at c.in_ok-value.ensures.none) x))
    c.in_ok-pass_items-in-None.ensures.passed c.entries.invariant in
    subst (IsFirstMisfit (g.T.Entry.spells c.args.ranked) (items_at c.args.depth c.args.reader.now)) (grind arith) all.1

pub returns-clause-passed : goal.returns-clause-passed
returns-clause-passed g c = (HasTaken-all _ _ _ _ _ _ c.entries-test.ensures c.entries.invariant).0

pub returns-clause-found : goal.returns-clause-found
returns-clause-found g c = (HasTaken-all _ _ _ _ _ _ c.entries-test.ensures c.entries.invariant).1
