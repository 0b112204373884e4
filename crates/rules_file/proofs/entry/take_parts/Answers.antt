-- Member by member.
use Rattle.std.proofs.Common.{◌≡◌, Some, length, refl, sym, ap, ◌∙◌, subst, arith}
use Rattle.json.specs.Json.{read_key}
use Rattle.json.proofs.Grammar.{read_key-shorter}
use Rattle.serde_json.specs.Data.{object, no_members, put}
use Rattle.rules_file.specs.Taking.{value_at}
use Rattle.rules_file.proofs.Taking.{has_shorter, members_are_at, members_done, members_next, members_stop, members_unnamed}
use Rattle.rules_file.proofs.entry.take_parts.Goals as goal

pub members-init : goal.members-init
members-init g c = (no_members, refl, c.none-parts.ensures c.args.ranked)

pub returns-in-Err-clause-err : goal.returns-in-Err-clause-err
returns-in-Err-clause-err g c refused =
    let l = c.members in
    l.invariant.1 ∙ members_unnamed c.args.depth l.invariant.0 l.reader c.in-Err.ensures.value

pub returns-in-Ok-None-clause-passed : goal.returns-in-Ok-None-clause-passed
returns-in-Ok-None-clause-passed g c =
    let l = c.members in
    let r = c.next_key.new.self in
    (members_are_at c.args.depth c.args.reader.now r l.invariant.0 (l.invariant.1 ∙ members_done c.args.depth l.invariant.0 l.reader r (grind arith))).0

pub returns-in-Ok-None-clause-fits : goal.returns-in-Ok-None-clause-fits
returns-in-Ok-None-clause-fits g c =
    let l = c.members in
    let r = c.next_key.new.self in
    let all = members_are_at c.args.depth c.args.reader.now r l.invariant.0 (l.invariant.1 ∙ members_done c.args.depth l.invariant.0 l.reader r (grind arith)) in
    subst (λ ms. g.P.Parts.fits c.args.ranked (object ms) l.parts) (sym all.1) l.invariant.2

pub members-smaller : goal.members-smaller
members-smaller g c =
    let l = c.members in
    let k = c.in-Ok-Some.name.now in
    let s = c.next_key.new.self in
    let named : read_key l.reader ≡ Some (Some k, s) = grind arith in
    omega (arith, read_key-shorter l.reader (Some k) s named, has_shorter c.args.depth _ _ c.in_ok-take_member-in-Ok-Some.ensures.passed)

pub members-preserved : goal.members-preserved
members-preserved g c =
    let l = c.members in
    let k = c.in-Ok-Some.name.now in
    let s = c.next_key.new.self in
    let named : read_key l.reader ≡ Some (Some k, s) = grind arith in
    let d = value_at c.args.depth s in
    let kept = c.in_ok-take_member-in-Ok-Some.ensures in (
      put k d l.invariant.0,
      l.invariant.1 ∙ members_next c.args.depth l.invariant.0 l.reader s c.take_member.new.reader k d named kept.passed,
      kept.kept l.invariant.0 l.invariant.2,
    )

pub returns-in_err-take_member-in-Ok-Some-clause-err : goal.returns-in_err-take_member-in-Ok-Some-clause-err
returns-in_err-take_member-in-Ok-Some-clause-err g c refused =
    let l = c.members in
    let k = c.in-Ok-Some.name.now in
    let s = c.next_key.new.self in
    let named : read_key l.reader ≡ Some (Some k, s) = grind arith in
    l.invariant.1 ∙ members_stop c.args.depth l.invariant.0 l.reader s k named (c.in_err-take_member-in-Ok-Some.ensures.err (grind arith))
