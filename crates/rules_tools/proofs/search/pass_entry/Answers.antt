use Rattle.std.proofs.Common.{◌≡◌, ◌<◌, length, sym, subst, arith}
use Rattle.merge_model.specs.Faces.{face_at}
use Rattle.rules_tools.specs.declared.pairs.Pair.{Pair}
use Rattle.rules_tools.specs.Pairs.{pair_at}
use Rattle.rules_tools.proofs.Growing.{first_state, sides_most, entry_passed}
use Rattle.rules_tools.proofs.Keeping.{keeps_all, keeps_on}
use Rattle.rules_tools.proofs.search.pass_entry.Goals as goal

pub loop-side-init : goal.loop-side-init
loop-side-init c = record { searching = c.requires.searching; kept = keeps_all c.args.x.now }

pub pass_side-requires-clause-first : goal.pass_side-requires-clause-first
pass_side-requires-clause-first c = subst (λ n. n < length c.args.a.now.states) (sym c.loop-side.invariant.kept.first) c.requires.first

pub pass_side-requires-clause-second : goal.pass_side-requires-clause-second
pass_side-requires-clause-second c = subst (λ n. n < length c.args.a.now.states) (sym c.loop-side.invariant.kept.second) c.requires.second

pub pass_side-requires-clause-within : goal.pass_side-requires-clause-within
pass_side-requires-clause-within c = omega (arith, c.requires.within, c.loop-side.invariant.kept.longer)

pub pass_side-requires-clause-face : goal.pass_side-requires-clause-face
pass_side-requires-clause-face c =
    subst (λ (p : Pair). face_at c.args.a.now p.first ≡ face_at c.args.a.now p.second) (sym (c.loop-side.invariant.kept.same c.args.next c.requires.within)) c.requires.face

pub loop-side-preserved : goal.loop-side-preserved
loop-side-preserved c = record {
  searching = c.in_ok-pass_side.ensures.searching;
  kept = keeps_on c.args.x.now c.loop-side.x c.pass_side.new.x c.loop-side.invariant.kept c.in_ok-pass_side.ensures.kept;
}

pub returns-clause-searching : goal.returns-clause-searching
returns-clause-searching c =
    let kept = c.loop-side.invariant.kept in
    let h = c.loop-side.invariant.searching in
    let first = subst (λ n. n < length c.args.a.now.states) (sym kept.first) c.requires.first in
    let second = subst (λ n. n < length c.args.a.now.states) (sym kept.second) c.requires.second in
    let within : c.args.next < length c.loop-side.x.queue.items = omega (arith, c.requires.within, kept.longer) in
    let face = subst (λ (p : Pair). face_at c.args.a.now p.first ≡ face_at c.args.a.now p.second) (sym (kept.same c.args.next c.requires.within)) c.requires.face in
    let state = first_state c.args.tess.now c.args.a.now c.requires.accepted c.loop-side.x.first c.loop-side.x.second first second c.loop-side.x.above.items c.loop-side.x.queue.items c.args.next c.loop-side.side h c.args.next within in
    let few = sides_most c.args.tess.now c.args.a.now c.requires.accepted c.loop-side.x.first c.loop-side.x.second first second c.requires.valid (pair_at c.loop-side.x.queue.items c.args.next).first state in
    entry_passed c.args.tess.now c.args.a.now c.requires.accepted c.loop-side.x.first c.loop-side.x.second first second c.loop-side.x.above.items c.loop-side.x.queue.items c.args.next c.loop-side.side h face
    (omega (arith, few, c.loop-side-test.false))
