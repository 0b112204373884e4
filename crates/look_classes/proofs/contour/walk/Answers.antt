-- One dart after the other, until one is come to that was met.
use Rattle.std.proofs.Common.{◌≡◌, ◌<◌, get_or, refl, sym, subst, arith}
use Rattle.std.proofs.Math.ListN.{set}
use Rattle.look_classes.specs.Contours.{steps_at, not_met, contour_back}
use Rattle.look_classes.proofs.Walks.{Walking, unmet, walk_begins, walk_on, walk_less, new_steps, walked, walked_stay, walked_start}
use Rattle.look_classes.proofs.contour.walk.Goals as goal

pub loop-met-init : goal.loop-met-init
loop-met-init c = walk_begins c.args.tree.now c.region.ensures.table c.args.start c.args.met.now _ c.requires.dart c.requires.met c.number.ensures.value refl

pub meeting-last-requires-clause-few : goal.meeting-last-requires-clause-few
meeting-last-requires-clause-few c =
    let new : steps_at c.loop-met.met c.loop-met.at ≡ 0 = subst (λ n. (get_or c.loop-met.met n not_met).steps ≡ 0) c.number-in-loop-met.ensures.value c.loop-met-test.true in
    new_steps c.args.tree.now c.region.ensures.table c.args.start c.args.met.now c.loop-met.met c.loop-met.at c.loop-met.last c.loop-met.invariant c.requires.met.long new

pub loop-met-smaller : goal.loop-met-smaller
loop-met-smaller c =
    let met = c.loop-met.met in
    let new : steps_at met c.loop-met.at ≡ 0 = subst (λ n. (get_or c.loop-met.met n not_met).steps ≡ 0) c.number-in-loop-met.ensures.value c.loop-met-test.true in
    subst (λ n. unmet (set c.loop-met.met n c.meeting-last.result) < unmet c.loop-met.met) (sym c.number-in-loop-met-2.ensures.value) (walk_less c.args.tree.now c.region.ensures.table c.args.start c.args.met.now met c.loop-met.at c.loop-met.last c.loop-met.invariant c.requires.met.long new c.meeting-last.result c.meeting-last.ensures)

pub loop-met-preserved : goal.loop-met-preserved
loop-met-preserved c =
    let r = c.args.tree.now in
    let new : steps_at c.loop-met.met c.loop-met.at ≡ 0 = subst (λ n. (get_or c.loop-met.met n not_met).steps ≡ 0) c.number-in-loop-met.ensures.value c.loop-met-test.true in
    let on = walk_on r c.region.ensures.table c.args.start c.args.met.now c.loop-met.met c.loop-met.at c.loop-met.last c.loop-met.invariant c.requires.met.long new c.meeting-last.result c.meeting-last.ensures in
    subst (λ y. Walking r c.args.start c.args.met.now (set c.loop-met.met c.number-in-loop-met-2.result c.meeting-last.result) y c.meeting-last.result) (sym c.before-at.ensures.value) (subst (λ n. Walking r c.args.start c.args.met.now (set c.loop-met.met n c.meeting-last.result) (contour_back r c.loop-met.at) c.meeting-last.result) (sym c.number-in-loop-met-2.ensures.value) on)

pub returns-clause-met : goal.returns-clause-met
returns-clause-met c =
    let done : 0 < steps_at c.loop-met.met c.loop-met.at = subst (λ n. 0 < (get_or c.loop-met.met n not_met).steps) c.number-in-loop-met.ensures.value (omega (arith, c.loop-met-test.false)) in
    walked c.args.tree.now c.region.ensures.table c.args.start c.args.met.now c.loop-met.met c.loop-met.at c.loop-met.last c.requires.met c.loop-met.invariant c.requires.start done

pub returns-clause-stay : goal.returns-clause-stay
returns-clause-stay c =
    let done : 0 < steps_at c.loop-met.met c.loop-met.at = subst (λ n. 0 < (get_or c.loop-met.met n not_met).steps) c.number-in-loop-met.ensures.value (omega (arith, c.loop-met-test.false)) in
    walked_stay c.args.tree.now c.region.ensures.table c.args.start c.args.met.now c.loop-met.met c.loop-met.at c.loop-met.last c.requires.met c.loop-met.invariant c.requires.start done

pub returns-clause-start : goal.returns-clause-start
returns-clause-start c =
    let done : 0 < steps_at c.loop-met.met c.loop-met.at = subst (λ n. 0 < (get_or c.loop-met.met n not_met).steps) c.number-in-loop-met.ensures.value (omega (arith, c.loop-met-test.false)) in
    walked_start c.args.tree.now c.region.ensures.table c.args.start c.args.met.now c.loop-met.met c.loop-met.at c.loop-met.last c.requires.met c.loop-met.invariant c.requires.start done
