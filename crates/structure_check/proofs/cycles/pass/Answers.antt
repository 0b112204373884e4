use Rattle.std.proofs.Common.{◌≡◌, ◌≢◌, ◌<◌, ◌+◌, suc, sym, ap, subst, arith, length, slice_set}
use Rattle.std.proofs.lemmas.Bool.Decides.{nat_tests}
use Rattle.tree_model.specs.Automata.{outer}
use Rattle.structure_check.specs.Cycles.{stamp_at}
use Rattle.structure_check.proofs.Passing.{IsPassing, passing_few, passing_done, passing_on, fewer}
use Rattle.structure_check.proofs.cycles.pass.Goals as goal

pub overflow_add-links : goal.overflow_add-links
overflow_add-links c =
    let few = passing_few c.args.a.now c.requires.outers c.args.g c.args.stamp c.args.seen.now c.loop-seen.seen c.loop-seen.x c.loop-seen.links c.loop-seen.invariant in
    omega (arith, few, c.requires.long)

pub loop-seen-preserved : goal.loop-seen-preserved
loop-seen-preserved c =
    let p = c.loop-seen.invariant in
    let within : c.loop-seen.x < length c.loop-seen.seen = omega (arith, p.known, c.requires.outers.few, p.long, c.requires.long) in
    let none : stamp_at c.loop-seen.seen c.loop-seen.x ≡ 0 = grind (arith, nat_tests, c.loop-seen-test.true) in
    let on = passing_on c.args.a.now c.requires.outers c.args.g c.args.stamp c.args.seen.now c.loop-seen.seen c.loop-seen.x c.loop-seen.links p c.requires.stamp none within in
    let e : suc c.loop-seen.links ≡ c.loop-seen.links + 1 = omega arith in
    let on' = subst (λ n. IsPassing c.args.a.now c.args.g c.args.stamp c.args.seen.now (slice_set c.loop-seen.seen c.loop-seen.x c.args.stamp) (outer c.args.a.now c.loop-seen.x).corner n) e on in
    subst (λ y. IsPassing c.args.a.now c.args.g c.args.stamp c.args.seen.now (slice_set c.loop-seen.seen c.loop-seen.x c.args.stamp) y (c.loop-seen.links + 1)) (sym (ap (λ q. q.corner) c.outer-x.ensures)) on'

pub loop-seen-smaller : goal.loop-seen-smaller
loop-seen-smaller c =
    let p = c.loop-seen.invariant in
    let within : c.loop-seen.x < length c.loop-seen.seen = omega (arith, p.known, c.requires.outers.few, p.long, c.requires.long) in
    let f = fewer c.args.a.now c.requires.outers c.args.g c.args.stamp c.args.seen.now c.loop-seen.seen c.loop-seen.x c.loop-seen.links p c.requires.stamp c.loop-seen-test.true within in
    omega (arith, f)

pub returns : goal.returns
returns c =
    let some : stamp_at c.loop-seen.seen c.loop-seen.x ≢ 0 = λ e. grind (arith, nat_tests, c.loop-seen-test.false, e) in
    passing_done c.args.a.now c.requires.outers c.args.g c.args.stamp c.args.seen.now c.loop-seen.seen c.loop-seen.x c.loop-seen.links c.loop-seen.invariant some
