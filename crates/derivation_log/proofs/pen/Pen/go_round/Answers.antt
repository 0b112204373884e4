use Rattle.std.proofs.Common.{refl, subst, Bool, arith}
use Rattle.derivation_log.specs.Pens.{HasMoved}
use Rattle.derivation_log.proofs.Contours.{going_start, going_on, going_end, going_few}
use Rattle.derivation_log.proofs.pen.Pen.go_round.Goals as goal

pub loop-init : goal.loop-init
loop-init c =
    going_start c.args.r.now c.counter_fits.ensures.sound c.args.self.now (record { place = c.args.self.now.place; log = c.insert.new.self }) c.in_ok-end.field-0 c.requires.spot c.requires.opens refl c.in_ok-end.ensures c.in_ok-insert.ensures

pub loop-smaller : goal.loop-smaller
loop-smaller c =
    let moved = subst (λ (b : Bool). HasMoved c.args.r.now c.loop.self c.loop.brackets b c.go_on.new.self c.go_on.new.brackets) c.if-not-branch.true c.in_ok-go_on.ensures in
    (going_on c.args.r.now c.counter_fits.ensures.sound c.args.self.now c.loop.self c.go_on.new.self c.loop.brackets c.go_on.new.brackets c.loop.invariant moved).1

pub loop-preserved : goal.loop-preserved
loop-preserved c =
    let moved = subst (λ (b : Bool). HasMoved c.args.r.now c.loop.self c.loop.brackets b c.go_on.new.self c.go_on.new.brackets) c.if-not-branch.true c.in_ok-go_on.ensures in
    (going_on c.args.r.now c.counter_fits.ensures.sound c.args.self.now c.loop.self c.go_on.new.self c.loop.brackets c.go_on.new.brackets c.loop.invariant moved).0

pub returns : goal.returns
returns c =
    let moved = subst (λ (b : Bool). HasMoved c.args.r.now c.loop.self c.loop.brackets b c.go_on.new.self c.go_on.new.brackets) c.if-not-branch.false c.in_ok-go_on.ensures in
    going_end c.args.r.now c.counter_fits.ensures.sound c.args.self.now c.loop.self c.go_on.new.self c.loop.brackets c.go_on.new.brackets c.loop.invariant moved

pub go_on-requires-clause-few : goal.go_on-requires-clause-few
go_on-requires-clause-few c =
    let few = going_few c.args.r.now c.counter_fits.ensures.sound c.args.self.now c.loop.self c.loop.brackets c.loop.invariant in
    omega (arith, few, c.counter_fits.ensures.fits)
