use Rattle.std.proofs.Common.{subst, Bool, arith}
use Rattle.step_engine.specs.Detours.{HasMoved}
use Rattle.step_engine.proofs.Contours.{going_start, going_on, going_end, going_few}
use Rattle.step_engine.proofs.detour.Detour.contour.Goals as goal

pub loop-init : goal.loop-init
loop-init c = going_start c.args.r.now c.requires.detour.sound c.args.s.now c.args.leftwards c.args.self.now c.requires.detour c.requires.opens

pub loop-smaller : goal.loop-smaller
loop-smaller c =
    let moved = subst (λ (b : Bool). HasMoved c.args.r.now c.args.s.now c.args.leftwards c.loop.self c.loop.brackets b c.go_on.new.self c.go_on.new.brackets) c.if-not-branch.true c.in_ok-go_on.ensures in
    (going_on c.args.r.now c.requires.detour.sound c.args.s.now c.args.leftwards c.args.self.now c.loop.self c.go_on.new.self c.loop.brackets c.go_on.new.brackets c.loop.invariant moved).1

pub loop-preserved : goal.loop-preserved
loop-preserved c =
    let moved = subst (λ (b : Bool). HasMoved c.args.r.now c.args.s.now c.args.leftwards c.loop.self c.loop.brackets b c.go_on.new.self c.go_on.new.brackets) c.if-not-branch.true c.in_ok-go_on.ensures in
    (going_on c.args.r.now c.requires.detour.sound c.args.s.now c.args.leftwards c.args.self.now c.loop.self c.go_on.new.self c.loop.brackets c.go_on.new.brackets c.loop.invariant moved).0

pub returns : goal.returns
returns c =
    let moved = subst (λ (b : Bool). HasMoved c.args.r.now c.args.s.now c.args.leftwards c.loop.self c.loop.brackets b c.go_on.new.self c.go_on.new.brackets) c.if-not-branch.false c.in_ok-go_on.ensures in
    going_end c.args.r.now c.requires.detour.sound c.args.s.now c.args.leftwards c.args.self.now c.loop.self c.go_on.new.self c.loop.brackets c.go_on.new.brackets c.loop.invariant moved

pub go_on-requires-clause-few : goal.go_on-requires-clause-few
go_on-requires-clause-few c =
    let few = going_few c.args.r.now c.requires.detour.sound c.args.s.now c.args.leftwards c.args.self.now c.loop.self c.loop.brackets c.loop.invariant in
    omega (arith, few, c.counter_fits.ensures)
