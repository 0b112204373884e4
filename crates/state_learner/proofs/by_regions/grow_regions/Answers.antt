-- One round.
use Rattle.std.proofs.Common.{◌-◌, length, subst, arith}
use Rattle.state_learner.specs.Growing.{IsRound, layers_of}
use Rattle.state_learner.proofs.Layers.{layers_are, next_round}
use Rattle.state_learner.proofs.by_regions.grow_regions.Goals as goal

pub loop-tiles-init : goal.loop-tiles-init
loop-tiles-init c =
    let left = c.args.budget - length c.args.regions.now in
    record {
      growing = next_round c.args.t.now c.args.budget left 0 c.args.regions.now (c.requires.growing left (omega (arith, c.requires.few))) c.requires.some;
      within = omega arith;
    }

pub returns-in-Closed : goal.returns-in-Closed
returns-in-Closed c =
    let layers = layers_of c.loop-tiles.regions in
    subst (IsRound c.args.t.now c.args.budget c.grow_round.new.left layers c.grow_round.new.regions) c.in-Closed.is
    (c.in_ok-tiles.ensures c.args.t.now c.args.budget layers c.loop-tiles.invariant.growing)

pub returns-in-Full : goal.returns-in-Full
returns-in-Full c =
    let layers = layers_of c.loop-tiles.regions in
    subst (IsRound c.args.t.now c.args.budget c.grow_round.new.left layers c.grow_round.new.regions) c.in-Full.is
    (c.in_ok-tiles.ensures c.args.t.now c.args.budget layers c.loop-tiles.invariant.growing)

pub overflow_sub-budget : goal.overflow_sub-budget
overflow_sub-budget c =
    let layers = layers_of c.loop-tiles.regions in
    let done = subst (IsRound c.args.t.now c.args.budget c.grow_round.new.left layers c.grow_round.new.regions) c.in-Layer.is
    (c.in_ok-tiles.ensures c.args.t.now c.args.budget layers c.loop-tiles.invariant.growing) in
    omega (arith, done.0.spent)

pub loop-tiles-smaller : goal.loop-tiles-smaller
loop-tiles-smaller c =
    let layers = layers_of c.loop-tiles.regions in
    let done = subst (IsRound c.args.t.now c.args.budget c.grow_round.new.left layers c.grow_round.new.regions) c.in-Layer.is
    (c.in_ok-tiles.ensures c.args.t.now c.args.budget layers c.loop-tiles.invariant.growing) in
    omega (arith, layers_are c.args.t.now c.args.budget c.grow_round.new.left _ c.grow_round.new.regions done.0 (omega (arith, c.loop-tiles.invariant.growing.count, done.0.count, c.grow_round.auto.regions, c.loop-tiles.auto.regions, c.requires.some)), done.1)

pub loop-tiles-preserved : goal.loop-tiles-preserved
loop-tiles-preserved c =
    let layers = layers_of c.loop-tiles.regions in
    let done = subst (IsRound c.args.t.now c.args.budget c.grow_round.new.left layers c.grow_round.new.regions) c.in-Layer.is
    (c.in_ok-tiles.ensures c.args.t.now c.args.budget layers c.loop-tiles.invariant.growing) in
    record {
      growing = next_round c.args.t.now c.args.budget c.grow_round.new.left _ c.grow_round.new.regions done.0 (omega (arith, c.loop-tiles.invariant.growing.count, done.0.count, c.grow_round.auto.regions, c.loop-tiles.auto.regions, c.requires.some));
      within = omega (arith, done.0.spent);
    }
