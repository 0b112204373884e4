-- One turn.
use Rattle.std.proofs.Common.{◌≡◌, ◌+◌, ◌-◌, get_or, arith, subst}
use Rattle.std.proofs.lemmas.Option.{slice_get-get_or}
use Rattle.region_grower.specs.Regions.{IsGrown}
use Rattle.state_learner.specs.Learning.{made}
use Rattle.state_learner.proofs.Turns.{has_turned, has_stopped, has_closed, layers_within, cells_kept}
use Rattle.state_learner.proofs.Layers.{round_done}
use Rattle.state_learner.proofs.rounds.grow_round.Goals as goal

pub returns-in-Full : goal.returns-in-Full
returns-in-Full c = λ tess budget layers growing.
    let i = c.loop-region.region-index in
    let before = get_or c.loop-region.regions i c.region-item.result in
    let there = slice_get-get_or c.loop-region.regions i c.region-item.result (omega (arith, c.loop-region-test.true)) in
    let most = c.made.result + c.loop-region.left in
    let full = subst (IsGrown before c.grow.new.self most) c.in-Full.is c.in_ok-grown.ensures.grown in
    let cells : (most - c.made-in-loop-region.result) + made c.grow.new.self ≡ c.loop-region.left + made before = omega (arith, c.made.ensures, c.made-in-loop-region.ensures, c.grow.ensures.made) in
    has_stopped tess budget c.loop-region.left (most - c.made-in-loop-region.result) layers i c.loop-region.regions before c.grow.new.self
    (c.loop-region.invariant.growing tess budget layers growing) there c.in_ok-grown.ensures.kinds c.in_ok-grown.ensures.start c.in_ok-grown.ensures.from cells
    (full.near.cell, full.near.opened) full.layers (omega (arith, c.made-in-loop-region.ensures, full.made))

pub returns-in-Closed : goal.returns-in-Closed
returns-in-Closed c = λ tess budget layers growing.
    let i = c.loop-region.region-index in
    let before = get_or c.loop-region.regions i c.region-item.result in
    let there = slice_get-get_or c.loop-region.regions i c.region-item.result (omega (arith, c.loop-region-test.true)) in
    let most = c.made.result + c.loop-region.left in
    let closed = subst (IsGrown before c.grow.new.self most) c.in-Closed.is c.in_ok-grown.ensures.grown in
    let cells : (most - c.made-in-loop-region.result) + made c.grow.new.self ≡ c.loop-region.left + made before = omega (arith, c.made.ensures, c.made-in-loop-region.ensures, c.grow.ensures.made) in
    has_closed tess budget c.loop-region.left (most - c.made-in-loop-region.result) layers i c.loop-region.regions before c.grow.new.self
    (c.loop-region.invariant.growing tess budget layers growing) there c.in_ok-grown.ensures.kinds c.in_ok-grown.ensures.start c.in_ok-grown.ensures.from cells
    c.in-Closed.tiles closed.tiles

pub loop-region-preserved : goal.loop-region-preserved
loop-region-preserved c =
    let i = c.loop-region.region-index in
    let before = get_or c.loop-region.regions i c.region-item.result in
    let there = slice_get-get_or c.loop-region.regions i c.region-item.result (omega (arith, c.loop-region-test.true)) in
    let most = c.made.result + c.loop-region.left in
    let layer = subst (IsGrown before c.grow.new.self most) c.in-Layer.is c.in_ok-grown.ensures.grown in
    let cells : (most - c.made-in-loop-region.result) + made c.grow.new.self ≡ c.loop-region.left + made before = omega (arith, c.made.ensures, c.made-in-loop-region.ensures, c.grow.ensures.made) in
    record {
      room = omega (arith, cells_kept c.loop-region.regions i c.loop-region.left (most - c.made-in-loop-region.result) before c.grow.new.self there cells, c.loop-region.invariant.room);
      growing = λ tess budget layers growing.
          has_turned tess budget c.loop-region.left (most - c.made-in-loop-region.result) layers i c.loop-region.regions before c.grow.new.self
          (c.loop-region.invariant.growing tess budget layers growing) there c.in_ok-grown.ensures.kinds c.in_ok-grown.ensures.start c.in_ok-grown.ensures.from cells
          layer.opened (omega (arith, layer.layers, layer.number));
      below = λ tess budget layers growing _.
          layers_within tess budget c.loop-region.left (most - c.made-in-loop-region.result) layers i c.loop-region.regions before c.grow.new.self
          (c.loop-region.invariant.growing tess budget layers growing) there c.in_ok-grown.ensures.kinds c.in_ok-grown.ensures.start c.in_ok-grown.ensures.from cells
          (omega (arith, layer.layers, layer.number)) (omega (arith, layer.layers, layer.below)) c.in_ok-grown.ensures.table;
    }

pub returns : goal.returns
returns c = λ tess budget layers growing. (
  round_done tess budget c.loop-region.left layers c.loop-region.region-index c.loop-region.regions (c.loop-region.invariant.growing tess budget layers growing) (omega (arith, c.loop-region-test.false, c.loop-region.auto.regions)),
  c.loop-region.invariant.below tess budget layers growing (omega (arith, c.requires.some, c.loop-region-test.false)),
)
