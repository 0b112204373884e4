-- One side after the other.
use Rattle.std.proofs.Common.{◌≡◌, ℕ, map, ap, subst, arith}
use Rattle.look_classes.specs.Tree.{dart_of, sides_of}
use Rattle.look_classes.specs.Classes.{below}
use Rattle.look_classes.specs.Codes.{HasNumberedMore, next_code}
use Rattle.look_classes.proofs.Handed.{side_none, side_more}
use Rattle.look_classes.proofs.corners.number_next.Goals as goal

pub loop-side-init : goal.loop-side-init
loop-side-init c = side_none c.args.places.now (λ s. next_code c.args.places.now c.args.firsts.now c.args.corners.now (dart_of c.args.places.now s.0 s.1)) c.args.cell c.args.numbering.now

pub loop-side-preserved : goal.loop-side-preserved
loop-side-preserved c =
    let r = c.args.places.now in
    side_more r (λ s. next_code c.args.places.now c.args.firsts.now c.args.corners.now (dart_of c.args.places.now s.0 s.1)) c.args.cell c.loop-side.side c.args.numbering.now c.loop-side.numbering c.add.new.self c.loop-side.invariant (λ met h. c.in_ok-add.ensures met (next_code c.args.places.now c.args.firsts.now c.args.corners.now (dart_of c.args.places.now c.args.cell c.loop-side.side)) h c.in_ok-next_key_at.ensures)

pub returns : goal.returns
returns c =
    let e : c.loop-side.side ≡ sides_of c.args.places.now c.args.cell = omega (arith, c.loop-side-test.false, c.loop-side.auto.side-end, c.made_sides-side-end.ensures.value, ap (λ s. sides_of s c.args.cell) c.region.ensures.value) in
    subst (λ k. HasNumberedMore c.args.numbering.now c.loop-side.numbering (map (λ s. next_code c.args.places.now c.args.firsts.now c.args.corners.now (dart_of c.args.places.now s.0 s.1)) (map (λ (i : ℕ). (c.args.cell, i)) (below k)))) e c.loop-side.invariant
