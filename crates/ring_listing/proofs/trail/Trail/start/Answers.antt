use Rattle.std.proofs.Common.{◌≡◌, length, arith, refl}
use Rattle.std.proofs.lemmas.Grind.{common_steps}
use Rattle.ring_listing.specs.declared.trail.Trail.{Trail}
use Rattle.ring_listing.proofs.Onwards.{all_left}
use Rattle.ring_listing.proofs.trail.Trail.start.Goals as goal

pub returns-clause-all : goal.returns-clause-all
returns-clause-all c =
    let t : Trail = record { name = c.loop-side.name; states = c.in_ok-states.states; level = 0; side = 0 } in
    let sides : length c.loop-side.name ≡ c.args.d = grind (arith, common_steps) in
    all_left c.args.r.now c.args.kind t c.args.d sides refl refl
