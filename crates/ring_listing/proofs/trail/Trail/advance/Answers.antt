use Rattle.std.proofs.Common.{◌≡◌, length, ◌∙◌, arith, refl}
use Rattle.ring_listing.specs.declared.trail.Trail.{Trail}
use Rattle.ring_listing.proofs.Onwards.{whole}
use Rattle.ring_listing.proofs.trail.Trail.advance.Goals as goal

pub returns-clause-next : goal.returns-clause-next
returns-clause-next c = λ _.
    let t = c.loop-self.self in
    let u : Trail = record { name = t.name; states = t.states; level = t.level; side = 1 } in
    let full : t.level ≡ length t.name = omega (arith, c.loop-self.invariant.trail.level) in
    c.loop-self.invariant.same ∙ whole c.args.r.now c.args.kind t u full (omega arith) refl refl refl
