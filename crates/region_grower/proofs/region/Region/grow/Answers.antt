-- Each answer of the table is one of the region.
use Rattle.std.proofs.Common.{◌+◌, refl, ap, subst, arith}
use Rattle.region_grower.specs.declared.growth.Answer.TheVariants.{Closed, Layer, Full}
use Rattle.region_grower.specs.Regions.{RegionState}
use Rattle.region_grower.specs.Answers.{IsAnswer}
use Rattle.region_grower.proofs.Growing.{layer_is, layer_below, full_is, full_answer, closed_is, region_is, live_few}
use Rattle.region_grower.specs.declared.region.Grown.TheVariants as grown
use Rattle.region_grower.proofs.Calls.{stays_region, goes_on}
use Rattle.region_grower.proofs.region.Region.grow.Goals as goal

pub invariant_of-self-in-Layer : goal.invariant_of-self-in-Layer
invariant_of-self-in-Layer c =
    let t = c.advance.new.joins in
    let n = c.self.inside.layers in
    let ready = c.in_ok-advance.ensures.ready in
    let answer : IsAnswer t n c.args.most Layer = subst (IsAnswer t n c.args.most) c.in-Layer.is c.in_ok-advance.ensures.answer in
    let below = layer_below t ready.table c.advance.new.radii.items ready.measured n answer.1 answer.0.0 answer.0.1 in
    region_is (record { table = t; radii = c.advance.new.radii.items; layers = n + 1 }) n (n + 1) c.advance.new.whole refl (omega arith) (let few = live_few t ready.table in omega (arith, below, few)) ready

pub returns-in-Closed-clause-grown : goal.returns-in-Closed-clause-grown
returns-in-Closed-clause-grown c =
    let t = c.advance.new.joins in
    let n = c.self.inside.layers in
    let answer : IsAnswer t n c.args.most Closed = subst (IsAnswer t n c.args.most) c.in-Closed.is c.in_ok-advance.ensures.answer in
    closed_is c.args.self.now (record { table = t; radii = c.advance.new.radii.items; layers = n }) n c.advance.new.whole c.live.result
    (ap (λ v. v.layers) c.self.view_is) c.live.ensures c.in_ok-advance.ensures.ready answer

pub returns-in-Layer-clause-grown : goal.returns-in-Layer-clause-grown
returns-in-Layer-clause-grown c =
    let t = c.advance.new.joins in
    let n = c.self.inside.layers in
    let answer : IsAnswer t n c.args.most Layer = subst (IsAnswer t n c.args.most) c.in-Layer.is c.in_ok-advance.ensures.answer in
    layer_is c.args.self.now (record { table = t; radii = c.advance.new.radii.items; layers = n + 1 }) n c.advance.new.whole (ap (λ v. v.layers) c.self.view_is) refl c.in_ok-advance.ensures.ready answer.0 answer.1

pub returns-in_default-clause-grown : goal.returns-in_default-clause-grown
returns-in_default-clause-grown c =
    let t = c.advance.new.joins in
    let n = c.self.inside.layers in
    let same = ap (λ v. v.layers) c.self.view_is in
    let answer : IsAnswer t n c.args.most Full = full_answer t n c.args.most c.in_ok-advance.field-0 c.in_default.not-Closed c.in_default.not-Layer c.in_ok-advance.ensures.done c.in_ok-advance.ensures.answer in
    full_is c.args.self.now (record { table = t; radii = c.advance.new.radii.items; layers = n }) n c.advance.new.whole c.args.most same same c.in_ok-advance.ensures.ready answer.0.0 answer.0.1 answer.1

pub returns-in-Closed-clause-from : goal.returns-in-Closed-clause-from
returns-in-Closed-clause-from c =
    let n = c.self.inside.layers in
    let after : RegionState = record { table = c.advance.new.joins; radii = c.advance.new.radii.items; layers = n } in
    goes_on c.args.self.now (record { table = c.self.inside.joins; radii = c.self.inside.radii.items; layers = n }) after c.args.most (grown.Closed c.live.result)
    c.self.view_is c.in_ok-advance.ensures.grown c.in_ok-advance.ensures.at_most
    (stays_region after c.advance.new.whole c.self.invariant.region.few c.in_ok-advance.ensures.ready) (returns-in-Closed-clause-grown c)

pub returns-in-Layer-clause-from : goal.returns-in-Layer-clause-from
returns-in-Layer-clause-from c =
    let n = c.self.inside.layers in
    let after : RegionState = record { table = c.advance.new.joins; radii = c.advance.new.radii.items; layers = n + 1 } in
    goes_on c.args.self.now (record { table = c.self.inside.joins; radii = c.self.inside.radii.items; layers = n }) after c.args.most (grown.Layer (n + 1))
    c.self.view_is c.in_ok-advance.ensures.grown c.in_ok-advance.ensures.at_most
    (invariant_of-self-in-Layer c).region (returns-in-Layer-clause-grown c)

pub returns-in_default-clause-from : goal.returns-in_default-clause-from
returns-in_default-clause-from c =
    let n = c.self.inside.layers in
    let after : RegionState = record { table = c.advance.new.joins; radii = c.advance.new.radii.items; layers = n } in
    goes_on c.args.self.now (record { table = c.self.inside.joins; radii = c.self.inside.radii.items; layers = n }) after c.args.most (grown.Full c.args.most)
    c.self.view_is c.in_ok-advance.ensures.grown c.in_ok-advance.ensures.at_most
    (stays_region after c.advance.new.whole c.self.invariant.region.few c.in_ok-advance.ensures.ready) (returns-in_default-clause-grown c)
