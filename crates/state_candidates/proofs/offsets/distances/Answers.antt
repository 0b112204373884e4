-- One distance more.
use Rattle.std.proofs.Common.{◌≡◌, ◌+◌, [], Some, None, sym, ap, ap₂, ◌∙◌, subst, arith, to_z, of_z, w8, pos, ◌-ℤ◌}
use Rattle.std.proofs.lemmas.Int.{ints, to_z-of_z}
use Rattle.tile_model.specs.Tessellations.{valence}
use Rattle.coincidence.specs.Tables.{JoinTable}
use Rattle.region_grower.specs.Corners.{valence_at}
use Rattle.state_candidates.specs.Stops.{IsStop, IsOnWay}
use Rattle.state_candidates.proofs.Way.{way_start, way_more, way_out, way_done, next_of}
use Rattle.state_candidates.proofs.offsets.distances.Goals as goal

pub loop-time-init : goal.loop-time-init
loop-time-init c =
    let r = c.args.region.now in
    let stop = subst (λ d. IsStop r d c.at-first.result.distance) c.at-first.ensures.dart c.at-first.ensures.stop in
    let start : IsOnWay r c.args.base c.at-first.result.distance 0 [] (Some (record { dart = c.args.base; distance = c.at-first.result.distance })) = way_start r c.args.base c.at-first.result.distance stop in
    let here : IsOnWay r c.args.base c.at-first.result.distance 0 [] (Some c.at-first.result) = subst (λ d. IsOnWay r c.args.base c.at-first.result.distance 0 [] (Some (record { dart = d; distance = c.at-first.result.distance }))) (sym c.at-first.ensures.dart) start in
    subst (λ xs. IsOnWay r c.args.base c.at-first.result.distance 0 xs (Some c.at-first.result)) (sym c.new-offsets.ensures.items) here

pub returns-in_default : goal.returns-in_default
returns-in_default c =
    let r = c.args.region.now in
    let all : c.valence-valence.result ≡ valence_at r.table c.args.base = c.valence-valence.ensures.value ∙ (ap₂ valence c.tessellation.ensures.value c.type_of.ensures.value ∙ ap (λ (t : JoinTable). valence_at t c.args.base) c.joins-joins.ensures.value) in
    let out : IsOnWay r c.args.base c.at-first.result.distance c.loop-time.time c.loop-time.offsets.items None = subst (IsOnWay r c.args.base c.at-first.result.distance c.loop-time.time c.loop-time.offsets.items) c.in_default.is c.loop-time.invariant in
    sym (way_out r c.args.base c.at-first.result.distance c.loop-time.time c.loop-time.offsets.items out (omega (arith, all, c.loop-time-test.true)))

pub loop-time-preserved : goal.loop-time-preserved
loop-time-preserved c =
    let r = c.args.region.now in
    let near = c.at-first.result.distance in
    let way : IsOnWay r c.args.base near c.loop-time.time c.loop-time.offsets.items (Some c.in-Some.stop) = subst (IsOnWay r c.args.base near c.loop-time.time c.loop-time.offsets.items) c.in-Some.is c.loop-time.invariant in
    let value : to_z w8 (of_z w8 c.offset.result) ≡ pos c.in-Some.stop.distance -ℤ pos near = to_z-of_z w8 c.offset.result (omega (arith, ints, c.offset.type_inv)) ∙ c.offset.ensures in
    let next = next_of r c.in-Some.stop c.further-at.result c.further-at.ensures.some c.further-at.ensures.none in
    subst (λ xs. IsOnWay r c.args.base near (c.loop-time.time + 1) xs c.further-at.result) (sym c.in_ok-push.ensures.items) (way_more r c.args.base near c.loop-time.time c.loop-time.offsets.items c.in-Some.stop (to_z w8 (of_z w8 c.offset.result)) c.further-at.result way value next)

pub returns : goal.returns
returns c =
    let r = c.args.region.now in
    let all : c.valence-valence.result ≡ valence_at r.table c.args.base = c.valence-valence.ensures.value ∙ (ap₂ valence c.tessellation.ensures.value c.type_of.ensures.value ∙ ap (λ (t : JoinTable). valence_at t c.args.base) c.joins-joins.ensures.value) in
    sym (way_done r c.args.base c.at-first.result.distance c.loop-time.time c.loop-time.offsets.items c.loop-time.at c.loop-time.invariant (omega (arith, all, c.loop-time-test.false, c.loop-time.auto.time-end)))
