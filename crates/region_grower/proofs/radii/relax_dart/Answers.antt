-- The radius across the dart is over one more.
use Rattle.std.proofs.Common.{◌≡◌, ◌+◌, ◌<◌, slice_index, Some, sym, ap, ◌∙◌, subst, arith}
use Rattle.std.proofs.Math.ListN.{set}
use Rattle.std.proofs.Common.{true}
use Rattle.coincidence.specs.Tables.{joined_to}
use Rattle.region_grower.specs.Regions.{IsRelaxedAt}
use Rattle.region_grower.specs.Passes.{HasLowered}
use Rattle.region_grower.proofs.Ways.{over_dart}
use Rattle.region_grower.proofs.Measured.{lowers}
use Rattle.region_grower.proofs.radii.relax_dart.Goals as goal

pub bounds-radii-over-inside : goal.bounds-radii-over-inside
bounds-radii-over-inside c =
    let t = c.args.joins.now in
    let joined : joined_to t c.args.d ≡ Some c.in-Some.over = sym c.joined.ensures.value ∙ c.in-Some.is in
    let live = (over_dart t c.requires.table c.args.d c.in-Some.over joined).live in
    let there = c.requires.table.live_made c.in-Some.over.0 live in
    omega (arith, there, c.requires.long, ap (λ d. d.0) c.over.view_is)

pub returns-then-radii-over : goal.returns-then-radii-over
returns-then-radii-over c =
    let t = c.args.joins.now in
    let radii = c.args.radii.now in
    let joined : joined_to t c.args.d ≡ Some c.in-Some.over = sym c.joined.ensures.value ∙ c.in-Some.is in
    let d_is : c.d.inside.cell ≡ c.args.d.0 = ap (λ d. d.0) c.d.view_is in
    let e_is : c.over.inside.cell ≡ c.in-Some.over.0 = ap (λ d. d.0) c.over.view_is in
    let near : slice_index radii c.args.d.0 < 1000000 = subst (λ x. slice_index radii x < 1000000) d_is c.if-radius-lt-FAR.true in
    let less : slice_index radii c.args.d.0 + 1 < slice_index radii c.in-Some.over.0 = subst (λ x. slice_index radii x + 1 < slice_index radii c.in-Some.over.0) d_is (subst (λ y. slice_index radii c.d.inside.cell + 1 < slice_index radii y) e_is c.if-radii-over.true) in
    subst (λ x. HasLowered t radii (set radii c.over.inside.cell (slice_index radii x + 1)) true (λ rs. IsRelaxedAt t rs c.args.d)) (sym d_is) (subst (λ y. HasLowered t radii (set radii y (slice_index radii c.args.d.0 + 1)) true (λ rs. IsRelaxedAt t rs c.args.d)) (sym e_is) (lowers t radii c.args.d c.in-Some.over c.requires.table c.requires.long joined near less))
