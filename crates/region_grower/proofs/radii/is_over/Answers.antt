-- The cell across a dart was made.
use Rattle.std.proofs.Common.{◌≡◌, Some, sym, ap, ◌∙◌, arith}
use Rattle.coincidence.specs.Tables.{joined_to}
use Rattle.region_grower.proofs.Ways.{over_dart}
use Rattle.region_grower.proofs.radii.is_over.Goals as goal

pub bounds-radii-over-inside : goal.bounds-radii-over-inside
bounds-radii-over-inside c =
    let t = c.args.joins.now in
    let joined : joined_to t c.args.d ≡ Some c.in-Some.over = sym c.joined.ensures.value ∙ c.in-Some.is in
    let live = (over_dart t c.requires.table c.args.d c.in-Some.over joined).live in
    let there = c.requires.table.live_made c.in-Some.over.0 live in
    omega (arith, there, c.requires.long, ap (λ d. d.0) c.over.view_is)
