-- The radius that was measured.
use Rattle.std.proofs.Common.{◌≡◌, slice_index, sym, subst, arith}
use Rattle.std.proofs.lemmas.List.{get_or_read}
use Rattle.coincidence.specs.Cells.{IsLive}
use Rattle.region_grower.specs.Ways.{IsRadius}
use Rattle.region_grower.proofs.region.Region.radius.Goals as goal

pub returns-then-alive-clause-some : goal.returns-then-alive-clause-some
returns-then-alive-clause-some c =
    let r = c.self.inside in
    let live : IsLive r.joins.cells c.args.cell = c.alive.ensures.0 c.if-alive.true in
    let there = c.self.invariant.region.table.live_made c.args.cell live in
    let is : c.index.result.now ≡ slice_index r.radii.items c.args.cell = get_or_read r.radii.items c.args.cell c.index.result.now (omega (arith, there, c.self.invariant.region.long)) c.index.ensures 0 in
    subst (λ v. IsRadius v.table c.args.cell c.index.result.now) c.self.view_is (subst (IsRadius r.joins c.args.cell) (sym is) (c.self.invariant.region.radii c.args.cell live))

pub index-requires : goal.index-requires
index-requires c =
    let live : IsLive c.self.inside.joins.cells c.args.cell = c.alive.ensures.0 c.if-alive.true in
    let there = c.self.invariant.region.table.live_made c.args.cell live in
    omega (arith, there, c.self.invariant.region.long, c.self.inside.radii.ok.0)

pub returns-then-alive-clause-value : goal.returns-then-alive-clause-value
returns-then-alive-clause-value c =
    let r = c.self.inside in
    let live : IsLive r.joins.cells c.args.cell = c.alive.ensures.0 c.if-alive.true in
    let there = c.self.invariant.region.table.live_made c.args.cell live in
    let is : c.index.result.now ≡ slice_index r.radii.items c.args.cell = get_or_read r.radii.items c.args.cell c.index.result.now (omega (arith, there, c.self.invariant.region.long)) c.index.ensures 0 in
    subst (λ v. c.index.result.now ≡ slice_index v.radii c.args.cell) c.self.view_is is

pub returns-then-alive-clause-at_most : goal.returns-then-alive-clause-at_most
returns-then-alive-clause-at_most c =
    let r = c.self.inside in
    let live : IsLive r.joins.cells c.args.cell = c.alive.ensures.0 c.if-alive.true in
    let there = c.self.invariant.region.table.live_made c.args.cell live in
    let is : c.index.result.now ≡ slice_index r.radii.items c.args.cell = get_or_read r.radii.items c.args.cell c.index.result.now (omega (arith, there, c.self.invariant.region.long)) c.index.ensures 0 in
    let h = c.self.invariant.region in
    let near = h.within c.args.cell live in
    let least = (h.radii c.args.cell live).least near.crossings near.way in
    omega (arith, is, least, near.at_most, h.few)
