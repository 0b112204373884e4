-- The table joins the names of both darts.
use Rattle.std.proofs.Common.{◌≡◌, sym, ap, ◌∙◌, subst, arith}
use Rattle.std.proofs.lemmas.List.{get_or_read}
use Rattle.coincidence.specs.declared.table.Cell.{Cell}
use Rattle.coincidence.specs.Darts.{unpack}
use Rattle.coincidence.specs.Cells.{no_cell, cell_at, IsLive, live_count, name}
use Rattle.coincidence.specs.Atlases.{LieAcross}
use Rattle.coincidence.specs.Tables.{atlas, atlas_of}
use Rattle.coincidence.specs.Joined.{IsKept, HasRenamed}
use Rattle.coincidence.proofs.Settled.{live_made}
use Rattle.coincidence.proofs.Kept.{kept_table, joined_kept, joined_renamed}
use Rattle.coincidence.proofs.Calls.{side_name, side_settled, across_named, asked_joined, live_fewer}
use Rattle.coincidence.proofs.joins.Joins.join.Goals as goal

pub join-requires-clause-first : goal.join-requires-clause-first
join-requires-clause-first c =
    let t = c.self.inside.table in
    let live : IsLive t.cells.items c.a.inside.cell = subst (λ v. IsLive v.cells c.a.inside.cell) (sym c.self.view_is) (subst (λ d. IsLive c.args.self.now.cells d.0) (sym c.a.view_is) c.requires.live) in
    let is : c.index.result.now ≡ cell_at t.cells.items c.a.inside.cell = get_or_read t.cells.items c.a.inside.cell c.index.result.now (live_made t.cells.items c.a.inside.cell live) c.index.ensures no_cell in
    side_settled t c.a.inside.cell c.a.inside.side c.index.result.now.turn c.packed-x.result c.self.invariant.shaped live (ap (λ (x : Cell). x.turn) is) c.packed-x.ensures

pub join-requires-clause-second : goal.join-requires-clause-second
join-requires-clause-second c =
    let t = c.self.inside.table in
    let live : IsLive t.cells.items c.b.inside.cell = subst (λ v. IsLive v.cells c.b.inside.cell) (sym c.self.view_is) (subst (λ d. IsLive c.args.self.now.cells d.0) (sym c.b.view_is) c.requires.other_live) in
    let is : c.index-2.result.now ≡ cell_at t.cells.items c.b.inside.cell = get_or_read t.cells.items c.b.inside.cell c.index-2.result.now (live_made t.cells.items c.b.inside.cell live) c.index-2.ensures no_cell in
    side_settled t c.b.inside.cell c.b.inside.side c.index-2.result.now.turn c.packed-y.result c.self.invariant.shaped live (ap (λ (x : Cell). x.turn) is) c.packed-y.ensures

-- the first dart by its name
x_named : (c : goal.After-join) → unpack c.packed-x.result ≡ name c.self.inside.table.cells.items c.args.a
x_named c =
    let t = c.self.inside.table in
    let live : IsLive t.cells.items c.a.inside.cell = subst (λ v. IsLive v.cells c.a.inside.cell) (sym c.self.view_is) (subst (λ d. IsLive c.args.self.now.cells d.0) (sym c.a.view_is) c.requires.live) in
    let is : c.index.result.now ≡ cell_at t.cells.items c.a.inside.cell = get_or_read t.cells.items c.a.inside.cell c.index.result.now (live_made t.cells.items c.a.inside.cell live) c.index.ensures no_cell in
    side_name t c.a.inside.cell c.a.inside.side c.index.result.now.turn c.packed-x.result c.self.invariant.shaped live (ap (λ (x : Cell). x.turn) is) c.packed-x.ensures ∙ ap (name t.cells.items) c.a.view_is

-- the second dart by its name
y_named : (c : goal.After-join) → unpack c.packed-y.result ≡ name c.self.inside.table.cells.items c.args.b
y_named c =
    let t = c.self.inside.table in
    let live : IsLive t.cells.items c.b.inside.cell = subst (λ v. IsLive v.cells c.b.inside.cell) (sym c.self.view_is) (subst (λ d. IsLive c.args.self.now.cells d.0) (sym c.b.view_is) c.requires.other_live) in
    let is : c.index-2.result.now ≡ cell_at t.cells.items c.b.inside.cell = get_or_read t.cells.items c.b.inside.cell c.index-2.result.now (live_made t.cells.items c.b.inside.cell live) c.index-2.ensures no_cell in
    side_name t c.b.inside.cell c.b.inside.side c.index-2.result.now.turn c.packed-y.result c.self.invariant.shaped live (ap (λ (x : Cell). x.turn) is) c.packed-y.ensures ∙ ap (name t.cells.items) c.b.view_is

pub overflow_sub-result : goal.overflow_sub-result
overflow_sub-result c = live_fewer c.self.inside.table c.join.new.self c.self.invariant.shaped c.join.ensures.shaped c.join.ensures.followed

kept_after : (c : goal.After-join) → IsKept c.self.inside.tessellation.now c.self.inside.origins.items c.join.new.self
kept_after c =
    let kinds = c.self.inside.tessellation.now in
    let origins = c.self.inside.origins.items in
    let t = c.self.inside.table in
    let across : LieAcross (atlas_of kinds origins) c.args.a c.args.b = subst (λ v. LieAcross (atlas v) c.args.a c.args.b) (sym c.self.view_is) c.requires.across in
    let named = across_named (atlas_of kinds origins) t c.args.a c.args.b c.packed-x.result c.packed-y.result c.self.invariant.shaped c.self.invariant.sound (x_named c) (y_named c) across in
    joined_kept kinds origins t c.self.invariant c.join.new.self c.join.ensures.shaped c.join.ensures.quiet c.join.ensures.followed (c.join.ensures.sound (atlas_of kinds origins) c.self.invariant.sound named)

pub invariant_of-self : goal.invariant_of-self
invariant_of-self c = kept_after c

pub returns-clause-renamed : goal.returns-clause-renamed
returns-clause-renamed c =
    let kinds = c.self.inside.tessellation.now in
    let origins = c.self.inside.origins.items in
    let t' = c.join.new.self in
    subst (λ v. HasRenamed v (record { kinds = kinds; origins = origins; cells = t'.cells.items; slots = t'.slots.items })) c.self.view_is (joined_renamed kinds origins c.self.inside.table c.self.invariant t' c.join.ensures.shaped c.join.ensures.quiet c.join.ensures.followed (kept_after c).sound)

pub returns-clause-joined : goal.returns-clause-joined
returns-clause-joined c = asked_joined c.self.inside.table c.join.new.self c.args.a c.args.b c.packed-x.result c.packed-y.result c.join.ensures.shaped c.join.ensures.quiet c.join.ensures.followed (x_named c) (y_named c) c.join.ensures.named

pub returns-clause-count : goal.returns-clause-count
returns-clause-count c =
    let t = c.self.inside.table in
    let t' = c.join.new.self in
    let less = live_fewer t t' c.self.invariant.shaped c.join.ensures.shaped c.join.ensures.followed in
    let all : live_count t.cells.items ≡ live_count c.args.self.now.cells = ap (λ v. live_count v.cells) c.self.view_is in
    omega (arith, less, all, c.self.invariant.shaped.live, c.join.ensures.shaped.live)

pub returns-clause-table : goal.returns-clause-table
returns-clause-table c = kept_table c.self.inside.tessellation.now c.self.inside.origins.items c.join.new.self (kept_after c)
