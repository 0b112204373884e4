-- What was found for each cell.
use Rattle.std.proofs.Common.{◌≡◌, None, slice_index_or, sym, ap, ◌∙◌, subst, arith}
use Rattle.std.proofs.lemmas.List.{get_or_read}
use Rattle.coincidence.specs.Cells.{IsLive}
use Rattle.look_classes.specs.Tree.{parent_side}
use Rattle.look_classes.proofs.tree.Tree.parent.Goals as goal

pub index-requires : goal.index-requires
index-requires c =
    let live : IsLive c.self.inside.region.now.table.cells c.args.cell = subst (λ v. IsLive v.table.cells c.args.cell) (sym c.self.view_is) c.requires in
    let made = c.joins-joins.ensures.table.live_made c.args.cell live in
    omega (arith, made, c.self.invariant.long, c.self.inside.parents.ok.0)

pub returns : goal.returns
returns c =
    let live : IsLive c.self.inside.region.now.table.cells c.args.cell = subst (λ v. IsLive v.table.cells c.args.cell) (sym c.self.view_is) c.requires in
    let made = c.joins-joins.ensures.table.live_made c.args.cell live in
    let is : c.index.result.now ≡ slice_index_or c.self.inside.parents.items c.args.cell None = get_or_read c.self.inside.parents.items c.args.cell c.index.result.now (omega (arith, made, c.self.invariant.long)) c.index.ensures None in
    is ∙ (c.self.invariant.sides c.args.cell live ∙ ap (λ v. parent_side v c.args.cell) c.self.view_is)
