-- The name of a dart of a live cell.
use Rattle.std.proofs.Common.{◌≡◌, ◌%◌, sym, ap, ◌∙◌, subst}
use Rattle.std.proofs.lemmas.List.{get_or_read}
use Rattle.coincidence.specs.declared.table.Cell.{Cell}
use Rattle.coincidence.specs.Cells.{no_cell, cell_at, IsLive, name}
use Rattle.coincidence.proofs.Names.{name_live}
use Rattle.coincidence.proofs.Settled.{live_made}
use Rattle.coincidence.proofs.joins.Joins.least.Goals as goal

pub returns : goal.returns
returns c =
    let xs = c.self.inside.table.cells.items in
    let cell = c.d.inside.cell in
    let live : IsLive xs cell = subst (λ v. IsLive v.cells cell) (sym c.self.view_is) (subst (λ d. IsLive c.args.self.now.cells d.0) (sym c.d.view_is) c.requires) in
    let is : c.index-x.result.now ≡ cell_at xs cell = get_or_read xs cell c.index-x.result.now (live_made xs cell live) c.index-x.ensures no_cell in
    ap (λ (x : Cell). (cell, c.d.inside.side % x.turn)) is ∙ (sym (name_live xs c.self.invariant.shaped.ordered cell c.d.inside.side live) ∙ (ap (λ v. name v.cells (cell, c.d.inside.side)) c.self.view_is ∙ ap (name c.args.self.now.cells) c.d.view_is))
