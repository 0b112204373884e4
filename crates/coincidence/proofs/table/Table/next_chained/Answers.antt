-- The first cell of the chain is written as it was, but for its link.
use Rattle.std.proofs.Common.{◌≡◌, refl}
use Rattle.std.proofs.lemmas.List.{get_or_read}
use Rattle.coincidence.specs.Cells.{no_cell, cell_at}
use Rattle.coincidence.proofs.Chains.{chain_head}
use Rattle.coincidence.proofs.Unchained.{head_unchained}
use Rattle.coincidence.proofs.table.Table.next_chained.Goals as goal

pub returns-clause-some : goal.returns-clause-some
returns-clause-some c =
    let t = c.args.self.now in
    let made = (chain_head t.cells.items t.head c.if-cell.false c.requires.chain).0 in
    let was : c.index-old.result.now ≡ cell_at t.cells.items t.head = get_or_read t.cells.items t.head c.index-old.result.now made c.index-old.ensures no_cell in
    head_unchained t _ c.requires c.if-cell.false c.index-old.result.now was refl refl refl refl
