-- What the table names, packed and unpacked.
use Rattle.std.proofs.Common.{◌≡◌, ap, ◌∙◌, subst}
use Rattle.coincidence.specs.Darts.{unpack}
use Rattle.coincidence.specs.Cells.{name}
use Rattle.coincidence.proofs.Settled.{unpack_name}
use Rattle.coincidence.proofs.joins.Joins.named.Goals as goal

pub returns : goal.returns
returns c =
    let t = c.self.inside.table in
    let here : c.unpacked.result ≡ name t.cells.items (c.d.inside.cell, c.d.inside.side) = c.unpacked.ensures ∙ (ap unpack c.name.ensures ∙ unpack_name t c.d.inside.cell c.d.inside.side c.self.invariant.shaped) in
    subst (λ v. c.unpacked.result ≡ name v.cells c.args.d) c.self.view_is (here ∙ ap (name t.cells.items) c.d.view_is)
