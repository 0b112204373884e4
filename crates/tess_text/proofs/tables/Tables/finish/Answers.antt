use Rattle.std.proofs.Common.{◌≡◌, List, ◌∙◌, sym, subst, arith, All}
use Rattle.std.proofs.lemmas.List.Elements.{All-get_or}
use Rattle.tess_text.specs.Tables.{Table, IsFull}
use Rattle.tess_text.proofs.tables.Tables.finish.Goals as goal

pub returns-in_default : goal.returns-in_default
returns-in_default c = λ full.
    let same : c.deref-table-items.result.now ≡ c.args.self.now = c.deref-table-items.ensures.value ∙ c.self.view_is in
    let all : All IsFull c.deref-table-items.result.now = subst (λ (l : List Table). All IsFull l) (sym same) full in
    let here = All-get_or IsFull c.deref-table-items.result.now c.loop-table.table-index c.table-item.result (omega arith) all in
    let none = rw c.in_default.is at c.in_ok-kind.ensures in
    none (subst (λ (t : Table). IsFull t) (sym c.table-item.is) here)
