-- A number is below their count.
use Rattle.std.proofs.Common.{◌≡◌, List, Option, ℕ, ap, ◌∙◌, subst}
use Rattle.look_classes.specs.Numbers.{entry}
use Rattle.look_classes.specs.Classes.{cell_looks}
use Rattle.state_candidates.specs.Readers.{IsReaderWith}
use Rattle.state_candidates.proofs.Numbered.{few_numbers}
use Rattle.state_candidates.proofs.reader.Reader.cell_number.Goals as goal

pub returns-clause-few : goal.returns-clause-few
returns-clause-few c =
    let v = c.args.self.now in
    let ok : IsReaderWith v c.self.inside.starts.items = subst (λ v. IsReaderWith v c.self.inside.starts.items) c.self.view_is c.self.invariant in
    let cells : c.deref.result.now ≡ v.lists.cells = c.deref.ensures.value ∙ (ap (λ x. x.cells) c.classes.view_is ∙ ap (λ v. v.lists.cells) c.self.view_is) in
    few_numbers 100000 (cell_looks v.horizon v.region) v.lists.cells v.lists.cell_count ok.reader.classes.cells v.first_state ok.reader.few_states c.args.cell c.number_at.result (c.number_at.ensures ∙ ap (λ (xs : List (Option ℕ)). entry xs c.args.cell) cells)
