-- The corners of a cell begin where its start says.
use Rattle.std.proofs.Common.{◌≡◌, ◌+◌, List, Option, ℕ, length, get_or, ap, ap₂, ◌∙◌, subst}
use Rattle.look_classes.specs.Numbers.{entry}
use Rattle.look_classes.specs.Classes.{corner_looks, sides_below}
use Rattle.state_candidates.specs.Reading.{corner_index}
use Rattle.state_candidates.specs.Readers.{IsReaderWith}
use Rattle.state_candidates.proofs.Numbered.{few_numbers}
use Rattle.state_candidates.proofs.Sides.{start_of}
use Rattle.state_candidates.proofs.reader.Reader.corner_number.Goals as goal

pub returns-clause-value : goal.returns-clause-value
returns-clause-value c =
    let v = c.args.self.now in
    let starts = c.self.inside.starts.items in
    let ok : IsReaderWith v starts = subst (λ v. IsReaderWith v starts) c.self.view_is c.self.invariant in
    let corners : c.deref.result.now ≡ v.lists.corners = c.deref.ensures.value ∙ (ap (λ x. x.corners) c.classes.view_is ∙ ap (λ v. v.lists.corners) c.self.view_is) in
    let made = c.requires in
    let begin : c.index.result.now ≡ length (sides_below c.args.d.0 v.region) = start_of v.region starts ok.begins c.args.d.0 made c.index.result.now (c.index.ensures ∙ ap (λ n. get_or starts n c.index.result.now) (ap (λ d. d.0) c.d.view_is)) in
    let index : c.index.result.now + c.d.inside.side ≡ corner_index v.region c.args.d.0 c.args.d.1 = ap₂ (λ m n. m + n) begin (ap (λ d. d.1) c.d.view_is) in
    c.number_at.ensures ∙ ap₂ (λ (xs : List (Option ℕ)) (n : ℕ). entry xs n) corners index

pub returns-clause-few : goal.returns-clause-few
returns-clause-few c =
    let v = c.args.self.now in
    let starts = c.self.inside.starts.items in
    let ok : IsReaderWith v starts = subst (λ v. IsReaderWith v starts) c.self.view_is c.self.invariant in
    let corners : c.deref.result.now ≡ v.lists.corners = c.deref.ensures.value ∙ (ap (λ x. x.corners) c.classes.view_is ∙ ap (λ v. v.lists.corners) c.self.view_is) in
    let at = c.index.result.now + c.d.inside.side in
    few_numbers 20000 (corner_looks v.horizon v.region) v.lists.corners v.lists.corner_count ok.reader.classes.corners v.first_corner ok.reader.few_corners at c.number_at.result (c.number_at.ensures ∙ ap (λ (xs : List (Option ℕ)). entry xs at) corners)
