-- A side with no number, with one that was met, or with a new one.
use Rattle.std.proofs.Common.{◌≡◌, ℕ, ◌+◌, [], ◌∷◌, ◌++◌, length, Option, Some, sym, ap, ◌∙◌, subst, arith}
use Rattle.std.specs.Option.{option_map}
use Rattle.tree_model.specs.Automata.{CornerType, no_corner}
use Rattle.look_classes.specs.Tree.{dart_of}
use Rattle.look_classes.specs.Numbers.{entry}
use Rattle.look_classes.specs.Classes.{corner_looks}
use Rattle.state_candidates.specs.Reading.{corner_index, corner_of}
use Rattle.state_candidates.specs.Readers.{corner_read, tables_of, AreCornersTo}
use Rattle.state_candidates.proofs.FirstEntries.{read_none, read_old, read_new, is_new}
use Rattle.state_candidates.proofs.Sides.{side_at}
use Rattle.state_candidates.proofs.rows.push_corner.Goals as goal

pub returns-in_default-clause-read : goal.returns-in_default-clause-read
returns-in_default-clause-read c =
    let v = c.args.reader.now in
    let n = corner_index v.region c.args.cell c.args.side in
    let next : n + 1 ≡ corner_index v.region c.args.cell (c.args.side + 1) = omega arith in
    λ _. subst (AreCornersTo v c.args.corners.now.items) next (read_none v.lists.corners (corner_read v) tables_of v.first_corner no_corner c.args.corners.now.items n c.requires.before (sym c.corner_number.ensures.value ∙ c.in_default.is))

pub returns-then-first_corner-number-clause-read : goal.returns-then-first_corner-number-clause-read
returns-then-first_corner-number-clause-read c =
    let v = c.args.reader.now in
    let n = corner_index v.region c.args.cell c.args.side in
    let next : n + 1 ≡ corner_index v.region c.args.cell (c.args.side + 1) = omega arith in
    let is : entry v.lists.corners n ≡ Some c.in-Some.number = sym c.corner_number.ensures.value ∙ c.in-Some.is in
    λ _. subst (AreCornersTo v c.args.corners.now.items) next (read_old v.lists.corners (corner_read v) tables_of v.first_corner no_corner c.args.corners.now.items n c.requires.before c.in-Some.number is (corner_looks v.horizon v.region) v.lists.corner_count c.made-made.ensures.reader.classes.corners (λ e. c.if-first_corner-number.true (omega (arith, e, c.first_corner.ensures, c.len.ensures, c.args.corners.now.ok.0))))

pub returns-in_default-2-clause-lacking : goal.returns-in_default-2-clause-lacking
returns-in_default-2-clause-lacking c =
    let v = c.args.reader.now in
    let n = corner_index v.region c.args.cell c.args.side in
    let is : entry v.lists.corners n ≡ Some c.in-Some.number = sym c.corner_number.ensures.value ∙ c.in-Some.is in
    let at = side_at v.region (length v.region.table.origins) c.args.cell c.args.side c.requires.made c.requires.side in
    let read : corner_read v n ≡ corner_of v.region v.lists v.first_corner (dart_of v.region c.args.cell c.args.side) = ap (λ (s : ℕ × ℕ). corner_of v.region v.lists v.first_corner (dart_of v.region s.0 s.1)) at in
    λ _. record {
      number = c.in-Some.number;
      at = n;
      is_first = is_new v.lists.corners (corner_read v) tables_of v.first_corner no_corner c.args.corners.now.items n c.requires.before c.in-Some.number is (omega (arith, c.if-first_corner-number.false, c.first_corner.ensures, c.len.ensures, c.args.corners.now.ok.0));
      none = read ∙ (sym c.in_ok-corner.ensures ∙ ap (λ (o : Option CornerType). option_map tables_of o) c.in_default-2.is);
    }

pub returns-clause-read : goal.returns-clause-read
returns-clause-read c =
    let v = c.args.reader.now in
    let n = corner_index v.region c.args.cell c.args.side in
    let next : n + 1 ≡ corner_index v.region c.args.cell (c.args.side + 1) = omega arith in
    let is : entry v.lists.corners n ≡ Some c.in-Some.number = sym c.corner_number.ensures.value ∙ c.in-Some.is in
    let at = side_at v.region (length v.region.table.origins) c.args.cell c.args.side c.requires.made c.requires.side in
    let read : corner_read v n ≡ corner_of v.region v.lists v.first_corner (dart_of v.region c.args.cell c.args.side) = ap (λ (s : ℕ × ℕ). corner_of v.region v.lists v.first_corner (dart_of v.region s.0 s.1)) at in
    let more = read_new v.lists.corners (corner_read v) tables_of v.first_corner no_corner c.args.corners.now.items n c.requires.before c.in-Some.number is (omega (arith, c.if-first_corner-number.false, c.first_corner.ensures, c.len.ensures, c.args.corners.now.ok.0)) c.in-Some-2.corner (read ∙ (sym c.in_ok-corner.ensures ∙ ap (λ (o : Option CornerType). option_map tables_of o) c.in-Some-2.is)) in
    λ _. subst (λ xs. AreCornersTo v xs (corner_index v.region c.args.cell (c.args.side + 1))) (sym c.in_ok-push.ensures.items) (subst (AreCornersTo v (c.args.corners.now.items ++ c.in-Some-2.corner ∷ [])) next more)
