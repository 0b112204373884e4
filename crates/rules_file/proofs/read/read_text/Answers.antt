-- A short text has short arrays, and its version is 1 or 2.
use Rattle.std.proofs.Common.{◌≡◌, true, false, codes, vec_items, sym, ◌∙◌, arith}
use Rattle.rules_file.specs.Spelling.{SpellsWord, SpellsCorner, SpellsState}
use Rattle.rules_file.proofs.Sizes.{small_arrays}
use Rattle.std.proofs.Common.{ℕ, Some, None, subst}
use Rattle.rules_file.specs.Parts.{RefusesText}
use Rattle.rules_file.proofs.Fitting.{small_table, version_missing, same_number, no_number}
use Rattle.rules_file.proofs.read.read_text.Goals as goal
use Rattle.rules_file.proofs.read.read_text.Goals.{in_default-version-via-in-Some+in_default, in_default-version-via-in_default}

pub finish-requires-clause-roots : goal.finish-requires-clause-roots
finish-requires-clause-roots c =
    let small = small_arrays c.args.text.now _ c.requires c.in_ok-tables.ensures.text in
    let has = rw c.in-Some.is at c.in_ok-tables.ensures.some in
    small_table vec_items SpellsWord (codes "roots") _ c.in-Some.tables.roots small has.roots

pub finish-requires-clause-corners : goal.finish-requires-clause-corners
finish-requires-clause-corners c =
    let small = small_arrays c.args.text.now _ c.requires c.in_ok-tables.ensures.text in
    let has = rw c.in-Some.is at c.in_ok-tables.ensures.some in
    small_table vec_items (SpellsCorner false) (codes "corners") _ c.in-Some.tables.corners small has.corners

pub finish-requires-clause-states : goal.finish-requires-clause-states
finish-requires-clause-states c =
    let small = small_arrays c.args.text.now _ c.requires c.in_ok-tables.ensures.text in
    let has = rw c.in-Some.is at c.in_ok-tables.ensures.some in
    small_table vec_items SpellsState (codes "states") _ c.in-Some.tables.states small has.states

pub returns-in_default-version-clause-err : goal.returns-in_default-version-clause-err
returns-in_default-version-clause-err c =
    let has = rw c.in-Some.is at c.in_ok-tables.ensures.some in
    let there = rw c.in-Some.is at c.in_ok-tables.ensures.object in
    let one : c.in-Some.tables.version ≡ Some 1 → ⊥ = elim c.in_default-version.branch [
      | in_default-version-via-in-Some+in_default w ↦ λ e. w.in_default-version.field-0-test.0.1 (w.in_default-version.field-0-is ∙ same_number _ _ (sym w.in_default-version.is ∙ e))
      | in_default-version-via-in_default w ↦ λ e. no_number _ (sym w.in_default-version.is ∙ e)
    ] in
    let two : c.in-Some.tables.version ≡ Some 2 → ⊥ = elim c.in_default-version.branch [
      | in_default-version-via-in-Some+in_default w ↦ λ e. w.in_default-version.field-0-test.1 (w.in_default-version.field-0-is ∙ same_number _ _ (sym w.in_default-version.is ∙ e))
      | in_default-version-via-in_default w ↦ λ e. no_number _ (sym w.in_default-version.is ∙ e)
    ] in
    subst (RefusesText c.args.text.now) (sym c.misshapen-in_default-version.ensures) (c.in_ok-tables.ensures.text, version_missing _ c.in-Some.tables.version there one two has.version)
