-- A short text has short arrays.
use Rattle.std.proofs.Common.{◌≡◌, true, false, codes, vec_items, sym, ◌∙◌, arith}
use Rattle.rules_file.specs.Spelling.{SpellsWord, SpellsCorner, SpellsState}
use Rattle.rules_file.proofs.Sizes.{small_arrays}
use Rattle.rules_file.proofs.Fitting.{small_table}
use Rattle.rules_file.proofs.read.read_ranked.Goals as goal

pub finish-requires-clause-roots : goal.finish-requires-clause-roots
finish-requires-clause-roots c =
    let small = small_arrays c.args.text.now _ c.requires.short c.in_ok-tables.ensures.text in
    let has = rw c.in-Some.is at c.in_ok-tables.ensures.some in
    small_table vec_items SpellsWord (codes "roots") _ c.in-Some.tables.roots small has.roots

pub finish-requires-clause-corners : goal.finish-requires-clause-corners
finish-requires-clause-corners c =
    let small = small_arrays c.args.text.now _ c.requires.short c.in_ok-tables.ensures.text in
    let has = rw c.in-Some.is at c.in_ok-tables.ensures.some in
    small_table vec_items (SpellsCorner true) (codes "corners") _ c.in-Some.tables.corners small has.corners

pub finish-requires-clause-states : goal.finish-requires-clause-states
finish-requires-clause-states c =
    let small = small_arrays c.args.text.now _ c.requires.short c.in_ok-tables.ensures.text in
    let has = rw c.in-Some.is at c.in_ok-tables.ensures.some in
    small_table vec_items SpellsState (codes "states") _ c.in-Some.tables.states small has.states
