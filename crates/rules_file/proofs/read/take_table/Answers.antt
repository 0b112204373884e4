-- The array of the items that were taken.
use Rattle.std.proofs.Common.{◌-◌, vec_items, arith}
use Rattle.rules_file.specs.Taking.{items_at}
use Rattle.rules_file.proofs.Taking.{array_whole}
use Rattle.rules_file.proofs.Kept.{entries_of}
use Rattle.rules_file.proofs.read.take_table.Goals as goal

pub returns-clause-passed : goal.returns-clause-passed
returns-clause-passed g c = (array_whole c.args.depth _ _ _ (c.in_ok-opens_array.ensures.opens (grind arith)) c.in_ok-entries.ensures.passed).0

pub returns-clause-entries : goal.returns-clause-entries
returns-clause-entries g c =
    let all = array_whole c.args.depth _ _ _ (c.in_ok-opens_array.ensures.opens (grind arith)) c.in_ok-entries.ensures.passed in
    entries_of vec_items _ _ (items_at (c.args.depth - 1) c.opens_array.new.reader) c.in_ok-entries.entries all.1 c.in_ok-entries.ensures.found c.in_ok-entries.ensures.misfit
