-- The array of the items that were taken.
use Rattle.std.proofs.Common.{◌-◌, arith}
use Rattle.rules_file.specs.Taking.{items_at}
use Rattle.rules_file.proofs.Taking.{array_whole}
use Rattle.rules_file.proofs.Entries.{misfit_no_array}
use Rattle.rules_file.proofs.entry.take_list.Goals as goal

pub returns-in-Ok-clause-passed : goal.returns-in-Ok-clause-passed
returns-in-Ok-clause-passed g c = (array_whole c.args.depth _ _ _ (c.in_ok-opens_array.ensures.opens (grind arith)) c.in_ok-values.ensures.passed).0

pub returns-in-Ok-clause-some : goal.returns-in-Ok-clause-some
returns-in-Ok-clause-some g c =
    let all = array_whole c.args.depth _ _ _ (c.in_ok-opens_array.ensures.opens (grind arith)) c.in_ok-values.ensures.passed in
    (items_at (c.args.depth - 1) c.opens_array.new.reader, all.1, rw c.in-Ok.is at c.in_ok-values.ensures.found)

pub returns-in-Err-clause-passed : goal.returns-in-Err-clause-passed
returns-in-Err-clause-passed g c = (array_whole c.args.depth _ _ _ (c.in_ok-opens_array.ensures.opens (grind arith)) c.in_ok-values.ensures.passed).0

pub returns-in-Err-clause-none : goal.returns-in-Err-clause-none
returns-in-Err-clause-none g c =
    let all = array_whole c.args.depth _ _ _ (c.in_ok-opens_array.ensures.opens (grind arith)) c.in_ok-values.ensures.passed in
    λ xs. misfit_no_array _ _ _ _ xs all.1 (rw c.in-Err.is at c.in_ok-values.ensures.misfit)
