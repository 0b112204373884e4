-- An array is no object.
use Rattle.std.proofs.Common.{ap}
use Rattle.serde_json.specs.Find.{as_object}
use Rattle.rules_file.proofs.Taking.{array_whole}
use Rattle.rules_file.proofs.take.opens_object.Goals as goal

pub returns-in_ok-pass_items-in-Array-clause-other : goal.returns-in_ok-pass_items-in-Array-clause-other
returns-in_ok-pass_items-in-Array-clause-other c closed =
    let all = array_whole c.args.depth _ _ _ (rw c.in-Array.is at c.in_ok-begin.ensures.begun) c.in_ok-pass_items-in-Array.ensures.passed in
    (all.0, ap as_object all.1)
