-- An object is no array.
use Rattle.std.proofs.Common.{ap}
use Rattle.serde_json.specs.Find.{as_array}
use Rattle.rules_file.proofs.Taking.{object_whole}
use Rattle.rules_file.proofs.take.opens_array.Goals as goal

pub returns-in_ok-pass_members-in-Object-clause-other : goal.returns-in_ok-pass_members-in-Object-clause-other
returns-in_ok-pass_members-in-Object-clause-other c closed =
    let all = object_whole c.args.depth _ _ _ (rw c.in-Object.is at c.in_ok-begin.ensures.begun) c.in_ok-pass_members-in-Object.ensures.passed in
    (all.0, ap as_array all.1)
