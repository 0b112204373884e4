-- An array or an object is no number and no string.
use Rattle.std.proofs.Common.{ap}
use Rattle.serde_json.specs.Find.{as_number, as_str}
use Rattle.rules_file.proofs.Taking.{array_whole, object_whole}
use Rattle.rules_file.proofs.take.take_scalar.Goals as goal

pub returns-in_ok-pass_items-in-Array-clause-passed : goal.returns-in_ok-pass_items-in-Array-clause-passed
returns-in_ok-pass_items-in-Array-clause-passed c =
    (array_whole c.args.depth _ _ _ (rw c.in-Array.is at c.in_ok-number.ensures.begun) c.in_ok-pass_items-in-Array.ensures.passed).0

pub returns-in_ok-pass_items-in-Array-clause-kind : goal.returns-in_ok-pass_items-in-Array-clause-kind
returns-in_ok-pass_items-in-Array-clause-kind c =
    let all = array_whole c.args.depth _ _ _ (rw c.in-Array.is at c.in_ok-number.ensures.begun) c.in_ok-pass_items-in-Array.ensures.passed in
    (ap as_number all.1, ap as_str all.1)

pub returns-in_ok-pass_members-in-Object-clause-passed : goal.returns-in_ok-pass_members-in-Object-clause-passed
returns-in_ok-pass_members-in-Object-clause-passed c =
    (object_whole c.args.depth _ _ _ (rw c.in-Object.is at c.in_ok-number.ensures.begun) c.in_ok-pass_members-in-Object.ensures.passed).0

pub returns-in_ok-pass_members-in-Object-clause-kind : goal.returns-in_ok-pass_members-in-Object-clause-kind
returns-in_ok-pass_members-in-Object-clause-kind c =
    let all = object_whole c.args.depth _ _ _ (rw c.in-Object.is at c.in_ok-number.ensures.begun) c.in_ok-pass_members-in-Object.ensures.passed in
    (ap as_number all.1, ap as_str all.1)
