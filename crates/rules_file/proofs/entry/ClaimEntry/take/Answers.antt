-- The array of the items that were taken.
use Rattle.std.proofs.Common.{Option, IfSome, IfNone, Ok, ap, arith}
use Rattle.serde_json.specs.Data.{Data}
use Rattle.tree_model.specs.declared.Claim.{Claim}
use Rattle.rules_file.specs.Spelling.{SpellsPair}
use Rattle.rules_file.proofs.Pairs.{array_passed, array_says}
use Rattle.rules_file.proofs.entry.ClaimEntry.take.Goals as goal

pub returns-then-branch-clause-passed : goal.returns-then-branch-clause-passed
returns-then-branch-clause-passed c = array_passed c.take_pair.result c.args.depth _ _ _ (c.in_ok-opens_array.ensures.opens (ap Ok c.if-branch.true)) c.take_pair.ensures.passed

pub returns-then-branch-clause-some : goal.returns-then-branch-clause-some
returns-then-branch-clause-some c =
    array_says c.take_pair.result (λ d o. IfSome o (λ x. SpellsPair d x)) c.args.depth _ _ _
    (c.in_ok-opens_array.ensures.opens (ap Ok c.if-branch.true)) c.take_pair.ensures.passed c.take_pair.ensures.some

pub returns-then-branch-clause-none : goal.returns-then-branch-clause-none
returns-then-branch-clause-none c =
    array_says c.take_pair.result (λ d o. IfNone o ((x : Claim) → ¬ SpellsPair d x)) c.args.depth _ _ _
    (c.in_ok-opens_array.ensures.opens (ap Ok c.if-branch.true)) c.take_pair.ensures.passed c.take_pair.ensures.none
