use Rattle.std.proofs.Common.{arith}
use Rattle.std.proofs.lemmas.Bool.Decides.{nat_tests}
use Rattle.log_text.proofs.Places.{some_place, no_place, no_bytes, leading_zero}
use Rattle.log_text.proofs.place.read_place.Goals as goal
use Rattle.log_text.proofs.place.read_place.Goals.{then-is_empty-via-then-is_empty, then-is_empty-via-else-is_empty+then-has_leading_zero}

pub returns-then-is_empty-clause-none : goal.returns-then-is_empty-clause-none
returns-then-is_empty-clause-none c = elim c.then-is_empty.branch [
  | then-is_empty-via-then-is_empty w ↦ no_bytes c.args.bytes.now (grind (arith, nat_tests))
  | then-is_empty-via-else-is_empty+then-has_leading_zero w ↦ leading_zero c.args.bytes.now (w.has_leading_zero.ensures.0 w.if-has_leading_zero.true)
]

pub returns-clause-some : goal.returns-clause-some
returns-clause-some c =
    some_place c.args.bytes.now c.value_of.result (grind (arith, nat_tests)) (λ leading. absurd (cc (c.has_leading_zero.ensures.1 leading, c.if-has_leading_zero.false))) c.value_of.ensures

pub returns-clause-none : goal.returns-clause-none
returns-clause-none c = no_place c.args.bytes.now c.value_of.result c.value_of.ensures
