-- The rest of the greater number by the lesser is divided, and is a period, with both.
use Rattle.std.proofs.Common.{arith}
use Rattle.std.proofs.Math.Nat.{mod_self}
use Rattle.coincidence.proofs.Numbers.{divides_whole, divisor_at_most, none_left}
use Rattle.coincidence.proofs.Periods.{period_rest}
use Rattle.coincidence.proofs.divisor.common_divisor.Goals as goal

pub loop-lesser-preserved : goal.loop-lesser-preserved
loop-lesser-preserved c =
    let h = c.loop-lesser.invariant in
    record {
      positive = omega arith;
      divides = λ g lesser rest. h.divides g (divides_whole c.loop-lesser.greater c.loop-lesser.lesser g lesser rest) lesser;
      periods = λ atlas cell first second.
          let both = h.periods atlas cell first second in
          (both.1, period_rest atlas cell c.loop-lesser.greater c.loop-lesser.lesser both.0 both.1);
    }

pub returns-clause-periods : goal.returns-clause-periods
returns-clause-periods c = λ atlas cell first second. (c.loop-lesser.invariant.periods atlas cell first second).0

pub returns-clause-at_most : goal.returns-clause-at_most
returns-clause-at_most c = divisor_at_most c.args.first c.loop-lesser.greater c.requires (c.loop-lesser.invariant.divides c.loop-lesser.greater (mod_self c.loop-lesser.greater) (none_left c.loop-lesser.lesser c.loop-lesser.greater (omega arith))).0
