use Rattle.std.proofs.Common.{arith}
use Rattle.std.proofs.lemmas.Int.Digits.{digits_more, digits_value_more}
use Rattle.log_text.proofs.Places.{all_read, no_number}
use Rattle.log_text.proofs.place.value_of.Goals as goal

pub returns-in_err-value : goal.returns-in_err-value
returns-in_err-value c =
    rw c.from_residual.ensures (no_number c.args.digits.now c.loop-byte.byte-index c.loop-byte.value c.loop-byte-test.true c.loop-byte.invariant.value c.in_err-value.ensures)

pub loop-byte-preserved : goal.loop-byte-preserved
loop-byte-preserved c = record {
  digits = digits_more 10 c.args.digits.now c.loop-byte.byte-index c.loop-byte-test.true c.loop-byte.invariant.digits c.in_ok-value.ensures.0.0;
  value = omega (arith, c.in_ok-value.ensures, digits_value_more 10 c.args.digits.now c.loop-byte.byte-index c.loop-byte-test.true, c.loop-byte.invariant.value);
  small = omega (arith, c.in_ok-value.ensures);
}

pub returns : goal.returns
returns c = all_read c.args.digits.now c.loop-byte.byte-index c.loop-byte.value (omega arith) c.loop-byte.invariant.small c.loop-byte.invariant.digits c.loop-byte.invariant.value
