-- `decimal::signed::signed_length` meets its contract. Assumes nothing.
use Rattle.decimal.proofs.Counts.{count_within}
use Rattle.decimal.proofs.Signs.{length_below, length_else}
use native.Mathlib.Omega.{arith}
use Rattle.decimal.proofs.signed.signed_length.Goals as goal

pub overflow_add-result : goal.overflow_add-result
overflow_add-result c = omega (arith, c.digit_count-count.ensures, count_within 19 c.magnitude.result (omega arith))

pub returns-then-is_negative : goal.returns-then-is_negative
returns-then-is_negative c = length_below c.ranges.value c.is_negative.ensures c.magnitude.ensures c.digit_count-count.ensures c.if-is_negative.true

pub returns : goal.returns
returns c = length_else c.ranges.value c.is_negative.ensures c.magnitude.ensures c.digit_count-count.ensures c.if-is_negative.false
