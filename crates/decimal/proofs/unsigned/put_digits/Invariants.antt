-- `decimal::unsigned::put_digits` meets its contract: the digits still to be put, and those that stand, are all of them.
-- Assumes nothing.
use Rattle.decimal.proofs.Putting.{DigitsPut}
use Rattle.decimal.proofs.unsigned.put_digits.Given as goal

abbrev pub invariant-loop-place : goal.invariant-loop-place
invariant-loop-place l = DigitsPut l.value l.count l.initial.rest l.place l.left l.rest
