-- `decimal::unsigned::put_digits` meets its contract: the digits still to be put, and those that stand, are all of them.
-- Assumes nothing.
use Rattle.decimal.proofs.Putting.{put_next, put_all}
use Rattle.decimal.proofs.unsigned.put_digits.Goals as goal

pub loop-place-preserved : goal.loop-place-preserved
loop-place-preserved c = put_next c.loop-place.invariant c.requires c.loop-place-test.true

pub returns : goal.returns
returns c = put_all c.loop-place.invariant c.loop-place-test.false
