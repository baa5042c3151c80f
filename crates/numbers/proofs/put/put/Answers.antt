-- `put` writes the numbers, or refuses with 9. Assumes nothing.
use Rattle.numbers.proofs.Rooms.{put_short, put_fits}
use native.Mathlib.Omega.{arith}
use Rattle.numbers.proofs.put.put.Goals as goal

pub returns-then-out-numbers : goal.returns-then-out-numbers
returns-then-out-numbers c = put_short _ _ c.if-out-numbers.true

pub returns : goal.returns
returns c = put_fits _ _ _ (omega (arith, c.if-out-numbers.false)) c.put_at.ensures.1
