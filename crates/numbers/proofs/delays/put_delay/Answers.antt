-- `put_delay` leaves the numbers of the delay at the place. Assumes nothing.
use Rattle.numbers.proofs.Blocks.{delay_wrote}
use native.Mathlib.Omega.{arith}
use Rattle.numbers.proofs.delays.put_delay.Goals as goal

pub returns : goal.returns
returns c = delay_wrote c.args.chains c.args.delay _ _ (omega (arith, c.requires.1)) c.put_at-next.ensures c.put_blocks.ensures
