-- `put_block` leaves the numbers of the block at the place. Assumes nothing.
use Rattle.numbers.specs.Numbers.{block_numbers}
use Rattle.numbers.proofs.delays.put_block.Goals as goal

pub returns : goal.returns
unfolding block_numbers
returns c = c.put_at.ensures
