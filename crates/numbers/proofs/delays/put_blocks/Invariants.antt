-- `put_blocks` leaves the numbers of the first blocks at the place. The loop's invariant: the first c of them stand there. Assumes nothing.
use Prim.Native.Nat.{◌-◌}
use Rattle.numbers.proofs.Blocks.{BlocksPut}
use Rattle.numbers.proofs.delays.put_blocks.Given as goal

abbrev pub invariant-loop-c : goal.invariant-loop-c
invariant-loop-c l = BlocksPut l.blocks l.chains l.initial.out l.at l.out l.place l.c
