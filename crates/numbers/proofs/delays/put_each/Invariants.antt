-- `put_each` leaves the numbers of the first delays at the start. The loop's invariant: the first n of them stand there. Assumes nothing.
use Prim.Native.Nat.{◌-◌}
use Rattle.numbers.proofs.Blocks.{DelaysPut}
use Rattle.numbers.proofs.delays.put_each.Given as goal

abbrev pub invariant-loop-n : goal.invariant-loop-n
invariant-loop-n l = DelaysPut l.chains l.delays l.count l.initial.out l.out l.at l.n
