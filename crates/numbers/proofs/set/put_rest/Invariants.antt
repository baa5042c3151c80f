-- `put_rest` leaves the jobs at their places. The loop's invariant: those up to before place n stand there. Assumes nothing.
use Prim.Native.Nat.{◌-◌}
use Rattle.numbers.proofs.Written.{JobsPut}
use Rattle.numbers.proofs.set.put_rest.Given as goal

abbrev pub invariant-loop-n : goal.invariant-loop-n
invariant-loop-n l = JobsPut l.set l.from l.initial.out l.out l.at l.n
