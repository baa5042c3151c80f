-- `set_in` answers `set_in`. The loop's invariant: the first n jobs are in the set. Assumes nothing.
use Prim.Native.Nat.{◌-◌}
use Rattle.numbers.proofs.Places.{SetRead}
use Rattle.numbers.proofs.set.set_in.Given as goal

abbrev pub invariant-loop-n : goal.invariant-loop-n
invariant-loop-n l = SetRead l.numbers l.count l.n l.set
