-- `column_in` answers `column_in`. The loop's invariant: the first n numbers of the column are read. Assumes nothing.
use Prim.Native.Nat.{◌-◌}
use Rattle.numbers.proofs.States.{ColumnRead}
use Rattle.numbers.proofs.state.column_in.Given as goal

abbrev pub invariant-loop-n : goal.invariant-loop-n
invariant-loop-n l = ColumnRead l.numbers l.from l.n l.column
