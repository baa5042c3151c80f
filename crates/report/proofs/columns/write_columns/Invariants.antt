-- `write_columns` leaves the columns at the place. The loop's invariant: the first k of them stand there. Assumes nothing.
use Prim.Native.Nat.{◌-◌}
use Rattle.report.proofs.ColumnWrites.{ColumnsWritten}
use Rattle.report.proofs.columns.write_columns.Given as goal

abbrev pub invariant-loop-k : goal.invariant-loop-k
invariant-loop-k l = ColumnsWritten l.values l.initial.out l.at l.out l.next l.k
