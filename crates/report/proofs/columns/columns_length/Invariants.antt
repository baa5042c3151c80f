-- `columns_length` answers the length of the columns. The loop's invariant: the sum is that of the first k columns. Assumes nothing.
use Prim.Native.Nat.{◌-◌}
use Rattle.report.proofs.ColumnWrites.{ColumnsSummed}
use Rattle.report.proofs.columns.columns_length.Given as goal

abbrev pub invariant-loop-k : goal.invariant-loop-k
invariant-loop-k l = ColumnsSummed l.values l.sum l.k
