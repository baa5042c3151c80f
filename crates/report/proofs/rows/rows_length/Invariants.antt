-- `rows_length` answers the length of the rows. The loop's invariant: the sum is that of the first n rows. Assumes nothing.
use Prim.Native.Nat.{◌-◌}
use Rattle.report.proofs.RowsTexts.{figure_row}
use Rattle.texts.proofs.Lines.{LinesSummed}
use Rattle.report.proofs.rows.rows_length.Given as goal

abbrev pub invariant-loop-n : goal.invariant-loop-n
invariant-loop-n l = LinesSummed (figure_row l.set l.figures) l.count 129 l.sum l.n
