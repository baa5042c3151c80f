-- `write_rows` leaves the rows at the place. The loop's invariant: the first n of them stand there. Assumes nothing.
use Prim.Native.Nat.{◌-◌}
use Rattle.report.proofs.RowsTexts.{figure_row}
use Rattle.texts.proofs.Lines.{LinesWritten}
use Rattle.report.proofs.rows.write_rows.Given as goal

abbrev pub invariant-loop-n : goal.invariant-loop-n
invariant-loop-n l = LinesWritten (figure_row l.set l.figures) l.count l.initial.out l.at l.out l.next l.n
