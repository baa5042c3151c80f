-- `write_entries` leaves the rows at the place. The loop's invariant: the first n of them stand there. Assumes nothing.
use Prim.Native.Nat.{◌-◌}
use Rattle.report.specs.Texts.{entry_row}
use Rattle.texts.proofs.Lines.{LinesWritten}
use Rattle.report.proofs.entries.write_entries.Given as goal

abbrev pub invariant-loop-n : goal.invariant-loop-n
invariant-loop-n l = LinesWritten (entry_row l.numbers) l.count l.initial.out l.at l.out l.next l.n
