-- `entries_length` answers the length of the entries' lines. The loop's invariant: the sum is that of the first n rows. Assumes nothing.
use Prim.Native.Nat.{◌-◌}
use Rattle.report.specs.Texts.{entry_row}
use Rattle.texts.proofs.Lines.{LinesSummed}
use Rattle.report.proofs.entries.entries_length.Given as goal

abbrev pub invariant-loop-n : goal.invariant-loop-n
invariant-loop-n l = LinesSummed (entry_row l.numbers) l.count 86 l.sum l.n
