-- `first_difference` meets its contract. The loop's invariant: the answer is that of the rows still to come in both.
-- Assumes nothing.
use Rattle.recorders.proofs.InStep.{later}
use Rattle.recording.specs.Reading.{rows_of}
use mathlib.Core.Path.{◌≡◌}
use Rattle.recorders.proofs.difference.first_difference.Given as goal

abbrev pub invariant-loop-n : goal.invariant-loop-n
invariant-loop-n l = later (rows_of l.first) (rows_of l.second) 0 ≡ later (rows_of l.first) (rows_of l.second) l.n
