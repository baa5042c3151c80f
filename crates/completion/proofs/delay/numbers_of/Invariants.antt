-- `numbers_of` answers the jobs' numbers. The loop's invariant: those of the first i jobs stand in the array. Assumes nothing.
use Prim.Native.Nat.{◌≤◌}
use Rattle.completion.specs.Delays.{number_in}
use Rattle.jobs.specs.Jobs.{jobs_of}
use Rattle.theory.proofs.Columns.{column}
use mathlib.Core.Path.{◌≡◌}
use Rattle.completion.proofs.delay.numbers_of.Given as goal

abbrev pub invariant-loop-i : goal.invariant-loop-i
invariant-loop-i l = (l.i ≤ l.set.count) × (l.numbers ≡ column l.i (number_in (jobs_of l.set)))
