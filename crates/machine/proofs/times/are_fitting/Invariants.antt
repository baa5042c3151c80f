-- `are_fitting` meets its contract. The loop's invariant: the first n running times are in range. Assumes nothing.
use Prim.Native.Nat.{◌≤◌}
use Rattle.jobs.specs.Jobs.{jobs_of}
use Rattle.laws.specs.Words.{every_below}
use Rattle.machine.proofs.RunningTimes.{in_range}
use Rattle.theory.specs.Table.{table_of}
use mathlib.Core.Bool.{true}
use mathlib.Core.Path.{◌≡◌}
use Rattle.machine.proofs.times.are_fitting.Given as goal

abbrev pub invariant-loop-n : goal.invariant-loop-n
invariant-loop-n l = (l.n ≤ l.count) × (every_below l.n (in_range (table_of (jobs_of l.set)) l.times) ≡ true)
