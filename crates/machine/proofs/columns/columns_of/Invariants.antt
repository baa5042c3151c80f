-- `columns_of` meets its contract. The loop's invariant: the columns are filled up to place n. Assumes nothing.
use Prim.Native.Nat.{◌≤◌}
use Rattle.jobs.specs.Jobs.{jobs_of}
use Rattle.jobs.specs.Limits.{max_jobs}
use Rattle.machine.proofs.Figures.{Filled}
use Rattle.machine.proofs.columns.columns_of.Given as goal

abbrev pub invariant-loop-n : goal.invariant-loop-n
invariant-loop-n l = (l.count ≤ max_jobs) × Filled (jobs_of l.set) l.n l.last l.before l.columns
