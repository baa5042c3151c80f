-- `columns_of` answers columns that agree with the set's table, with the ends of the chains. The loop's invariant: the columns hold the figures of the first i jobs.
-- Assumes nothing.
use Prim.Native.Nat.{◌≤◌}
use Rattle.completion.proofs.Gathered.{Gathered}
use Rattle.jobs.specs.Jobs.{jobs_of}
use Rattle.jobs.specs.Limits.{max_jobs}
use Rattle.completion.proofs.columns.columns_of.Given as goal

abbrev pub invariant-loop-i : goal.invariant-loop-i
invariant-loop-i l = (l.count ≤ max_jobs) × Gathered (jobs_of l.set) l.i l.last l.ready l.first l.columns
