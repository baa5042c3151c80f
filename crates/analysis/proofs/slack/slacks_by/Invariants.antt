-- `slacks_by` answers the slacks of an accepted set. The loop's invariant: those of the first i jobs stand in the array. Assumes nothing.
use Prim.Native.Nat.{◌≤◌}
use Rattle.analysis.proofs.Slacks.{Slacked}
use Rattle.jobs.specs.Jobs.{jobs_of}
use Rattle.jobs.specs.Limits.{max_jobs}
use Rattle.analysis.proofs.slack.slacks_by.Given as goal

abbrev pub invariant-loop-i : goal.invariant-loop-i
invariant-loop-i l = (l.count ≤ max_jobs) × Slacked (jobs_of l.set) l.i l.slacks
