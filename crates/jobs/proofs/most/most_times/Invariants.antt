-- `most_times` answers `most_times`, padded. The loop's invariant: the array is filled up to place n.
-- Assumes nothing.
use Prim.Native.Nat.{◌≤◌}
use Rattle.jobs.proofs.MostTimes.{most_at}
use Rattle.jobs.specs.Limits.{max_jobs}
use Rattle.laws.specs.Words.{tabulate, padded}
use mathlib.Core.Path.{◌≡◌}
use Rattle.jobs.proofs.most.most_times.Given as goal

abbrev pub invariant-loop-n : goal.invariant-loop-n
invariant-loop-n l = (l.n ≤ l.count) × (l.times ≡ padded max_jobs 0 (tabulate 0 l.n (most_at l.set)))
