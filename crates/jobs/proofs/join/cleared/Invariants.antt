-- `cleared` answers the set of the same jobs. The loop's invariant: the copy is the set of the first n. Assumes nothing.
use Prim.Native.Nat.{◌≤◌}
use Rattle.jobs.specs.Jobs.{jobs_of, set_of}
use lib.ListN.{take}
use mathlib.Core.Path.{◌≡◌}
use Rattle.jobs.proofs.join.cleared.Given as goal

abbrev pub invariant-loop-n : goal.invariant-loop-n
invariant-loop-n l = (l.n ≤ l.set.count) × (l.copy ≡ set_of (take l.n (jobs_of l.set)))
