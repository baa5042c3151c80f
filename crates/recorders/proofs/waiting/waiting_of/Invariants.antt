-- `waiting_of` meets its contract. The loop's invariant: the columns are filled up to place n, and what is kept is of the job before. Assumes nothing.
use Prim.Native.Nat.{◌≤◌}
use Rattle.jobs.specs.Jobs.{jobs_of}
use Rattle.recorders.proofs.Neighbours.{Kept, waiting}
use mathlib.Core.Path.{◌≡◌}
use Rattle.recorders.proofs.waiting.waiting_of.Given as goal

abbrev pub invariant-loop-n : goal.invariant-loop-n
invariant-loop-n l =
    (l.n ≤ l.count) × (l.waiting ≡ waiting (jobs_of l.set) l.course l.n) × Kept (jobs_of l.set) l.course l.n l.chain l.done
