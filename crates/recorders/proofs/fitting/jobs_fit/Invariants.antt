-- `jobs_fit` meets its contract. The loop's invariant: the first n jobs fit, and what is kept is of the job before.
-- Assumes nothing.
use Prim.Native.Nat.{◌≤◌}
use Rattle.jobs.specs.Jobs.{jobs_of}
use Rattle.laws.specs.Words.{every_below}
use Rattle.legality.proofs.Judging.{fits_in}
use Rattle.recorders.proofs.Neighbours.{Kept}
use mathlib.Core.Bool.{true}
use mathlib.Core.Path.{◌≡◌}
use Rattle.recorders.proofs.fitting.jobs_fit.Given as goal

abbrev pub invariant-loop-n : goal.invariant-loop-n
invariant-loop-n l =
    (l.n ≤ l.count) × (every_below l.n (fits_in (jobs_of l.set) l.course) ≡ true) × Kept (jobs_of l.set) l.course l.n l.chain l.done
