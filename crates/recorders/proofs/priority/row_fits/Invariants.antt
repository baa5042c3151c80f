-- `row_fits` meets its contract. The loop's invariant: the row holds up none of the first v jobs. Assumes nothing.
use Prim.Native.Nat.{◌≤◌}
use Rattle.legality.proofs.Judging.{row_fits_in}
use mathlib.Core.Bool.{true}
use mathlib.Core.Path.{◌≡◌}
use Rattle.recorders.proofs.priority.row_fits.Given as goal

abbrev pub invariant-loop-v : goal.invariant-loop-v
invariant-loop-v l = (l.v ≤ l.count) × (row_fits_in l.waiting l.v l.gap l.row ≡ true)
