-- `rows_fit` meets its contract. The loop's invariant: the answer is that of the rows still to come, of which how many there are falls. Assumes nothing.
use Prim.Native.Nat.{◌≤◌}
use Rattle.legality.proofs.Rows.{Rising}
use Rattle.recorders.proofs.Priorities.{rest_fits}
use Rattle.recording.specs.Reading.{rows_of}
use lib.ListN.{drop}
use mathlib.Core.Path.{◌≡◌}
use Rattle.recorders.proofs.priority.rows_fit.Given as goal

abbrev pub invariant-loop-n : goal.invariant-loop-n
invariant-loop-n l =
    (l.n ≤ l.rows) × Rising l.gap (drop l.n (rows_of l.recording)) × (rest_fits l.waiting l.count (rows_of l.recording) 0 0 ≡ rest_fits l.waiting l.count (rows_of l.recording) l.gap l.n)
