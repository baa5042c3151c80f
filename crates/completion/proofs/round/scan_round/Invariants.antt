-- `scan_round` answers the theory's. The loop's invariant: the bounds of the first j jobs stand in the array. Assumes nothing.
use Prim.Native.Nat.{◌≤◌}
use Rattle.completion.proofs.Counting.{lent_by}
use Rattle.theory.proofs.Pairs.{round_at}
use Rattle.theory.proofs.Refilling.{Refilled}
use Rattle.completion.proofs.round.scan_round.Given as goal

abbrev pub invariant-loop-j : goal.invariant-loop-j
invariant-loop-j l =
    (l.j ≤ l.table.count) × Refilled l.table.count (round_at (lent_by l.table) l.bound) l.j l.next
