-- `sweep_round` answers the theory's. The loop's invariant: the bounds of the first j jobs stand in the array, the first place of the last job's chain is at
-- hand, and what a sweep is lent is ready. Assumes nothing.
use Prim.Native.Nat.{◌≤◌}
use Rattle.completion.proofs.Counting.{lent_by}
use Rattle.theory.proofs.OwnChains.{Heading}
use Rattle.theory.proofs.Pairs.{round_at}
use Rattle.theory.proofs.Prior.{prior}
use Rattle.theory.proofs.Refilling.{Refilled}
use Rattle.theory.proofs.SweptPairs.{Ready}
use mathlib.Core.Path.{◌≡◌}
use Rattle.completion.proofs.round.sweep_round.Given as goal

abbrev pub invariant-loop-j : goal.invariant-loop-j
invariant-loop-j l =
    (l.j ≤ l.table.count)
    × Refilled l.table.count (round_at (lent_by l.table) l.bound) l.j l.next
    × (l.last ≡ prior (lent_by l.table).chain l.j)
    × Heading (lent_by l.table).chain l.own l.j
    × Ready l.table.count l.table.columns l.carried.released l.carried.delay
