-- `sweep_chains` answers the interference on each pair. The loop's invariant: the shares of the chains before place i are added up. The measure is what
-- is left of the places. Assumes nothing.
use Prim.Native.Nat.{◌-◌}
use Rattle.theory.proofs.PairDelays.{Delaying}
use Rattle.completion.proofs.sweep.sweep_chains.Given as goal

abbrev pub invariant-loop-i : goal.invariant-loop-i
invariant-loop-i l = Delaying l.table.count l.table.columns l.bound l.own l.j l.i l.carried.released l.carried.delay

abbrev pub decreases-loop-i : goal.decreases-loop-i
decreases-loop-i l = l.table.count - l.i
