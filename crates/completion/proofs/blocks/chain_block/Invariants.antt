-- `chain_block` answers `blocks_on`. The loop's invariant: no job before place i is of the chain. Assumes nothing.
use Prim.Native.Nat.{◌-◌}
use Rattle.completion.proofs.Counting.{lent_by}
use Rattle.theory.proofs.Scans.{Sought}
use Rattle.completion.proofs.blocks.chain_block.Given as goal

abbrev pub invariant-loop-i : goal.invariant-loop-i
invariant-loop-i l = Sought (lent_by l.table) l.chain l.i

abbrev pub decreases-loop-i : goal.decreases-loop-i
decreases-loop-i l = l.table.count - l.i
