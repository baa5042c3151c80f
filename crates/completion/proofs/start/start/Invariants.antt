-- `start` answers `itr_start`. The loop's invariant: the bounds of the first i jobs stand in the array. Assumes nothing.
use Rattle.completion.proofs.Counting.{lent_by}
use Rattle.theory.proofs.Ruled.{Ruled}
use Rattle.completion.proofs.start.start.Given as goal

abbrev pub invariant-loop-i : goal.invariant-loop-i
invariant-loop-i l = Ruled (lent_by l.table) (λ k. 0) l.i l.last l.bound l.bounds
