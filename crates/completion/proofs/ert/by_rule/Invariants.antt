-- `by_rule` answers the ERT bounds of the lent table. The loop's invariant: the bounds of the first i jobs stand in the array. Assumes nothing.
use Rattle.completion.proofs.Counting.{lent_by}
use Rattle.theory.proofs.Ruled.{Ruled}
use Rattle.theory.specs.Bounds.{interference_at}
use Rattle.completion.proofs.ert.by_rule.Given as goal

abbrev pub invariant-loop-i : goal.invariant-loop-i
invariant-loop-i l = Ruled (lent_by l.table) (interference_at (lent_by l.table)) l.i l.last l.bound l.bounds
