-- `largest_block` answers `largest_over`. The loop's invariant: the blocks up to place i are behind it. Assumes nothing.
use Rattle.theory.proofs.Columns.{lent}
use Rattle.theory.proofs.Stretches.{Blocked}
use Rattle.theory.proofs.Weights.{spanned}
use Rattle.completion.proofs.block.largest_block.Given as goal

abbrev pub invariant-loop-i : goal.invariant-loop-i
invariant-loop-i l =
    Blocked (lent l.end l.table.columns).urgency l.target.urgency (spanned l.table.columns l.bound l.target.from l.target.to) l.first l.end l.i l.block l.largest
