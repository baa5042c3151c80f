-- `taken_block` answers `taken_block`. The loop's invariant: no block before the open one is taken. Assumes nothing.
use Rattle.completion.proofs.Counting.{lent_by}
use Rattle.theory.proofs.Scans.{Scanned}
use Rattle.theory.proofs.Weights.{spanned}
use Rattle.completion.proofs.taken.taken_block.Given as goal

abbrev pub invariant-loop-i : goal.invariant-loop-i
invariant-loop-i l =
    let t = lent_by l.table in
    Scanned t (t.chain l.first) l.target.urgency (spanned l.table.columns l.bound l.target.from l.target.to) l.first l.end l.i l.start l.sum
