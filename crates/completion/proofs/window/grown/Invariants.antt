-- `grown` takes in all jobs before the window that overlap. The loop's invariant: the window from place lo on is swept. Assumes nothing.
use Rattle.theory.proofs.ChainWindow.{SweptIn}
use Rattle.completion.proofs.window.grown.Given as goal

abbrev pub invariant-loop-p : goal.invariant-loop-p
invariant-loop-p l = SweptIn l.table.columns l.bound l.target l.from l.first l.p l.hi l.edge l.largest
