-- `sweep` raises the figure of each pair by the share of the jobs before hi. The loop's invariant: the pairs from k on are behind it, and the window ends
-- at hi. Assumes nothing.
use Rattle.theory.proofs.PairShares.{Sweeping}
use mathlib.Core.Path.{◌≡◌}
use Rattle.completion.proofs.sweep.sweep.Given as goal

abbrev pub invariant-loop-k : goal.invariant-loop-k
invariant-loop-k l =
    (l.window.hi ≡ l.hi) × Sweeping l.table.columns l.bound l.own l.j l.first l.hi l.initial.delay l.k l.low l.window.lo l.window.edge l.window.largest l.delay
