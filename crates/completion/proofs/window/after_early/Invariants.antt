-- `after_early` answers up to where the jobs are released in time. The loop's invariant: those from place i on are not. Assumes nothing.
use Prim.Native.Nat.{◌≤◌}
use Rattle.theory.proofs.ChainWindow.{Late, releases_in}
use Rattle.completion.proofs.window.after_early.Given as goal

abbrev pub invariant-loop-i : goal.invariant-loop-i
invariant-loop-i l = (l.first ≤ l.i) × (l.i ≤ l.end) × Late (releases_in l.table.columns) l.to l.i l.end
