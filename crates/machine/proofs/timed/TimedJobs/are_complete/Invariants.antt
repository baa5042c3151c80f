-- `are_complete` meets its contract. The loop's invariant: the first n jobs are complete. Assumes nothing.
use Prim.Native.Nat.{◌≤◌}
use Rattle.laws.specs.Words.{every_below, number_at}
use Rattle.theory.specs.Runs.{complete}
use lib.ListN.{length}
use mathlib.Core.Bool.{true}
use mathlib.Core.Path.{◌≡◌}
use Rattle.machine.proofs.timed.TimedJobs.are_complete.Given as goal

abbrev pub invariant-loop-n : goal.invariant-loop-n
invariant-loop-n l = (l.n ≤ length l.self.times.now) × (every_below l.n (complete l.self.times.now (number_at l.state.work)) ≡ true)
