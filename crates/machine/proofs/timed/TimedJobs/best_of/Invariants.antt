-- `best_of` meets its contract. The loop's invariant: the best is that of the first n jobs. Assumes nothing.
use Prim.Native.Nat.{◌≤◌}
use lib.ListN.{length}
use Rattle.machine.specs.Ticks.{best_up_to}
use Rattle.theory.proofs.Columns.{seen}
use mathlib.Core.Path.{◌≡◌}
use Rattle.machine.proofs.timed.TimedJobs.best_of.Given as goal

abbrev pub invariant-loop-n : goal.invariant-loop-n
invariant-loop-n l = (l.n ≤ length l.self.times.now) × (l.best ≡ best_up_to (seen l.self.columns.now) l.self.times.now l.state l.n)
