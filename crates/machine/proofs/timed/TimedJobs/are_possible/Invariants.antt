-- `are_possible` meets its contract. The loop's invariant: the work and completions of the first n jobs are possible. Assumes nothing.
use Prim.Native.Nat.{◌≤◌}
use Rattle.laws.specs.Words.{every_below}
use lib.ListN.{length}
use Rattle.machine.specs.Ticks.{possible}
use Rattle.theory.proofs.Columns.{seen}
use mathlib.Core.Bool.{true}
use mathlib.Core.Path.{◌≡◌}
use Rattle.machine.proofs.timed.TimedJobs.are_possible.Given as goal

abbrev pub invariant-loop-n : goal.invariant-loop-n
invariant-loop-n l = (l.n ≤ length l.self.times.now) × (every_below l.n (possible (seen l.self.columns.now) l.self.times.now l.state) ≡ true)
