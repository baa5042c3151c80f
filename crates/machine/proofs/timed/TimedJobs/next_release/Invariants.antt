-- `next_release` answers `next_release`. The loop's invariant: the next release of the first n jobs is known. Assumes nothing.
use Prim.Native.Nat.{◌≤◌}
use Rattle.machine.specs.Ticks.{last_time}
use Rattle.theory.proofs.Columns.{seen}
use Rattle.theory.proofs.NextRelease.{next_release}
use lib.ListN.{length}
use mathlib.Core.Path.{◌≡◌}
use Rattle.machine.proofs.timed.TimedJobs.next_release.Given as goal

abbrev pub invariant-loop-n : goal.invariant-loop-n
invariant-loop-n l = (l.n ≤ length l.self.times.now) × (l.next ≡ next_release last_time (seen l.self.columns.now).earliest l.time l.n)
