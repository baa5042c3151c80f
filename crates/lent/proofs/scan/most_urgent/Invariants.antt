-- `most_urgent` meets its contract. The loop's invariant: the scan is of the first i records. Assumes nothing.
use Prim.Native.Nat.{◌≤◌}
use mathlib.Core.Path.{◌≡◌}
use lib.ListN.{length}
use Rattle.machine.proofs.Scanned.{scanned}
use Rattle.lent.proofs.Scanning.{figures_of}
use Rattle.lent.proofs.scan.most_urgent.Given as goal

abbrev pub invariant-loop-i : goal.invariant-loop-i
invariant-loop-i l = (l.i ≤ length l.jobs) × (figures_of l.scan ≡ scanned l.jobs l.times l.state l.i)
