-- `lowest_from` answers `lowest`. The loop's invariant: it is the lowest so far. Assumes nothing.
use Prim.Native.Nat.{◌-◌}
use Rattle.completion.proofs.Counting.{lent_by}
use Rattle.theory.specs.Bounds.{lowest}
use mathlib.Core.Path.{◌≡◌}
use Rattle.completion.proofs.first.lowest_from.Given as goal

abbrev pub invariant-loop-i : goal.invariant-loop-i
invariant-loop-i l = l.low ≡ lowest (lent_by l.table) l.k (l.i - 1)
