-- No span of the first n ticks begins or ends after time n. Assumes nothing.
use Prim.Native.Nat.{ℕ, zero, suc, ◌≤◌}
use mathlib.Core.Bool.{◌&&◌}
use mathlib.Core.List.{List, [], ◌∷◌}
use native.Mathlib.Omega.{arith}
use lib.Dec.{eqb}
use Rattle.laws.proofs.Tests.{by_test}
use Rattle.theory.specs.Table.{Table}
use Rattle.theory.specs.Runs.{Entry, idle, runs}
use Rattle.machine.specs.declared.trace.Span.{Span}
use Rattle.machine.specs.Runs.{entry, noted, spans}

-- each span begins and ends by this time
abbrev pub EndedBy : ℕ → List Span → Type 0
EndedBy n [] = Unit {0}
EndedBy n (s ∷ ss) = (s.from ≤ n) × (s.to ≤ n) × EndedBy n ss

later : (n : ℕ) (ss : List Span) → EndedBy n ss → EndedBy (suc n) ss
later n [] h = tt
later n (s ∷ ss) h = (omega (arith, h.0), omega (arith, h.1), later n ss h.2)

noted-ended : (n : ℕ) (ss : List Span) (e : Entry) → EndedBy n ss → EndedBy (suc n) (noted ss n e)
unfolding noted
noted-ended n ss idle h = later n ss h
noted-ended n [] (runs u) h = (omega arith, omega arith, tt)
noted-ended n (s ∷ ss) (runs u) h =
    by_test (eqb s.at u && eqb s.to n)
    (λ t. rw t (omega (arith, h.0), omega arith, later n ss h.2))
    (λ t. rw t (omega arith, omega arith, later n (s ∷ ss) h))

pub spans-ended : (t : Table) (times : List ℕ) (n : ℕ) → EndedBy n (spans t times n)
unfolding spans
spans-ended t times zero = tt
spans-ended t times (suc n) = noted-ended n (spans t times n) (entry t times n) (spans-ended t times n)
