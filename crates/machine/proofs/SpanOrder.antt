-- The spans of a trace, the latest first, are of jobs of the table and in order of time: each begins before its end, and not before the end of the one
-- before it; where both are of one job, there is time between them. Assumes nothing.
--   Ordered   the order of spans
--   Within    each span is of a job at one of the first n places
use Prim.Native.Nat.{ℕ, zero, suc, ◌≤◌, ◌<◌}
use mathlib.Core.Path.{◌≡◌, refl}
use mathlib.Core.Bool.{false, ◌&&◌}
use mathlib.Core.List.{List, [], ◌∷◌}
use native.Mathlib.Omega.{arith}
use lib.Dec.{eqb}
use borrow.Author.Tests.{eq-eqb}
use Rattle.laws.proofs.Tests.{by_test, by_equal, both_ways, and_both}
use Rattle.theory.specs.Table.{Table}
use Rattle.theory.specs.Runs.{Entry, idle, runs}
use Rattle.machine.specs.declared.trace.Span.{Span}
use Rattle.machine.specs.Runs.{after, entry, noted, spans}
use Rattle.machine.proofs.Ticking.{pick_chosen}
use Rattle.machine.proofs.SpanTimes.{EndedBy, spans-ended}

-- a span of the job at u that begins at `from` comes behind these
abbrev pub Behind : ℕ → ℕ → List Span → Type 0
Behind u from [] = Unit {0}
Behind u from (s ∷ ss) = (s.to ≤ from) × (s.at ≡ u → s.to < from)

abbrev pub Ordered : List Span → Type 0
Ordered [] = Unit {0}
Ordered (s ∷ ss) = (s.from < s.to) × Behind s.at s.from ss × Ordered ss

abbrev pub Within : ℕ → List Span → Type 0
Within n [] = Unit {0}
Within n (s ∷ ss) = (s.at < n) × Within n ss

-- a span that does not go on ends before, where it is of the same job
apart : (s : Span) (u n : ℕ) → eqb s.at u && eqb s.to n ≡ false → s.to ≤ n → s.at ≡ u → s.to < n
apart s u n f l e = by_equal s.to n (λ q. absurd (both_ways (and_both (eqb s.at u) (eqb s.to n) (eq-eqb s.at u e) (eq-eqb s.to n q)) f)) (λ ne. omega arith)

noted_ordered : (n : ℕ) (ss : List Span) (e : Entry) → EndedBy n ss → Ordered ss → Ordered (noted ss n e)
unfolding noted
noted_ordered n ss idle h o = o
noted_ordered n [] (runs u) h o = (omega arith, tt, tt)
noted_ordered n (s ∷ ss) (runs u) h o =
    by_test (eqb s.at u && eqb s.to n)
    (λ t. rw t (omega (arith, o.0, h.1), o.1, o.2))
    (λ t. rw t (omega arith, (h.1, apart s u n t h.1), o))

noted-within : (m n : ℕ) (ss : List Span) (e : Entry) → ((u : ℕ) → e ≡ runs u → u < m) → Within m ss → Within m (noted ss n e)
unfolding noted
noted-within m n ss idle l w = w
noted-within m n [] (runs u) l w = (l u refl, tt)
noted-within m n (s ∷ ss) (runs u) l w = by_test (eqb s.at u && eqb s.to n) (λ t. rw t w) (λ t. rw t (l u refl, w))

module _ (t : Table) (times : List ℕ) where
  pub spans_ordered : (n : ℕ) → Ordered (spans t times n)
  unfolding spans
  spans_ordered zero = tt
  spans_ordered (suc n) = noted_ordered n (spans t times n) (entry t times n) (spans-ended t times n) (spans_ordered n)

  pub spans-within : (n : ℕ) → Within t.count (spans t times n)
  unfolding spans entry
  spans-within zero = tt
  spans-within (suc n) = noted-within t.count n (spans t times n) (entry t times n) (λ u e. (pick_chosen t times (after t times n) u e).inside) (spans-within n)
