-- A trace read as spans: the span that holds a tick is that of the job that ran in it. Assumes nothing.
--   UpTo   each span begins before its end, which is not beyond n
use Prim.Native.Nat.{ℕ, zero, suc, ◌≤◌, ◌<◌}
use mathlib.Core.Path.{◌≡◌, refl, sym, ap, ◌∙◌}
use mathlib.Core.Bool.{◌&&◌}
use mathlib.Core.List.{List, [], ◌∷◌}
use native.Mathlib.Omega.{arith}
use lib.Dec.{eqb}
use borrow.Author.Tests.{eqb-true, le-leb, lt-leb, lt-ltb, le-ltb}
use Rattle.laws.proofs.Tests.{by_test, by_order, by_last, and_left, and_right}
use Rattle.theory.specs.Table.{Table}
use Rattle.theory.specs.Runs.{Entry, idle, runs}
use Rattle.machine.specs.declared.trace.Span.{Span}
use Rattle.machine.specs.Runs.{entry, noted, spans}
use Rattle.machine.proofs.Spans.{extended}
use Rattle.machine.specs.Claims.{span_entry}

abbrev UpTo : List Span → ℕ → Type 0
UpTo [] n = Unit {0}
UpTo (s ∷ ss) n = (s.from ≤ s.to) × (s.to ≤ n) × UpTo ss n

later : (ss : List Span) (n : ℕ) → UpTo ss n → UpTo ss (suc n)
later [] n h = tt
later (s ∷ ss) n h = (h.0, omega (arith, h.1), later ss n h.2)

-- one span more
inside : (s : Span) (ss : List Span) (i : ℕ) → s.from ≤ i → i < s.to → span_entry (s ∷ ss) i ≡ runs s.at
unfolding span_entry
inside s ss i a b = rw (le-leb s.from i a, lt-ltb i s.to b)

before : (s : Span) (ss : List Span) (i : ℕ) → i < s.from → span_entry (s ∷ ss) i ≡ span_entry ss i
unfolding span_entry
before s ss i a = rw (lt-leb s.from i a)

beyond : (s : Span) (ss : List Span) (i : ℕ) → s.from ≤ i → s.to ≤ i → span_entry (s ∷ ss) i ≡ span_entry ss i
unfolding span_entry
beyond s ss i a b = rw (le-leb s.from i a, le-ltb i s.to b)

none_after : (ss : List Span) (n : ℕ) → UpTo ss n → span_entry ss n ≡ idle
none_after [] n h = unfold span_entry in refl
none_after (s ∷ ss) n h = beyond s ss n (omega (arith, h.0, h.1)) h.1 ∙ none_after ss n h.2

-- a span whose end moves on by a tick
lengthened_same : (s : Span) (ss : List Span) (n i : ℕ) → s.to ≡ n → i < n → span_entry (record { at = s.at; from = s.from; to = suc n } ∷ ss) i ≡ span_entry (s ∷ ss) i
lengthened_same s ss n i e l =
    by_order s.from i
    (λ a. inside (record { at = s.at; from = s.from; to = suc n }) ss i a (omega arith) ∙ sym (inside s ss i a (omega arith)))
    (λ a. before (record { at = s.at; from = s.from; to = suc n }) ss i a ∙ sym (before s ss i a))

-- a trace of n ticks gives back each of them
record Back (ss : List Span) (n : ℕ) (ran : ℕ → Entry) : Type 0 where
  pub up_to : UpTo ss n
  pub each : (i : ℕ) → i < n → span_entry ss i ≡ ran i

module _ (n : ℕ) (ran : ℕ → Entry) where
  back_idle : (ss : List Span) → Back ss n ran → ran n ≡ idle → Back ss (suc n) ran
  back_idle ss b e =
      record {
        up_to = later ss n b.up_to;
        each = λ i l. by_last i n l (λ q. rw q (none_after ss n b.up_to ∙ sym e)) (λ m. b.each i m);
      }

  back_new : (ss : List Span) (u : ℕ) → Back ss n ran → ran n ≡ runs u → Back (record { at = u; from = n; to = suc n } ∷ ss) (suc n) ran
  back_new ss u b e =
      let new : Span = record { at = u; from = n; to = suc n } in
      record {
        up_to = (omega arith, omega arith, later ss n b.up_to);
        each = λ i l. by_last i n l (λ q. rw q (inside new ss n (omega arith) (omega arith) ∙ sym e)) (λ m. before new ss i m ∙ b.each i m);
      }

  back_on : (s : Span) (ss : List Span) (u : ℕ) → Back (s ∷ ss) n ran → ran n ≡ runs u → s.at ≡ u → s.to ≡ n → Back (record { at = s.at; from = s.from; to = suc n } ∷ ss) (suc n) ran
  back_on s ss u b e a t =
      let long : Span = record { at = s.at; from = s.from; to = suc n } in
      record {
        up_to = (omega (arith, b.up_to.0), omega arith, later ss n b.up_to.2);
        each = λ i l.
            by_last i n l
            (λ q. rw q (inside long ss n (omega (arith, b.up_to.0)) (omega arith) ∙ ap runs a ∙ sym e))
            (λ m. lengthened_same s ss n i t m ∙ b.each i m);
      }

  back_extended : (ss : List Span) (u : ℕ) → Back ss n ran → ran n ≡ runs u → Back (extended ss u n) (suc n) ran
  unfolding noted
  back_extended [] u b e = back_new [] u b e
  back_extended (s ∷ ss) u b e =
      by_test (eqb s.at u && eqb s.to n)
      (λ h. rw h (back_on s ss u b e (eqb-true _ _ (and_left (eqb s.at u) (eqb s.to n) h)) (eqb-true _ _ (and_right (eqb s.at u) (eqb s.to n) h))))
      (λ h. rw h (back_new (s ∷ ss) u b e))

  back_noted : (ss : List Span) (x : Entry) → Back ss n ran → ran n ≡ x → Back (noted ss n x) (suc n) ran
  unfolding noted
  back_noted ss idle b e = back_idle ss b e
  back_noted ss (runs u) b e = back_extended ss u b e

module _ (t : Table) (times : List ℕ) where
  back : (n : ℕ) → Back (spans t times n) n (entry t times)
  unfolding spans
  back zero = record { up_to = tt; each = λ i l. absurd (omega arith) }
  back (suc n) = back_noted n (entry t times) (spans t times n) (entry t times n) (back n) refl

  pub spans_give_back : (n i : ℕ) → i < n → span_entry (spans t times n) i ≡ entry t times i
  spans_give_back n i l = (back n).each i l
