-- The spans of a trace as rows: they are in order, as many, of the same jobs and times, show the same entries, and end where the latest span does.
-- Assumes spans in order.
--   Told   a row is of one of the first n jobs, and begins and ends by a time
use Prim.Native.Nat.{ℕ, zero, suc, ◌≤◌, ◌<◌}
use mathlib.Core.Path.{◌≡◌, refl, ◌∙◌}
use mathlib.Core.Bool.{true, ◌&&◌}
use mathlib.Core.List.{List, [], ◌∷◌, ◌++◌}
use native.Mathlib.Omega.{arith}
use lib.Dec.{leb, ltb, eqb}
use lib.ListN.{length, get_or, length-append}
use borrow.Author.Tests.{leb-true, le-leb, le-ltb, eqb-true}
use Rattle.laws.proofs.Tests.{by_test, never_true, and_left, and_right, and_parts}
use Rattle.laws.specs.Words.{last_of}
use Rattle.laws.proofs.Lists.{last_snoc}
use Rattle.theory.specs.Runs.{idle}
use Rattle.machine.specs.declared.trace.Span.{Span}
use Rattle.machine.specs.Claims.{span_entry}
use Rattle.machine.proofs.SpanOrder.{Behind, Ordered, Within}
use Rattle.machine.proofs.SpanTimes.{EndedBy}
use Rattle.recording.specs.declared.row.Row.{Row}
use Rattle.recording.specs.Rows.{row, no_row, follows, in_order}
use Rattle.recording.proofs.Order.{order_snoc}
use Rattle.legality.specs.Recorded.{row_entry, end_from, end_of}
use Rattle.own_trace.specs.Claims.{rows_traced}
use Rattle.legality.proofs.Rows.{idle_runs}

abbrev row_of : Span → Row
row_of s = row s.at s.from s.to

-- ---- order
-- a span comes behind another as a row follows
span_follows : (q s : Span) (ss : List Span) → Behind s.at s.from (q ∷ ss) → follows (row_of q) (row_of s) ≡ true
unfolding follows
span_follows q s ss b = rw (le-leb q.to s.from b.0, never_true _ meets) refl
  where
    meets : eqb q.to s.from && eqb q.at s.at ≡ true → ⊥
    meets e =
        let next : q.to ≡ s.from = eqb-true q.to s.from (and_left (eqb q.to s.from) (eqb q.at s.at) e) in
        let same : q.at ≡ s.at = eqb-true q.at s.at (and_right (eqb q.to s.from) (eqb q.at s.at) e) in
        omega (arith, b.1 same)

-- the last of the rows is that of the latest span
traced-last : (q : Span) (ss : List Span) → last_of no_row (rows_traced (q ∷ ss)) ≡ row_of q
unfolding rows_traced
traced-last q ss = last_snoc (rows_traced ss) no_row (row_of q)

traced-behind : (s : Span) (ss : List Span) → Behind s.at s.from ss → 0 < length (rows_traced ss) → follows (last_of no_row (rows_traced ss)) (row_of s) ≡ true
unfolding rows_traced
traced-behind s [] b some = absurd (omega arith)
traced-behind s (q ∷ ss) b some = rw (traced-last q ss) (span_follows q s ss b)

pub traced_order : (ss : List Span) → Ordered ss → in_order (rows_traced ss) ≡ true
unfolding rows_traced
traced_order [] o = unfold in_order in refl
traced_order (s ∷ ss) o = order_snoc (rows_traced ss) (row_of s) (traced_order ss o.2) o.0 (traced-behind s ss o.1)

-- ---- entries
module _ (r : Row) (n : ℕ) where
  -- where the rows before show nothing, and where the last does not
  entry-last : (rs : List Row) → row_entry rs n ≡ idle → row_entry (rs ++ (r ∷ [])) n ≡ row_entry (r ∷ []) n
  unfolding row_entry
  entry-last [] h = refl
  entry-last (p ∷ rs) h =
      by_test (leb p.from n && ltb n p.to)
      (λ e. absurd (idle_runs (rw e at h) refl))
      (λ e. rw e (entry-last rs (rw e at h)))

  entry-others : (rs : List Row) → row_entry (r ∷ []) n ≡ idle → row_entry (rs ++ (r ∷ [])) n ≡ row_entry rs n
  unfolding row_entry
  entry-others [] h = h
  entry-others (p ∷ rs) h = by_test (leb p.from n && ltb n p.to) (λ e. rw e refl) (λ e. rw e (entry-others rs h))

-- spans that another comes behind show nothing from its begin on
behind_idle : (u from n : ℕ) (ss : List Span) → Ordered ss → Behind u from ss → from ≤ n → span_entry ss n ≡ idle
unfolding span_entry
behind_idle u from n [] o b l = refl
behind_idle u from n (s ∷ ss) o b l =
    rw (le-leb s.from n (omega (arith, o.0, b.0)), le-ltb n s.to (omega (arith, b.0)))
    (behind_idle s.at s.from n ss o.2 o.1 (omega (arith, o.0, b.0)))

pub traced-entry : (ss : List Span) → Ordered ss → (n : ℕ) → row_entry (rows_traced ss) n ≡ span_entry ss n
unfolding rows_traced row_entry span_entry
traced-entry [] o n = refl
traced-entry (s ∷ ss) o n =
    let rest : row_entry (rows_traced ss) n ≡ span_entry ss n = traced-entry ss o.2 n in
    by_test (leb s.from n && ltb n s.to)
    (λ e.
    let begun = leb-true s.from n (and_parts e).0 in
    entry-last (row_of s) n (rows_traced ss) (rest ∙ behind_idle s.at s.from n ss o.2 o.1 begun) ∙ rw e refl)
    (λ e. entry-others (row_of s) n (rows_traced ss) (rw e refl) ∙ rest ∙ rw e refl)

-- ---- end and length
end_snoc : (r : Row) (time : ℕ) (rs : List Row) → end_from time (rs ++ (r ∷ [])) ≡ r.to
unfolding end_from
end_snoc r time [] = refl
end_snoc r time (p ∷ rs) = end_snoc r p.to rs

pub traced-end : (n : ℕ) (ss : List Span) → EndedBy n ss → end_of (rows_traced ss) ≤ n
unfolding rows_traced
traced-end n [] h = unfold end_from in omega arith
traced-end n (s ∷ ss) h = rw (end_snoc (row_of s) 0 (rows_traced ss)) h.1

pub traced-length : (ss : List Span) → length (rows_traced ss) ≡ length ss
unfolding rows_traced
traced-length [] = refl
traced-length (s ∷ ss) = length-append (rows_traced ss) (row_of s ∷ []) ∙ omega (arith, traced-length ss)

-- ---- jobs and times
pub record Told (n time : ℕ) (r : Row) : Type 0 where
  pub at : r.at < n
  pub from : r.from ≤ time
  pub to : r.to ≤ time

module _ (n time : ℕ) where
  told_snoc : (rs : List Row) (r : Row) → ((i : ℕ) → i < length rs → Told n time (get_or rs i no_row)) → Told n time r
      → (i : ℕ) → i < length (rs ++ (r ∷ [])) → Told n time (get_or (rs ++ (r ∷ [])) i no_row)
  told_snoc [] r h told zero l = told
  told_snoc [] r h told (suc i) l = absurd (omega arith)
  told_snoc (q ∷ rs) r h told zero l = h 0 (omega arith)
  told_snoc (q ∷ rs) r h told (suc i) l = told_snoc rs r (λ k m. h (suc k) (omega arith)) told i (omega arith)

  pub traced_told : (ss : List Span) → Within n ss → EndedBy time ss → (i : ℕ) → i < length (rows_traced ss) → Told n time (get_or (rows_traced ss) i no_row)
  unfolding rows_traced
  traced_told [] w e = λ i l. absurd (omega arith)
  traced_told (s ∷ ss) w e =
      told_snoc (rows_traced ss) (row_of s) (traced_told ss w.1 e.2) (record { at = w.0; from = e.0; to = e.1 })
