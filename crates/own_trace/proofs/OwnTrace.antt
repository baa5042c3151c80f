-- The machine's trace shows a complete run: its rows show the machine's entries up to their end, and from there on the machine does no work.
-- Assumes the limits of the machine's Course, and a time by which all jobs are complete.
use Prim.Native.Nat.{ℕ, zero, suc, ◌≤◌, ◌<◌}
use mathlib.Core.Path.{◌≡◌, refl, sym, ap, ◌∙◌}
use mathlib.Core.Bool.{true}
use mathlib.Core.List.{List}
use native.Mathlib.Omega.{arith}
use Rattle.laws.specs.Words.{number_at, tabulate}
use Rattle.laws.proofs.Every.{every_at, every_all}
use Rattle.laws.proofs.Tabulate.{tabulate_ext}
use Rattle.jobs.specs.Limits.{max_jobs}
use Rattle.theory.specs.Table.{Table}
use Rattle.theory.specs.Runs.{Entry, work, is_run}
use Rattle.theory.proofs.Legal.{entry_at, complete_eq, eq_complete}
use Rattle.machine.specs.Ticks.{all_complete}
use Rattle.machine.specs.Runs.{after, entry, spans}
use Rattle.machine.proofs.Legality.{run-entry, work_is}
use Rattle.machine.proofs.Reading.{spans_give_back}
use Rattle.machine.proofs.SpanOrder.{spans_ordered}
use Rattle.machine.proofs.SpanTimes.{spans-ended}
use Rattle.recording.specs.declared.row.Row.{Row}
use Rattle.legality.specs.Recorded.{row_entry, end_of, recorded}
use Rattle.legality.specs.Legality.{is_complete_run}
use Rattle.own_trace.specs.Claims.{rows_traced}
use Rattle.legality.proofs.Rows.{Rising, order_rising, recorded-entry}
use Rattle.legality.proofs.Work.{work_all, done_le_end}
use Rattle.legality.proofs.Deciding.{complete_iff}
use Rattle.own_trace.proofs.TracedRows.{traced_order, traced-entry, traced-end}

-- runs with the same entries before n have the same work at n
work-same : (a b : List Entry) (u n : ℕ) → ((i : ℕ) → i < n → entry_at a i ≡ entry_at b i) → work a n u ≡ work b n u
unfolding work
work-same a b u zero h = refl
work-same a b u (suc n) h = rw (work-same a b u n (λ i l. h i (omega arith)), h n (omega arith)) refl

module _ (t : Table) (times : List ℕ) (R : ℕ) (few : t.count ≤ max_jobs) (released : (u : ℕ) → u < t.count → t.earliest u ≤ R) (n : ℕ) where
  abbrev rows : List Row
  rows = rows_traced (spans t times n)

  rising : Rising 0 rows
  rising = order_rising rows (traced_order (spans t times n) (spans_ordered t times n))

  shows : (i : ℕ) → i < n → row_entry rows i ≡ entry t times i
  shows i l = traced-entry (spans t times n) (spans_ordered t times n) i ∙ spans_give_back t times n i l

  ended : end_of rows ≤ n
  ended = traced-end n (spans t times n) (spans-ended t times n)

  recorded-traced : recorded rows ≡ tabulate 0 (end_of rows) (entry t times)
  unfolding recorded
  recorded-traced = tabulate_ext 0 (end_of rows) (row_entry rows) (entry t times) (λ k a b. shows k (omega (arith, ended)))

  -- the work that is recorded is that of the state after n ticks
  work-traced : (u : ℕ) → work (recorded rows) (end_of rows) u ≡ number_at (after t times n).work u
  work-traced u =
      let within = done_le_end u 0 rows rising in
      work_all rows rising u (end_of rows) within
      ∙ sym (work_all rows rising u n (omega (arith, within, ended)))
      ∙ work-same (recorded rows) (tabulate 0 n (entry t times)) u n
      (λ i l. recorded-entry rows rising i ∙ shows i l ∙ sym (run-entry t times R few released n i l))
      ∙ work_is t times R few released n n u (omega arith)

  pub traced-complete : is_run t t.earliest times (tabulate 0 (end_of rows) (entry t times)) ≡ true
      → all_complete times (after t times n).work t.count ≡ true → is_complete_run t t.earliest times rows ≡ true
  traced-complete is all =
      (complete_iff t t.earliest times rows).1 (
        ap (is_run t t.earliest times) recorded-traced ∙ is,
        every_all _ t.count (λ u l.
            let finished = complete_eq times (number_at (after t times n).work) u (every_at _ t.count u l all) in
            eq_complete times (work (recorded rows) (end_of rows)) u (work-traced u ∙ finished)),
      )
