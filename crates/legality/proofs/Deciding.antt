-- The tests of jobs and rows pass exactly if the search for releases and running times finds some, and exactly if there are some; and a recording
-- that is legal keeps every bound that holds of all runs. Assumes rising rows and a well-formed table, as rows in order and an accepted set have.
--   Fits   what is asked of a job
use Prim.Native.Nat.{ℕ, ◌≤◌, ◌<◌}
use mathlib.Core.Path.{◌≡◌, refl, sym, ap, subst, ◌∙◌}
use mathlib.Core.Bool.{true}
use mathlib.Core.List.{List}
use mathlib.Core.Logic.{◌↔◌}
use native.Mathlib.Omega.{arith}
use native.Mathlib.Nat.{zero-add}
use borrow.Author.Tests.{leb-true, le-leb}
use Rattle.laws.specs.Words.{number_at, every_below, tabulate}
use Rattle.laws.proofs.Tests.{by_order, and_parts, and_both, same_test}
use Rattle.laws.proofs.Every.{every_at, every_all}
use Rattle.laws.proofs.Tabulate.{length-tabulate, get_d_tabulate}
use Rattle.jobs.specs.declared.job.Job.{Job}
use Rattle.std.specs.Prelude.{Ok}
use Rattle.jobs.specs.Checks.{check_of}
use Rattle.jobs.proofs.Accepted.{accepted}
use Rattle.theory.specs.Table.{Table, table_of}
use Rattle.theory.specs.Runs.{Entry, idle, runs, work, complete, is_run, CompleteBy}
use Rattle.theory.proofs.WellFormed.{WellFormed}
use Rattle.theory.proofs.AcceptedSets.{accepted_well}
use Rattle.theory.proofs.Legal.{LegalEntry, Run, Ready, Times, Releases, complete_eq, eq_complete, run-to, run_from}
use Rattle.recording.specs.declared.row.Row.{Row}
use Rattle.recording.specs.Rows.{in_order}
use Rattle.legality.specs.Recorded.{row_entry, end_of, recorded}
use Rattle.legality.specs.Legality.{is_complete_run, legal, Legal}
use Rattle.legality.specs.Procedure.{total, begin, done, predecessor_done, release_of, ready_from, job_fits, rows_fit, recording_fits}
use Rattle.legality.proofs.Rows.{Rising, order_rising, idle_after, idle_runs, recorded-length, recorded-entry}
use Rattle.legality.proofs.Work.{work_all, work_less, done_le_end, entry-begin, entry_done, begin-entry}
use Rattle.legality.proofs.Stretches.{Waits, Suits, rows_suit, suit_rows}
use Rattle.legality.proofs.Readiness.{Totals, ready-to, ready_from_lem}
use Rattle.legality.proofs.Choices.{within_some, some_within_lem}

record Fits (t : Table) (rows : List Row) (u : ℕ) : Type 0 where
  low : t.least u ≤ total rows u
  high : total rows u ≤ t.most u
  early : t.earliest u ≤ begin rows u
  after : predecessor_done t rows u ≤ begin rows u

-- a complete run, by its parts
pub complete_iff : (t : Table) (release : ℕ → ℕ) (times : List ℕ) (rows : List Row) → (is_complete_run t release times rows ≡ true)
    ↔ ((is_run t release times (recorded rows) ≡ true) × (every_below t.count (complete times (work (recorded rows) (end_of rows))) ≡ true))
unfolding is_complete_run
complete_iff t release times rows = (λ h. and_parts h, λ p. and_both _ _ p.0 p.1)

module _ (t : Table) (rows : List Row) (u : ℕ) where
  -- a job is ready at its begin exactly if its predecessor is done by then
  ready_iff : (ready_from t rows u ≤ begin rows u) ↔ (predecessor_done t rows u ≤ begin rows u)
  unfolding ready_from release_of
  ready_iff = (λ l. omega arith, λ l. omega arith)

  job_iff : (job_fits t rows u ≡ true) ↔ Fits t rows u
  unfolding job_fits
  job_iff = (
    λ h.
        let all = and_parts h in
        let ranges = and_parts all.0 in
        let work = and_parts ranges.0 in
        record {
          low = leb-true (t.least u) (total rows u) work.0;
          high = leb-true (total rows u) (t.most u) work.1;
          early = leb-true (t.earliest u) (begin rows u) ranges.1;
          after = ready_iff.0 (leb-true (ready_from t rows u) (begin rows u) all.1);
        },
    λ f.
        rw (
          le-leb (t.least u) (total rows u) f.low,
          le-leb (total rows u) (t.most u) f.high,
          le-leb (t.earliest u) (begin rows u) f.early,
        )
        (le-leb (ready_from t rows u) (begin rows u) (ready_iff.1 f.after)),
  )

  -- a job is ready from its release and its predecessor's end
  since_release : (n : ℕ) → ready_from t rows u ≤ n → (release_of t rows u ≤ n) × (predecessor_done t rows u ≤ n)
  unfolding ready_from
  since_release n l = (omega arith, omega arith)

  release_since : (n : ℕ) → release_of t rows u ≤ n → predecessor_done t rows u ≤ n → ready_from t rows u ≤ n
  unfolding ready_from
  release_since n a b = omega arith

  -- the chosen release is no earlier than any that lets the job begin when it does
  release_chosen : (release : ℕ) → release ≤ t.latest u → release ≤ begin rows u → release ≤ release_of t rows u
  unfolding release_of
  release_chosen release a b = omega arith

  release_range : t.earliest u ≤ t.latest u → Fits t rows u
      → (t.earliest u ≤ release_of t rows u) × (release_of t rows u ≤ t.latest u) × (release_of t rows u ≤ begin rows u)
  unfolding release_of
  release_range a f = (omega (arith, f.early), omega arith, omega arith)

module _ {t : Table} (well : WellFormed t) (rows : List Row) (h : Rising 0 rows) where
  abbrev end : ℕ
  end = end_of rows

  abbrev run : List Entry
  run = recorded rows

  -- ---- what passes the tests is a complete run, with the totals as running times and the latest releases that let jobs begin when they do
  abbrev totals : List ℕ
  totals = tabulate 0 t.count (total rows)

  are_totals : Totals t rows totals
  are_totals u l = get_d_tabulate 0 t.count (total rows) 0 u l ∙ ap (total rows) (zero-add u)

  all_complete : every_below t.count (complete totals (work run end)) ≡ true
  all_complete =
      every_all _ t.count (λ u l.
      eq_complete totals (work run end) u (work_all rows h u end (done_le_end u 0 rows h) ∙ sym (are_totals u l)))

  abbrev releases : List ℕ
  releases = tabulate 0 t.count (release_of t rows)

  are_releases : (u : ℕ) → u < t.count → number_at releases u ≡ release_of t rows u
  are_releases u l = get_d_tabulate 0 t.count (release_of t rows) 0 u l ∙ ap (release_of t rows) (zero-add u)

  module _ (fits : (u : ℕ) → u < t.count → Fits t rows u) where
    times_fit_lem : Times t totals
    times_fit_lem =
        record {
          each = length-tabulate 0 t.count (total rows);
          low = λ u l. omega (arith, are_totals u l, (fits u l).low);
          high = λ u l. omega (arith, are_totals u l, (fits u l).high);
        }

    range_at : (u : ℕ) → u < t.count → (t.earliest u ≤ release_of t rows u) × (release_of t rows u ≤ t.latest u) × (release_of t rows u ≤ begin rows u)
    range_at u l = release_range t rows u (well.releases u l) (fits u l)

    releases_fit : Releases t (number_at releases)
    releases_fit =
        record {
          early = λ u l. omega (arith, are_releases u l, (range_at u l).0);
          late = λ u l. omega (arith, are_releases u l, (range_at u l).1);
        }

    waits_by : (n v : ℕ) → v < t.count → Ready t (number_at releases) totals run v n → Waits t rows n v
    waits_by n v l r =
        let w = ready_from_lem t rows h totals are_totals (number_at releases) v n l r in
        record { inside = l; since = release_since t rows v n (omega (arith, are_releases v l, w.0)) w.1; until = w.2 }

    legal_by : (n : ℕ) (e : Entry) → row_entry rows n ≡ e → Suits t rows n e → LegalEntry t (number_at releases) totals run n e
    legal_by n idle q s = λ v l r. s v (waits_by n v l r)
    legal_by n (runs u) q s =
        let from = entry-begin u 0 rows h n q in
        let to = entry_done u 0 rows h n q in
        let released : number_at releases u ≤ n = omega (arith, are_releases u s.0, (range_at u s.0).2) in (
          s.0,
          ready-to t rows h totals are_totals (number_at releases) u n s.0 released (omega (arith, (fits u s.0).after)) to,
          λ v l r. s.1 v (waits_by n v l r),
        )

    legal-run : rows_fit t rows 0 rows ≡ true → is_run t (number_at releases) totals run ≡ true
    legal-run e =
        run-to (record {
          releases = releases_fit;
          in_range = times_fit_lem;
          legal = λ n l.
              let suits = rows_suit t rows 0 rows h e n (omega arith) (omega (arith, recorded-length rows)) in
              rw (recorded-entry rows h n) (legal_by n (row_entry rows n) refl suits);
        })

  pub decided_legal : recording_fits t rows ≡ true → legal t rows ≡ true
  unfolding recording_fits legal
  decided_legal e =
      let all = and_parts e in
      let fits : (u : ℕ) → u < t.count → Fits t rows u = (λ u l. (job_iff t rows u).0 (every_at (job_fits t rows) t.count u l all.0)) in
      some_within_lem t.least t.most t.count _ (total rows)
      (λ u l. ((fits u l).low, (fits u l).high))
      (some_within_lem t.earliest t.latest t.count _ (release_of t rows)
      (λ u l. let r = range_at fits u l in (r.0, r.1))
      ((complete_iff t (number_at releases) totals rows).1 (legal-run fits all.1, all_complete)))

  -- ---- what the search finds is legal
  pub found_legal : legal t rows ≡ true → Legal t rows
  unfolding legal
  found_legal e =
      let times = within_some t.least t.most t.count _ e in
      let chosen = within_some t.earliest t.latest t.count _ times.1 in
      (number_at chosen.0, times.0, chosen.1)

  -- ---- what is legal passes the tests
  module _ (is_legal : Legal t rows) where
    abbrev release : ℕ → ℕ
    release = is_legal.0

    abbrev times : List ℕ
    times = is_legal.1

    parts : (is_run t release times run ≡ true) × (every_below t.count (complete times (work run end)) ≡ true)
    parts = (complete_iff t release times rows).0 is_legal.2

    is : Run t release times run
    is = run_from parts.0

    pub legal-totals : Totals t rows times
    legal-totals u l =
        sym (complete_eq times (work run end) u (every_at (complete times (work run end)) t.count u l parts.1))
        ∙ work_all rows h u end (done_le_end u 0 rows h)

    legal_at : (n : ℕ) (e : Entry) → row_entry rows n ≡ e → n < end → LegalEntry t release times run n e
    legal_at n e q l = subst (LegalEntry t release times run n) (recorded-entry rows h n ∙ q) (is.legal n (omega (arith, recorded-length rows)))

    -- at a job's begin it is ready
    begin-ready : (u : ℕ) → u < t.count → (release u ≤ begin rows u) × (predecessor_done t rows u ≤ begin rows u)
    begin-ready u l =
        let some : 0 < total rows u = omega (arith, well.positive u l, is.in_range.low u l, legal-totals u l) in
        let at : row_entry rows (begin rows u) ≡ runs u = begin-entry u 0 rows h some in
        by_order end (begin rows u)
        (λ late. absurd (idle_runs (idle_after 0 rows h (begin rows u) late) at))
        (λ inside.
        let r = ready_from_lem t rows h times legal-totals release u (begin rows u) l (legal_at (begin rows u) (runs u) at inside).1 in
        (r.0, r.1))

    fits_by : (u : ℕ) → u < t.count → Fits t rows u
    fits_by u l =
        let begun = begin-ready u l in
        record {
          low = omega (arith, is.in_range.low u l, legal-totals u l);
          high = omega (arith, is.in_range.high u l, legal-totals u l);
          early = omega (arith, is.releases.early u l, begun.0);
          after = begun.1;
        }

    ready_by : (n v : ℕ) → Waits t rows n v → Ready t release times run v n
    ready_by n v w =
        let since = since_release t rows v n w.since in
        let chosen = release_chosen t rows v (release v) (is.releases.late v w.inside) (begin-ready v w.inside).0 in
        ready-to t rows h times legal-totals release v n w.inside (omega arith) since.1 w.until

    suits_by : (n : ℕ) (e : Entry) → LegalEntry t release times run n e → Suits t rows n e
    suits_by n idle s = λ v w. s v w.inside (ready_by n v w)
    suits_by n (runs u) s = (s.0, λ v w. s.2 v w.inside (ready_by n v w))

    pub legal_decided : recording_fits t rows ≡ true
    unfolding recording_fits
    legal_decided =
        and_both _ _
        (every_all (job_fits t rows) t.count (λ u l. (job_iff t rows u).1 (fits_by u l)))
        (suit_rows t rows 0 rows h (λ n a l. suits_by n (row_entry rows n) (legal_at n (row_entry rows n) refl l)))

    -- ---- a bound that holds of all runs
    pub legal_keeps : (u bound : ℕ) → u < t.count → CompleteBy t u bound → done rows u ≤ bound
    legal_keeps u bound l holds =
        by_order (done rows u) bound
        (λ kept. kept)
        (λ late.
        let by_bound : complete times (work run bound) u ≡ true
        = holds release times run parts.0 (omega (arith, recorded-length rows, done_le_end u 0 rows h)) in
        absurd (omega (arith, complete_eq times (work run bound) u by_bound, legal-totals u l, work_less rows h u bound late)))

  pub legal_some : (legal t rows ≡ true) ↔ Legal t rows
  legal_some = (found_legal, λ is_legal. decided_legal (legal_decided is_legal))

  pub legal_iff : (recording_fits t rows ≡ true) ↔ Legal t rows
  legal_iff = (λ e. found_legal (decided_legal e), legal_decided)

-- ---- of an accepted set
pub fits_legal : (js : List Job) → check_of js ≡ Ok tt → (rows : List Row) → in_order rows ≡ true
    → recording_fits (table_of js) rows ≡ legal (table_of js) rows
fits_legal js passed rows order =
    let well = accepted_well js (accepted js passed) in
    let rising = order_rising rows order in
    same_test (recording_fits (table_of js) rows) (legal (table_of js) rows)
    (decided_legal well rows rising)
    (λ e. legal_decided well rows rising (found_legal well rows rising e))
