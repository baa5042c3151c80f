-- The tests on columns are those of the procedure: of rows, where all jobs fit, and of a whole recording. Assumes an accepted set.
use Prim.Native.Nat.{ℕ, suc, ◌<◌}
use mathlib.Core.Path.{◌≡◌, refl, sym, ◌∙◌}
use mathlib.Core.Bool.{Bool, true, false, not, ◌&&◌, ◌||◌}
use mathlib.Core.List.{List, [], ◌∷◌}
use native.Mathlib.Omega.{arith}
use lib.ListN.{length, get_or, length-take}
use lib.Dec.{leb, ltb}
use lib.Seq.{get_or-take}
use borrow.Author.Tests.{leb-true, leb-false, lt-ltb, le-ltb}
use Rattle.laws.specs.Words.{every_below}
use Rattle.laws.proofs.Tests.{by_test, and_parts, and_both, same_test}
use Rattle.laws.proofs.Every.{every_at, every_all, every_ext}
use Rattle.laws.proofs.Filling.{filled_at}
use Rattle.jobs.specs.declared.job.Job.{Job}
use Rattle.jobs.specs.Limits.{max_jobs}
use Rattle.jobs.specs.Jobs.{job_at, urgency_of}
use Rattle.jobs.proofs.Accepted.{Accepted, accepted}
use Rattle.theory.specs.Table.{Table, table_of}
use Rattle.theory.proofs.Columns.{figure}
use Rattle.recording.specs.declared.row.Row.{Row}
use Rattle.recording.specs.declared.reading.Recording.{Recording}
use Rattle.recording.specs.Rows.{no_row}
use Rattle.recording.specs.Reading.{rows_of}
use Rattle.recording.proofs.Readable.{Readable}
use Rattle.legality.specs.Legality.{legal}
use Rattle.legality.specs.Procedure.{done, ready_from, waits, job_fits, row_fits, rows_fit, recording_fits}
use Rattle.legality.proofs.Deciding.{fits_legal}
use Rattle.legality.proofs.Judging.{Judged, course_of, ready_in, fits_in, waiting_in, held_up, row_fits_in, rows_fit_in}
use Rattle.legality.proofs.Rows.{Rising, order_rising}
use Rattle.recorders.proofs.Tallies.{tabulate_at}
use Rattle.recorders.proofs.GivenReleases.{all_fit, ready-same}

-- ---- two tests of each place
every_both : (f g : ℕ → Bool) (n : ℕ) → every_below n (λ v. f v && g v) ≡ every_below n f && every_below n g
every_both f g n =
    same_test (every_below n (λ v. f v && g v)) (every_below n f && every_below n g)
    (λ e.
    let at_v : (v : ℕ) → v < n → (f v ≡ true) × (g v ≡ true) = λ v l. and_parts (every_at (λ v. f v && g v) n v l e) in
    and_both (every_below n f) (every_below n g) (every_all f n (λ v l. (at_v v l).0)) (every_all g n (λ v l. (at_v v l).1)))
    (λ e.
    let parts = and_parts e in
    every_all (λ v. f v && g v) n (λ v l. and_both (f v) (g v) (every_at f n v l parts.0) (every_at g n v l parts.1)))

not_less : (a b : ℕ) → not (ltb a b) ≡ leb b a
not_less a b =
    by_test (leb b a)
    (λ e. rw (e, le-ltb a b (leb-true b a e)))
    (λ e. rw (e, lt-ltb a b (leb-false b a e)))

not_either : (a b c : Bool) → not (a || (b && c)) ≡ not a && (not b || not c)
not_either true b c = refl
not_either false true c = refl
not_either false false c = refl

module _ (js : List Job) (ok : Accepted js) (rows : List Row) (rising : Rising 0 rows) where
  abbrev t : Table
  t = table_of js

  abbrev course : List (List ℕ)
  course = course_of rows

  abbrev waiting : List (List ℕ)
  waiting = waiting_in js course

  module _ (fit : every_below (length js) (job_fits t rows) ≡ true) where
    -- ---- what the columns hold
    ready_at : (v : ℕ) → v < length js → figure waiting 0 v ≡ ready_from t rows v
    ready_at v l = filled_at max_jobs 0 (ready_in js course) (length js) v l ∙ ready-same js ok rows rising fit v l

    urgency_at : (v : ℕ) → v < length js → figure waiting 1 v ≡ t.urgency v
    urgency_at v l = filled_at max_jobs 0 (λ u. urgency_of (job_at js u)) (length js) v l

    done_at : (v : ℕ) → v < length js → figure waiting 2 v ≡ done rows v
    done_at v l = filled_at max_jobs 0 (figure course 2) (length js) v l ∙ tabulate_at max_jobs (done rows) v (omega (arith, ok.few))

    -- ---- a row, and all rows
    module _ (gap : ℕ) (r : Row) (inside : r.at < length js) where
      abbrev in_gap : ℕ → Bool
      in_gap v = not (waits t rows gap r.from v)

      abbrev in_row : ℕ → Bool
      in_row v = not (waits t rows r.from r.to v) || leb (t.urgency v) (t.urgency r.at)

      held_up_lem : (v : ℕ) → v < length js → not (held_up waiting gap r v) ≡ in_gap v && in_row v
      unfolding held_up waits
      held_up_lem v l =
          rw (ready_at v l, urgency_at v l, done_at v l, urgency_at r.at inside, ← (not_less (t.urgency r.at) (t.urgency v)))
          (not_either (waits t rows gap r.from v) (waits t rows r.from r.to v) (ltb (t.urgency r.at) (t.urgency v)))

      row_same : row_fits_in waiting (length js) gap r ≡ row_fits t rows gap r
      unfolding row_fits
      row_same =
          every_ext (λ v. not (held_up waiting gap r v)) (λ v. in_gap v && in_row v) (length js) held_up_lem
          ∙ every_both in_gap in_row (length js)
          ∙ sym (rw (lt-ltb r.at (length js) inside))

    rows_same : (gap : ℕ) (rs : List Row) → ((i : ℕ) → i < length rs → (get_or rs i no_row).at < length js)
        → rows_fit_in waiting (length js) gap rs ≡ rows_fit t rows gap rs
    unfolding rows_fit_in rows_fit
    rows_same gap [] h = refl
    rows_same gap (r ∷ rs) h = rw (row_same gap r (h 0 (omega arith)), rows_same r.to rs (λ i l. h (suc i) (omega arith)))

  -- ---- all jobs and all rows
  jobs_refused : every_below (length js) (fits_in js course) ≡ false → recording_fits t rows ≡ false
  unfolding recording_fits
  jobs_refused e = rw (all_fit js ok rows rising (length js) (omega arith), e)

  rows_decide : ((i : ℕ) → i < length rows → (get_or rows i no_row).at < length js) → every_below (length js) (fits_in js course) ≡ true
      → rows_fit_in waiting (length js) 0 rows ≡ recording_fits t rows
  unfolding recording_fits
  rows_decide inside e =
      let fit = all_fit js ok rows rising (length js) (omega arith) ∙ e in
      rows_same fit 0 rows inside ∙ sym (rw fit)

-- ---- a recording
module _ {js : List Job} {recording : Recording} (judged : Judged js recording) where
  pub judged_accepted : Accepted js
  judged_accepted = accepted js judged.passed

  pub judged_readable : Readable max_jobs recording
  judged_readable =
      let o = judged.readable in
      record {
        few = o.few;
        order = o.order;
        inside = λ i l. omega (arith, o.inside i l, judged_accepted.few);
      }

  rows_inside : (i : ℕ) → i < length (rows_of recording) → (get_or (rows_of recording) i no_row).at < length js
  unfolding rows_of
  rows_inside i l =
      let within : i < recording.count = omega (arith, length-take recording.count recording.rows) in
      rw (get_or-take recording.count recording.rows i no_row within) (judged.readable.inside i within)

  abbrev rows_here : List Row
  rows_here = rows_of recording

  decides : recording_fits (table_of js) rows_here ≡ legal (table_of js) rows_here
  decides = fits_legal js judged.passed rows_here judged.readable.order

  module _ (columns : List (List ℕ)) (is-course : columns ≡ course_of rows_here) (count : ℕ) (is-count : length js ≡ count) where
    pub judged_jobs : every_below count (fits_in js columns) ≡ false → legal (table_of js) rows_here ≡ false
    judged_jobs e = sym decides ∙ jobs_refused js judged_accepted rows_here (order_rising rows_here judged.readable.order) (rw (← is-course, is-count) e)

    pub judged_rows : every_below count (fits_in js columns) ≡ true → (reads : List (List ℕ)) → reads ≡ waiting_in js columns
        → rows_fit_in reads count 0 rows_here ≡ legal (table_of js) rows_here
    judged_rows e reads q =
        let fits = rows_decide js judged_accepted rows_here (order_rising rows_here judged.readable.order) rows_inside (rw (← is-course, is-count) e) in
        rw (q, is-course, ← is-count) fits ∙ decides
