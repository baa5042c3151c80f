-- Given releases do: where every job before a job fits, the job's given release and its predecessor's end decide as its effective release does.
-- Assumes an accepted set.
use Prim.Native.Nat.{ℕ, zero, suc, ◌+◌, ◌≤◌, ◌<◌, max, min}
use mathlib.Core.Path.{◌≡◌, refl, sym, ap, subst, ◌∙◌}
use mathlib.Core.Bool.{Bool, true, false, cond, ◌&&◌}
use mathlib.Core.List.{List}
use native.Mathlib.Omega.{arith}
use lib.ListN.{length}
use lib.Dec.{leb, eqb}
use borrow.Author.Tests.{leb-true, le-leb}
use Rattle.laws.specs.Words.{every_below}
use Rattle.laws.proofs.Tests.{by_test, and_parts, same_test}
use Rattle.laws.proofs.Every.{every_at, every_all}
use Rattle.jobs.specs.declared.job.Job.{Job}
use Rattle.jobs.specs.Limits.{max_jobs}
use Rattle.jobs.specs.Jobs.{job_at}
use Rattle.jobs.proofs.Accepted.{Accepted}
use Rattle.theory.specs.Table.{Table, table_of, joined}
use Rattle.theory.proofs.Columns.{figure}
use Rattle.theory.proofs.Given.{given}
use Rattle.theory.proofs.Prior.{prior}
use Rattle.theory.proofs.Predecessors.{not_before, release_by}
use Rattle.recording.specs.declared.row.Row.{Row}
use Rattle.legality.specs.Procedure.{total, begin, done, predecessor_done, release_of, ready_from, job_fits}
use Rattle.legality.proofs.Judging.{course_of, ready_in, job_fits_in, fits_in}
use Rattle.legality.proofs.Rows.{Rising}
use Rattle.recorders.proofs.Courses.{begin-total-done}
use Rattle.recorders.proofs.Tallies.{tabulate_at}

-- ---- one job by its numbers: the predecessor is released and has its least time by `before`, and ends at `ended`
module _ (last chain release before ended start : ℕ) (sooner : before ≤ ended) where
  abbrev effective : ℕ
  effective = not_before last chain release before

  abbrev predecessor : ℕ
  predecessor = cond (eqb last chain) ended 0

  abbrev ready_now : ℕ
  ready_now = max (min (max release effective) start) predecessor

  same-ready : effective ≤ start → not_before last chain release ended ≡ ready_now
  unfolding not_before
  same-ready l =
      by_test (eqb last chain)
      (λ e. rw e (omega (arith, rw e at l)))
      (λ e. rw e (omega (arith, rw e at l)))

  ready-late : not_before last chain release ended ≤ start → effective ≤ start
  unfolding not_before
  ready-late l =
      by_test (eqb last chain)
      (λ e. rw e (omega (arith, rw e at l)))
      (λ e. rw e (omega (arith, rw e at l)))

  same_start : leb effective start && leb ready_now start ≡ leb (not_before last chain release ended) start
  same_start =
      same_test (leb effective start && leb ready_now start) (leb (not_before last chain release ended) start)
      (λ e.
      let both = and_parts e in
      let l = leb-true effective start both.0 in
      rw (same-ready l) both.1)
      (λ e.
      let late = leb-true (not_before last chain release ended) start e in
      let l = ready-late late in
      rw (le-leb effective start l, ← (same-ready l)) e)

and_assoc : (a b c : Bool) → a && b && c ≡ a && (b && c)
and_assoc true b c = refl
and_assoc false b c = refl

module _ (js : List Job) (ok : Accepted js) (rows : List Row) (rising : Rising 0 rows) where
  abbrev t : Table
  t = table_of js

  abbrev course : List (List ℕ)
  course = course_of rows

  prior-done : (u : ℕ) → u < length js → prior (figure course 2) u ≡ prior (done rows) u
  unfolding prior
  prior-done zero l = refl
  prior-done (suc v) l = tabulate_at max_jobs (done rows) v (omega (arith, ok.few))

  predecessor_is : (u : ℕ) → predecessor_done t rows u ≡ cond (eqb (prior t.chain u) (t.chain u)) (prior (done rows) u) 0
  unfolding predecessor_done joined prior
  predecessor_is zero = by_test (eqb 0 (t.chain 0)) (λ e. rw e) (λ e. rw e)
  predecessor_is (suc v) = refl

  -- the predecessor was released and had its least time before it ended
  abbrev Sooner : ℕ → Type 0
  Sooner u = prior (λ v. t.earliest v + t.least v) u ≤ prior (done rows) u

  fits_parts : (v : ℕ) → job_fits t rows v ≡ true → (t.least v ≤ total rows v) × (t.earliest v ≤ begin rows v)
  unfolding job_fits
  fits_parts v e =
      let parts = and_parts (and_parts e).0 in
      (leb-true (t.least v) (total rows v) (and_parts parts.0).0, leb-true (t.earliest v) (begin rows v) parts.1)

  fits_sooner : (v : ℕ) → v < length js → job_fits t rows v ≡ true → Sooner (suc v)
  unfolding prior
  fits_sooner v l e =
      let parts = fits_parts v e in
      let some : 0 < total rows v = omega (arith, (ok.limits v l).positive) in
      omega (arith, begin-total-done v 0 rows rising some)

  all_sooner : (u : ℕ) → u < length js → every_below u (job_fits t rows) ≡ true → Sooner u
  all_sooner zero l e = unfold prior in omega arith
  all_sooner (suc v) l e = fits_sooner v (omega arith) (every_at (job_fits t rows) (suc v) v (omega arith) e)

  -- ---- one job in the table
  module _ (u : ℕ) (inside : u < length js) (sooner : Sooner u) where
    abbrev last : ℕ
    last = prior t.chain u

    abbrev release : ℕ
    release = (job_at js u).release

    abbrev before : ℕ
    before = prior (λ v. t.earliest v + t.least v) u

    abbrev ended : ℕ
    ended = prior (done rows) u

    earliest_is : t.earliest u ≡ not_before last (t.chain u) release before
    earliest_is = release_by (given js) u

    ready_is : ready_in js course u ≡ not_before last (t.chain u) release ended
    unfolding ready_in
    ready_is = rw (prior-done u inside)

    from_is : ready_from t rows u ≡ ready_now last (t.chain u) release before ended (begin rows u) sooner
    unfolding ready_from release_of
    from_is = rw (predecessor_is u, ← earliest_is)

    ready_here : t.earliest u ≤ begin rows u → ready_in js course u ≡ ready_from t rows u
    ready_here l =
        let late : not_before last (t.chain u) release before ≤ begin rows u = subst (λ (x : ℕ). x ≤ begin rows u) earliest_is l in
        ready_is ∙ same-ready last (t.chain u) release before ended (begin rows u) sooner late ∙ sym from_is

    start_here : leb (t.earliest u) (begin rows u) && leb (ready_from t rows u) (begin rows u) ≡ leb (ready_in js course u) (begin rows u)
    start_here = rw (from_is, ready_is, earliest_is) (same_start last (t.chain u) release before ended (begin rows u) sooner)

    fits_here : job_fits t rows u ≡ fits_in js course u
    unfolding job_fits job_fits_in
    fits_here =
        let worked = tabulate_at max_jobs (total rows) u (omega (arith, ok.few)) in
        let began = tabulate_at max_jobs (begin rows) u (omega (arith, ok.few)) in
        let in_range = leb (t.least u) (total rows u) && leb (total rows u) (t.most u) in
        and_assoc in_range (leb (t.earliest u) (begin rows u)) (leb (ready_from t rows u) (begin rows u))
        ∙ ap (λ (b : Bool). in_range && b) start_here
        ∙ sym (rw (worked, began))

  -- ---- all jobs
  pub all_fit : (n : ℕ) → n ≤ length js → every_below n (job_fits t rows) ≡ every_below n (fits_in js course)
  unfolding every_below
  all_fit zero l = refl
  all_fit (suc n) l =
      let before = all_fit n (omega arith) in
      by_test (every_below n (job_fits t rows))
      (λ e. rw (← before, e) (fits_here n l (all_sooner n l e)))
      (λ e. rw (← before, e))

  pub ready-same : every_below (length js) (job_fits t rows) ≡ true → (u : ℕ) → u < length js → ready_in js course u ≡ ready_from t rows u
  ready-same e u l =
      let at-u = every_at (job_fits t rows) (length js) in
      ready_here u l (all_sooner u l (every_all (job_fits t rows) u (λ i m. at-u i (omega arith) e))) (fits_parts u (at-u u l e)).1
