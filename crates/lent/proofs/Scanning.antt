-- The scan over records: what it carries from one record to the next is what the table has there. Assumes nothing.
--   scan_of         the scan of the first n records
--   looked         what is worked out of the next record, by the scan of those before it, is the scan after it
--   counted_jobs   the records that a set counts are its jobs
use Prim.Native.Nat.{ℕ, zero, suc, ◌+◌, ◌-◌, ◌≤◌, ◌<◌, max, min}
use mathlib.Core.Path.{◌≡◌, refl, sym, ap, ◌∙◌}
use mathlib.Core.Bool.{Bool, true, false, cond, not, ◌&&◌, ◌||◌, true≢false}
use mathlib.Core.List.{List}
use native.Mathlib.Omega.{arith}
use native.Mathlib.Numerals.{add-one}
use lib.Dec.{ltb, eqb}
use lib.ListN.{length, take}
use lib.Seq.{ext_get_or, get_or-take, length-take-le}
use borrow.Author.Tests.{le-leb, lt-leb, lt-ltb, eqb-true, eqb-false}
use Rattle.laws.specs.Words.{number_at}
use Rattle.laws.proofs.Tests.{by_test, by_order, and_right}
use Rattle.jobs.specs.declared.job.Job.{Job}
use Rattle.jobs.specs.declared.set.JobSet.{JobSet}
use Rattle.jobs.specs.Jobs.{no_job, job_at, jobs_of, urgency_of}
use Rattle.jobs.proofs.Sets.{length_jobs, job_at_lem}
use Rattle.theory.specs.Table.{Table, joined, table_of, effective_release}
use Rattle.theory.proofs.Given.{given}
use Rattle.theory.specs.Runs.{complete, predecessor_complete, ready}
use Rattle.theory.proofs.Rules.{first_after}
use Rattle.theory.proofs.Releases.{release_first, release-next}
use Rattle.std.specs.Prelude.{Option, Some, None, option_map}
use Rattle.machine.specs.declared.state.State.{State}
use Rattle.machine.specs.Order.{ready_since}
use Rattle.machine.specs.Ticks.{ready_in, better, best_up_to}
use Rattle.machine.specs.declared.pick.Best.{Best}
use Rattle.machine.proofs.Picks.{best_step}
use Rattle.machine.proofs.Scanned.{scanned, elapsed_since, after, fewer, best_by}
use Rattle.lent.specs.declared.scan.Scan.{Scan}

-- ---- a scan, told by its figures
abbrev pub figures_of : Scan → Option Best × ℕ × ℕ × Bool × Option ℕ
figures_of scan = (scan.best, scan.last, scan.least, scan.done, scan.elapsed)

abbrev pub scan_from : Option Best × ℕ × ℕ × Bool × Option ℕ → Scan
scan_from f = record { best = f.0; last = f.1; least = f.2; done = f.3; elapsed = f.4 }

-- the scan of the first n records
abbrev pub scan_of : List Job → List ℕ → State → ℕ → Scan
scan_of js times s n = scan_from (scanned js times s n)

-- ---- arithmetic of effective releases
elapsed_later : (time release : ℕ) → time < release → elapsed_since time release ≡ None
unfolding elapsed_since
elapsed_later time release l = rw (lt-leb release time l)

elapsed_past : (time release : ℕ) → release ≤ time → elapsed_since time release ≡ Some (time - release)
unfolding elapsed_since
elapsed_past time release l = rw (le-leb release time l)

elapsed_both : (r b l time : ℕ) → fewer (elapsed_since time r) (after (elapsed_since time b) l) ≡ elapsed_since time (max r (b + l))
elapsed_both r b l time =
    by_order r time
    (λ own.
    by_order b time
    (λ before.
    by_order l (time - b)
    (λ long.
    let same : min (time - r) (time - b - l) ≡ time - max r (b + l) = omega arith in
    rw (elapsed_past time r own, elapsed_past time b before, elapsed_past (time - b) l long, elapsed_past time (max r (b + l)) (omega arith), same))
    (λ short. rw (elapsed_past time r own, elapsed_past time b before, elapsed_later (time - b) l short, elapsed_later time (max r (b + l)) (omega arith))))
    (λ late. rw (elapsed_past time r own, elapsed_later time b late, elapsed_later time (max r (b + l)) (omega arith))))
    (λ late. rw (elapsed_later time r late, elapsed_later time (max r (b + l)) (omega arith)))

-- ---- a record, by the scan of those before it
-- it is of the chain of the one before it
abbrev follows : Scan → Job → ℕ → Bool
follows scan job u = ltb 0 u && eqb scan.last job.chain

-- for how many ticks it is released
abbrev elapsed_by : Bool → Scan → Job → ℕ → Option ℕ
elapsed_by follow scan job time = cond follow (fewer (elapsed_since time job.release) (after scan.elapsed scan.least)) (elapsed_since time job.release)

-- since when it is ready
abbrev since_by : Bool → ℕ → State → ℕ → ℕ
since_by follow u s elapsed = cond follow (max (s.time - elapsed) (number_at s.completions (u - 1))) (s.time - elapsed)

same_none : {A : Type 0} (b : Bool) → ◌≡◌ {A = Option A} (cond b None None) None
same_none true = refl
same_none false = refl

-- ---- a record of the chain of the one before it, and the first of a chain
module _ (js : List Job) (times : List ℕ) (s : State) where
  abbrev t : Table
  t = table_of js

  -- the scan has the effective release of the one before, as told by the time
  record Following (scan : Scan) (job : Job) (u : ℕ) : Type 0 where
    before : ℕ
    earliest : t.earliest u ≡ max job.release (before + scan.least)
    elapsed : scan.elapsed ≡ elapsed_since s.time before
    predecessor : predecessor_complete t times (number_at s.work) u ≡ scan.done
    since : ready_since t (number_at s.completions) u ≡ max (t.earliest u) (number_at s.completions (u - 1))

  record Leading (job : Job) (u : ℕ) : Type 0 where
    earliest : t.earliest u ≡ job.release
    predecessor : predecessor_complete t times (number_at s.work) u ≡ true
    since : ready_since t (number_at s.completions) u ≡ t.earliest u

  is_following : (u : ℕ) → follows (scan_of js times s u) (job_at js u) u ≡ true → Following (scan_of js times s u) (job_at js u) u
  unfolding scanned predecessor_complete ready_since joined
  is_following zero h = absurd (true≢false (sym h))
  is_following (suc v) h =
      let same : eqb (t.chain v) (t.chain (suc v)) ≡ true = and_right (ltb 0 (suc v)) (eqb (t.chain v) (t.chain (suc v))) h in
      record {
        before = t.earliest v;
        earliest = release-next (given js) v (eqb-true (t.chain v) (t.chain (suc v)) same);
        elapsed = refl;
        predecessor = rw same;
        since = let back : suc v - 1 ≡ v = omega arith in rw (same, back);
      }

  is_leading : (u : ℕ) → follows (scan_of js times s u) (job_at js u) u ≡ false → Leading (job_at js u) u
  unfolding scanned predecessor_complete ready_since joined
  is_leading zero h = record { earliest = unfold effective_release in refl; predecessor = refl; since = refl }
  is_leading (suc v) h =
      let other : eqb (t.chain v) (t.chain (suc v)) ≡ false = rw (lt-ltb 0 (suc v) (omega arith)) at h in
      record {
        earliest = release_first (given js) (suc v) (first_after (given js) v (eqb-false (t.chain v) (t.chain (suc v)) other));
        predecessor = rw other;
        since = rw other;
      }

  elapsed_by_lem : (scan : Scan) (job : Job) (u : ℕ) → Following scan job u
      → fewer (elapsed_since s.time job.release) (after scan.elapsed scan.least) ≡ elapsed_since s.time (t.earliest u)
  elapsed_by_lem scan job u f = rw (f.earliest, f.elapsed) (elapsed_both job.release f.before scan.least s.time)

  pub best_so_far : (u : ℕ) → (scan_of js times s u).best ≡ best_up_to t times s u
  unfolding scanned
  best_so_far zero = refl
  best_so_far (suc v) = refl

-- ---- what the scan says of a record
module _ (js : List Job) (times : List ℕ) (s : State) {scan : Scan} {job : Job} (u : ℕ) (told : figures_of scan ≡ scanned js times s u) (here : job ≡ job_at js u) where
  is_scan : scan ≡ scan_of js times s u
  is_scan = ap scan_from told

  following : follows scan job u ≡ true → Following js times s scan job u
  following h = rw (is_scan, here) (is_following js times s u (rw (is_scan, here) at h))

  leading : follows scan job u ≡ false → Leading js times s job u
  leading h = rw here (is_leading js times s u (rw (is_scan, here) at h))

  elapsed_is : elapsed_by (follows scan job u) scan job s.time ≡ elapsed_since s.time ((table_of js).earliest u)
  elapsed_is =
      by_test (follows scan job u)
      (λ h. rw h (elapsed_by_lem js times s scan job u (following h)))
      (λ h. rw (h, (leading h).earliest))

  predecessor_is : not (follows scan job u) || scan.done ≡ predecessor_complete (table_of js) times (number_at s.work) u
  predecessor_is = by_test (follows scan job u) (λ h. rw (h, (following h).predecessor)) (λ h. rw (h, (leading h).predecessor))

  since_is : (table_of js).earliest u ≤ s.time → since_by (follows scan job u) u s (s.time - (table_of js).earliest u) ≡ ready_since (table_of js) (number_at s.completions) u
  since_is l =
      by_test (follows scan job u)
      (λ h. rw (h, (following h).since) (omega (arith, l)))
      (λ h. rw (h, (leading h).since) (omega (arith, l)))

  -- ---- the best after it
  best-next : cond (ready_in (table_of js) times s u) (Some (better scan.best u (record { urgency = urgency_of job; since = ready_since (table_of js) (number_at s.completions) u; chain = job.chain }))) scan.best
      ≡ best_up_to (table_of js) times s (suc u)
  best-next = rw (is_scan, here, ← add-one u) (best_step (table_of js) times s (scan_of js times s u).best u (best_so_far js times s u))

  -- ---- the scan after it
  module _ {follow done : Bool} {elapsed since : Option ℕ} {best : Option Best}
      (by-follow : follow ≡ follows scan job u)
      (by-elapsed : elapsed ≡ elapsed_by follow scan job s.time)
      (by-done : done ≡ complete times (number_at s.work) u)
      (by-since : since ≡ cond (not done && (not follow || scan.done)) (option_map (since_by follow u s) elapsed) None)
      (by-best : best ≡ best_by scan.best job u since) where
    elapsed_here : elapsed ≡ elapsed_since s.time ((table_of js).earliest u)
    elapsed_here = rw (by-elapsed, by-follow) elapsed_is

    open_here : not done && (not follow || scan.done) ≡ not (complete times (number_at s.work) u) && predecessor_complete (table_of js) times (number_at s.work) u
    open_here = rw (by-done, by-follow, predecessor_is)

    since_here : since ≡ cond (ready_in (table_of js) times s u) (Some (ready_since (table_of js) (number_at s.completions) u)) None
    unfolding ready
    since_here =
        by_order ((table_of js).earliest u) s.time
        (λ past. rw (by-since, open_here, elapsed_here, elapsed_past s.time ((table_of js).earliest u) past, by-follow, since_is past, le-leb ((table_of js).earliest u) s.time past))
        (λ late. rw (by-since, open_here, elapsed_here, elapsed_later s.time ((table_of js).earliest u) late, lt-leb ((table_of js).earliest u) s.time late) (same_none _))

    best_here : best ≡ best_up_to (table_of js) times s (suc u)
    best_here =
        by_test (ready_in (table_of js) times s u)
        (λ r. rw (by-best, since_here, r) (rw r at best-next))
        (λ r. rw (by-best, since_here, r) (rw r at best-next))

    pub looked : (best, job.chain, job.least, done, elapsed) ≡ scanned js times s (suc u)
    unfolding scanned
    looked = rw (best_here, here, by-done, elapsed_here)

-- ---- the records of a set that counts no more than its places
module _ (set : JobSet) (few : set.count ≤ length set.jobs) where
  pub length-counted : length (take set.count set.jobs) ≡ set.count
  length-counted = length-take-le set.count set.jobs few

  pub counted_jobs : take set.count set.jobs ≡ jobs_of set
  counted_jobs =
      ext_get_or no_job (take set.count set.jobs) (jobs_of set) (length-counted ∙ sym (length_jobs set))
      (λ i l. get_or-take set.count set.jobs i no_job (omega (arith, length-counted)) ∙ sym (job_at_lem set i (omega (arith, length-counted))))

  pub best-counted : (times : List ℕ) (s : State)
      → best_up_to (table_of (take set.count set.jobs)) times s (length (take set.count set.jobs)) ≡ best_up_to (table_of (jobs_of set)) times s set.count
  best-counted times s =
      ap (λ (js : List Job). best_up_to (table_of js) times s (length js)) counted_jobs
      ∙ ap (λ (n : ℕ). best_up_to (table_of (jobs_of set)) times s n) (length_jobs set)
