-- An accepted set is in order and within its limits, and a set that is so is accepted. Assumes nothing.
use Prim.Native.Nat.{ℕ, zero, suc, ◌+◌, ◌≤◌, ◌<◌}
use mathlib.Core.Path.{◌≡◌, refl, sym, ap, ◌∙◌}
use mathlib.Core.Bool.{Bool, true, false}
use mathlib.Core.List.{List, [], ◌∷◌, ◌++◌}
use mathlib.Core.Logic.{inl, inr}
use native.Mathlib.Omega.{arith}
use native.Mathlib.Numerals.{add-one}
use lib.ListN.{length, take, drop}
use lib.Seq.{take-suc, drop-cons, length-take-le}
use lib.Dec.{leb, ltb, eqb}
use borrow.Author.Tests.{leb-true, leb-false, ltb-true, eqb-true, eq-eqb, ne_eqb, lt-ltb}
use Rattle.laws.specs.Words.{last_of}
use Rattle.laws.proofs.Tests.{by_test, and_left, and_right}
use Rattle.jobs.specs.declared.job.Job.{Job}
use Rattle.jobs.specs.declared.refusal.Refusal.{Refusal}
use Rattle.std.specs.Prelude.{Result, ⊤, Ok}
use Rattle.jobs.specs.Limits.{max_jobs}
use Rattle.jobs.specs.Refusals.{unless}
use Rattle.jobs.specs.Jobs.{no_job, job_at}
use Rattle.jobs.specs.Checks.{is_next, record_check, records_check, any_record, check_of}
use Rattle.jobs.specs.Claims.{within_limits, plain_check, as_six}
pub use Rattle.jobs.specs.Accepted.{Follows, Limited, Accepted}
use Rattle.jobs.proofs.Limits.{limited, limited_within}
use Rattle.jobs.proofs.Six.{record_as_six, six_passed}
use Rattle.jobs.proofs.Checks.{then_first, then_second, next_check, last-take, Reached, reached_start, reached_next, reached_end, any_some, check_passed}

-- ---- a record that passes
unless-test : (b : Bool) (r : Refusal) (later : Result ⊤ Refusal) → unless b r later ≡ Ok tt → b ≡ true
unless-test true r later e = refl
unless-test false r later e = let z : ◌≡◌ {A = ℕ} 0 1 = cc in absurd (omega arith)

unless-later : (b : Bool) (r : Refusal) (later : Result ⊤ Refusal) → unless b r later ≡ Ok tt → later ≡ Ok tt
unless-later true r later e = e
unless-later false r later e = let z : ◌≡◌ {A = ℕ} 0 1 = cc in absurd (omega arith)

pub record Fine (n : ℕ) (last j : Job) : Type 0 where
  pub room : n < max_jobs
  pub next : is_next n last j ≡ true
  pub within : within_limits j ≡ true

pub record_fine : (n : ℕ) (last j : Job) → record_check n last j ≡ Ok tt → Fine n last j
record_fine n last j p =
    let e : plain_check n last j ≡ Ok tt = sym (record_as_six n last j) ∙ ap as_six p in
    let f = unless-later (ltb n max_jobs) _ _ e in
    let g = unless-later (is_next n last j) _ _ f in
    record {
      room = ltb-true n max_jobs (unless-test (ltb n max_jobs) _ _ e);
      next = unless-test (is_next n last j) _ _ f;
      within = unless-test (within_limits j) _ _ g;
    }

pub fine_record : (n : ℕ) (last j : Job) → Fine n last j → record_check n last j ≡ Ok tt
fine_record n last j f =
    six_passed (record_check n last j) (record_as_six n last j ∙ rw (lt-ltb n max_jobs f.room, f.next, f.within))

-- ---- order
follows : (n : ℕ) (i j : Job) → is_next (suc n) i j ≡ true → Follows i j
unfolding is_next
follows n i j e =
    by_test (eqb j.chain i.chain)
    (λ t. inl (eqb-true j.chain i.chain t, eqb-true j.job (i.job + 1) (simp (ne_eqb (suc n) 0 (λ z. omega arith), t) at e)))
    (λ t.
    let both = simp (ne_eqb (suc n) 0 (λ z. omega arith), t) at e in
    inr (eqb-true j.chain (i.chain + 1) (and_left _ (eqb j.job 1) both), eqb-true j.job 1 (and_right (eqb j.chain (i.chain + 1)) _ both)))

first_next : (last j : Job) → is_next 0 last j ≡ true → (j.chain ≡ 1) × (j.job ≡ 1)
unfolding is_next
first_next last j e =
    (eqb-true j.chain 1 (and_left _ (eqb j.job 1) e), eqb-true j.job 1 (and_right (eqb j.chain 1) _ e))

-- ---- all records
pub passes : (js : List Job) → records_check [] js ≡ Ok tt → (n : ℕ) → n ≤ length js → records_check (take n js) (drop n js) ≡ Ok tt
unfolding records_check
passes js e zero h = e
passes js e (suc n) h =
    let f : records_check (take n js) (job_at js n ∷ drop (suc n) js) ≡ Ok tt = rw (drop-cons js n no_job h) at (passes js e n (omega arith)) in
    rw (take-suc js n no_job h)
    (then_second (next_check (take n js) (job_at js n)) (records_check (take n js ++ (job_at js n ∷ [])) (drop (suc n) js)) f)

pub fine_at : (js : List Job) → records_check [] js ≡ Ok tt → (n : ℕ) → n < length js → Fine n (last_of no_job (take n js)) (job_at js n)
unfolding records_check
fine_at js e n h =
    let f : records_check (take n js) (job_at js n ∷ drop (suc n) js) ≡ Ok tt = rw (drop-cons js n no_job h) at (passes js e n (omega arith)) in
    let g = then_first (next_check (take n js) (job_at js n)) (records_check (take n js ++ (job_at js n ∷ [])) (drop (suc n) js)) f in
    record_fine n (last_of no_job (take n js)) (job_at js n) (rw (length-take-le n js (omega arith)) at g)

pub limited_at : (js : List Job) → records_check [] js ≡ Ok tt → (n : ℕ) → n < length js → Limited (job_at js n)
limited_at js e n h = limited (job_at js n) (fine_at js e n h).within

some_any : (js : List Job) → any_record js ≡ Ok tt → 0 < length js
some_any [] e = let z : ◌≡◌ {A = ℕ} 0 1 = cc in absurd (omega arith)
some_any (j ∷ js) e = omega arith

pub records_few : (js : List Job) → records_check [] js ≡ Ok tt → length js ≤ max_jobs
records_few js e =
    by_test (leb (length js) max_jobs)
    (λ t. leb-true (length js) max_jobs t)
    (λ t. absurd (let f = fine_at js e max_jobs (leb-false (length js) max_jobs t) in omega (arith, f.room)))

pub accepted : (js : List Job) → check_of js ≡ Ok tt → Accepted js
unfolding check_of
accepted js e =
    let all : records_check [] js ≡ Ok tt = then_first (records_check [] js) (any_record js) e in
    let some : 0 < length js = some_any js (then_second (records_check [] js) (any_record js) e) in
    record {
      some = some;
      few = records_few js all;
      first = first_next _ _ (fine_at js all 0 some).next;
      order = λ i h. follows i (job_at js i) (job_at js (suc i)) (rw (last-take js i (omega arith)) at (fine_at js all (suc i) h).next);
      limits = limited_at js all;
    }

-- no job of an accepted set has a number beyond its place
pub job-place : (js : List Job) → Accepted js → (i : ℕ) → i < length js → (job_at js i).job ≤ suc i
job-place js ok zero l = omega (arith, ok.first.1)
job-place js ok (suc i) l = elim (ok.order i l) [ inl e ↦ omega (arith, e.1, job-place js ok i (omega arith)) | inr e ↦ omega (arith, e.1) ]

-- ---- a set in order and within its limits is accepted
follows_next : (n : ℕ) (i j : Job) → Follows i j → is_next (suc n) i j ≡ true
unfolding is_next
follows_next n i j (inl e) = rw (ne_eqb (suc n) 0 (λ z. omega arith), eq-eqb j.chain i.chain e.0, eq-eqb j.job (i.job + 1) e.1)
follows_next n i j (inr e) =
    rw (
      ne_eqb (suc n) 0 (λ z. omega arith),
      ne_eqb j.chain i.chain (λ z. omega (arith, e.0)),
      eq-eqb j.chain (i.chain + 1) e.0,
      eq-eqb j.job 1 e.1,
    )

next_first : (last j : Job) → (j.chain ≡ 1) × (j.job ≡ 1) → is_next 0 last j ≡ true
unfolding is_next
next_first last j e = rw (eq-eqb j.chain 1 e.0, eq-eqb j.job 1 e.1)

record_at : (js : List Job) → Accepted js → (n : ℕ) → n < length js → record_check n (last_of no_job (take n js)) (job_at js n) ≡ Ok tt
record_at js a zero h =
    fine_record 0 (last_of no_job (take 0 js)) (job_at js 0)
    (record { room = omega arith; next = next_first (last_of no_job (take 0 js)) (job_at js 0) a.first; within = limited_within (job_at js 0) (a.limits 0 h) })
record_at js a (suc n) h =
    rw (last-take js n (omega arith))
    (fine_record (suc n) (job_at js n) (job_at js (suc n))
    (record { room = omega (arith, a.few); next = follows_next n (job_at js n) (job_at js (suc n)) (a.order n h); within = limited_within (job_at js (suc n)) (a.limits (suc n) h) }))

reached_all : (js : List Job) → Accepted js → (n : ℕ) → n ≤ length js → Reached js n (last_of no_job (take n js))
reached_all js a zero h = reached_start js (last_of no_job (take 0 js)) (unfold last_of in refl)
reached_all js a (suc n) h =
    let r = reached_next js n (last_of no_job (take n js)) (reached_all js a n (omega arith)) (job_at js n) h refl (record_at js a n h) in
    rw (last-take js n h, ← add-one n) r

pub accepted_passes : (js : List Job) → Accepted js → check_of js ≡ Ok tt
accepted_passes js a =
    check_passed js (Ok tt) (sym (reached_end js (length js) (last_of no_job (take (length js) js)) (reached_all js a (length js) (omega arith)) (omega arith)))
    (any_some js a.some)
