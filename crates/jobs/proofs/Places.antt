-- The place of a job by its numbers: no two jobs of an accepted set share chain and job, and so the first with these numbers is the one. Assumes nothing.
use Prim.Native.Nat.{ℕ, zero, suc, ◌+◌, ◌*◌, ◌≤◌, ◌<◌}
use mathlib.Core.Path.{◌≡◌, refl}
use mathlib.Core.Bool.{true, false}
use mathlib.Core.List.{List}
use mathlib.Core.Logic.{inl, inr, ◌≢◌}
use native.Mathlib.Omega.{arith}
use lib.Dec.{eqb}
use lib.ListN.{length}
use borrow.Author.Tests.{eq-eqb, ne_eqb, eqb-true}
use Rattle.laws.proofs.Tests.{by_equal, by_order, by_last, and_parts, never_true}
use Rattle.laws.proofs.First.{first_none, first_found}
use Rattle.jobs.specs.declared.job.Job.{Job}
use Rattle.jobs.specs.Limits.{max_jobs}
use Rattle.jobs.specs.Jobs.{job_at, is_job, place_in}
use Rattle.jobs.proofs.Accepted.{Accepted, Follows, job-place}

-- a job has its own numbers
pub own_job : (j : Job) → is_job j j.chain j.job ≡ true
own_job j = rw (eq-eqb j.chain j.chain refl, eq-eqb j.job j.job refl)

-- a job with these numbers
its_numbers : (j : Job) (chain number : ℕ) → is_job j chain number ≡ true → (j.chain ≡ chain) × (j.job ≡ number)
its_numbers j chain number t =
    let tests = and_parts {a = eqb j.chain chain} {b = eqb j.job number} t in
    (eqb-true j.chain chain tests.0, eqb-true j.job number tests.1)

-- chain and job as one number
unfoldable code : Job → ℕ
code j = (max_jobs + 1) * j.chain + j.job

code-follows : (i j : Job) → i.job ≤ max_jobs → Follows i j → code i < code j
unfolding code
code-follows i j l (inl e) = omega (arith, e.0, e.1)
code-follows i j l (inr e) = omega (arith, e.0, e.1)

module _ (js : List Job) (ok : Accepted js) where
  -- it goes up
  code-next : (i : ℕ) → suc i < length js → code (job_at js i) < code (job_at js (suc i))
  code-next i l = code-follows (job_at js i) (job_at js (suc i)) (omega (arith, job-place js ok i (omega arith), ok.few)) (ok.order i l)

  code_up : (i k : ℕ) → i < k → k < length js → code (job_at js i) < code (job_at js k)
  code_up i zero h l = absurd (omega arith)
  code_up i (suc k) h l = by_last i k h (λ e. rw e (code-next k l)) (λ m. omega (arith, code_up i k m (omega arith), code-next k l))

  -- the numbers of a chain's jobs go up along the table
  pub numbers_rise : (i k : ℕ) → i < k → k < length js → (job_at js i).chain ≡ (job_at js k).chain → (job_at js i).job < (job_at js k).job
  unfolding code
  numbers_rise i k h l e = omega (arith, code_up i k h l, e)

  pub other_job : (u k : ℕ) → u < length js → k < length js → k ≢ u → is_job (job_at js k) (job_at js u).chain (job_at js u).job ≡ false
  unfolding code
  other_job u k l m ne =
      never_true _
      (λ t.
      let same = its_numbers (job_at js k) (job_at js u).chain (job_at js u).job t in
      by_order k u
      (λ h. omega (arith, ne, code_up k u (omega arith) l, same.0, same.1))
      (λ h. omega (arith, code_up u k h m, same.0, same.1)))

  -- whether a job has the numbers of another says whether it is that one
  pub is_job_lem : (u k : ℕ) → u < length js → k < length js → is_job (job_at js k) (job_at js u).chain (job_at js u).job ≡ eqb k u
  is_job_lem u k l m =
      by_equal k u
      (λ e. rw (e, own_job (job_at js u), eq-eqb u u refl))
      (λ ne. rw (other_job u k l m ne, ne_eqb k u ne))

pub place_found : (js : List Job) → Accepted js → (u : ℕ) → u < length js → place_in js (job_at js u).chain (job_at js u).job ≡ u
unfolding place_in
place_found js ok u l =
    first_found _ (length js) u (first_none _ u (λ i h. other_job js ok u i l (omega arith) (λ e. omega arith))) (own_job (job_at js u)) l
