-- What a loop over the jobs keeps of the job before the one that it is at, from which it knows when this one is ready; and the columns that it fills.
--   Kept      the chain and the end of the job before
--   waiting   the columns of `waiting_in` after n jobs
-- Assumes nothing.
use Prim.Native.Nat.{ℕ, ◌+◌, ◌<◌}
use mathlib.Core.Path.{◌≡◌, refl, sym, ap, ◌∙◌}
use mathlib.Core.Bool.{Bool}
use mathlib.Core.List.{List, [], ◌∷◌}
use lib.ListN.{length, replicate}
use Rattle.laws.proofs.Filling as Filling
use Rattle.jobs.specs.declared.job.Job.{Job}
use Rattle.jobs.specs.Limits.{max_jobs}
use Rattle.jobs.specs.Jobs.{job_at, urgency_of}
use Rattle.theory.proofs.Columns.{figure, put, column}
use Rattle.theory.proofs.Prior.{prior, prior_none, prior-next}
use Rattle.theory.proofs.Predecessors.{not_before}
use Rattle.legality.proofs.Judging.{column_count, ready_in, job_fits_in, fits_in, waiting_in}

module _ (js : List Job) (course : List (List ℕ)) where
  abbrev chain_at : ℕ → ℕ
  chain_at v = (job_at js v).chain

  pub record Kept (n chain done : ℕ) : Type 0 where
    pub chain_is : chain ≡ prior chain_at n
    pub done_is : done ≡ prior (figure course 2) n

  pub kept_none : Kept 0 0 0
  kept_none = record { chain_is = sym (prior_none chain_at); done_is = sym (prior_none (figure course 2)) }

  pub kept_next : (n : ℕ) (job : Job) → job ≡ job_at js n → (done : ℕ) → done ≡ figure course 2 n → Kept (n + 1) job.chain done
  kept_next n job e done q =
      record {
        chain_is = ap (λ (j : Job). j.chain) e ∙ sym (prior-next chain_at n);
        done_is = q ∙ sym (prior-next (figure course 2) n);
      }

  module _ {n chain done : ℕ} (k : Kept n chain done) (job : Job) (is : job ≡ job_at js n) where
    pub kept_ready : (ready : ℕ) → ready ≡ not_before chain job.chain job.release done → ready ≡ ready_in js course n
    unfolding ready_in
    kept_ready ready e = e ∙ rw (k.chain_is, k.done_is, is)

    pub kept_fits : (ready : ℕ) → ready ≡ not_before chain job.chain job.release done → (fits : Bool) → fits ≡ job_fits_in course ready job n
        → fits ≡ fits_in js course n
    kept_fits ready e fits q = q ∙ rw (kept_ready ready e, is)

  -- ---- columns filled job by job
  abbrev urgency_at : ℕ → ℕ
  urgency_at u = urgency_of (job_at js u)

  abbrev pub waiting : ℕ → List (List ℕ)
  waiting n = column n (ready_in js course) ∷ column n urgency_at ∷ column n (figure course 2) ∷ []

  pub waiting_none : replicate column_count (replicate max_jobs 0) ≡ waiting 0
  waiting_none =
      λ x. Filling.filled_none max_jobs 0 (ready_in js course) x ∷ Filling.filled_none max_jobs 0 urgency_at x ∷ Filling.filled_none max_jobs 0 (figure course 2) x ∷ []

  pub waiting_next : (n : ℕ) → n < max_jobs → (columns : List (List ℕ)) → columns ≡ waiting n
      → (ready urgency done : ℕ) → ready ≡ ready_in js course n → urgency ≡ urgency_of (job_at js n) → done ≡ figure course 2 n
      → put 2 n done (put 1 n urgency (put 0 n ready columns)) ≡ waiting (n + 1)
  waiting_next n room columns e ready urgency done p q r =
      let readies = Filling.filled_next max_jobs 0 (ready_in js course) n (column n (ready_in js course)) ready room refl p in
      let urgencies = Filling.filled_next max_jobs 0 urgency_at n (column n urgency_at) urgency room refl q in
      let ends = Filling.filled_next max_jobs 0 (figure course 2) n (column n (figure course 2)) done room refl r in
      rw e (λ x. readies x ∷ urgencies x ∷ ends x ∷ [])

  pub waiting_all : (n : ℕ) → n ≡ length js → waiting n ≡ waiting_in js course
  waiting_all n e = ap waiting e
