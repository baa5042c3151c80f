-- The chain and job numbers of an accepted set, which have at most 2 and 3 digits; where there is no job they are 0. Assumes nothing.
use Prim.Native.Nat.{ℕ, ◌≤◌}
use mathlib.Core.List.{List}
use mathlib.Core.Path.{sym, subst}
use native.Mathlib.Omega.{arith}
use lib.Dec.{ltb}
use lib.ListN.{length, get_or-eq_default}
use borrow.Author.Tests.{ltb-true, ltb-false}
use Rattle.laws.proofs.Tests.{by_test}
use Rattle.decimal.specs.Digits.{decimal}
use Rattle.decimal.proofs.Values.{decimal-within}
use Rattle.jobs.specs.declared.job.Job.{Job}
use Rattle.jobs.specs.Limits.{max_jobs, max_chains}
use Rattle.jobs.specs.Jobs.{no_job, job_at}
use Rattle.jobs.proofs.Accepted.{Accepted, job-place}

pub record Numbered (j : Job) : Type 0 where
  pub chain : length (decimal j.chain) ≤ 2
  pub job : length (decimal j.job) ≤ 3

numbered_by : (j : Job) → j.chain ≤ max_chains → j.job ≤ max_jobs → Numbered j
numbered_by j c k = record { chain = decimal-within 1 j.chain (omega arith); job = decimal-within 2 j.job (omega arith) }

module _ (js : List Job) (ok : Accepted js) where
  pub numbered_at : (i : ℕ) → Numbered (job_at js i)
  numbered_at i =
      by_test (ltb i (length js))
      (λ t.
      let l = ltb-true i (length js) t in
      numbered_by (job_at js i) (ok.limits i l).chains (omega (arith, job-place js ok i l, ok.few)))
      (λ t. subst Numbered (sym (get_or-eq_default js no_job (ltb-false i (length js) t))) (numbered_by no_job (omega arith) (omega arith)))
