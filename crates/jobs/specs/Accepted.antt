-- The jobs of an accepted set: in order, and within their limits. Document 01, "A job table". Assumes nothing.
use Rattle.std.specs.Prelude.{ℕ, suc, ◌+◌, ◌≤◌, ◌<◌, ◌≡◌, ◌⊎◌, List, length}
use Rattle.jobs.specs.declared.job.Job.{Job}
use Rattle.jobs.specs.{Limits.max_jobs, Limits.max_chains, Limits.max_release, Limits.max_priority, Limits.max_time, Limits.max_deadline, Jobs.job_at}

-- The order of two neighbours: the chain goes on with its next job, or the next chain begins with its first.
abbrev pub Follows : Job → Job → Type 0
Follows i j = ((j.chain ≡ i.chain) × (j.job ≡ i.job + 1)) ⊎ ((j.chain ≡ i.chain + 1) × (j.job ≡ 1))

-- The limits of one job.
pub record Limited (j : Job) : Type 0 where
  pub chains : j.chain ≤ max_chains
  pub release : j.release ≤ max_release
  pub priority : j.priority ≤ max_priority
  pub positive : 1 ≤ j.least
  pub range : j.least ≤ j.most
  pub time : j.most ≤ max_time
  pub deadline : j.deadline ≤ max_deadline

-- What holds of the jobs of an accepted set, place by place from 0.
pub record Accepted (js : List Job) : Type 0 where
  pub some : 0 < length js
  pub few : length js ≤ max_jobs
  pub first : ((job_at js 0).chain ≡ 1) × ((job_at js 0).job ≡ 1)
  pub order : (i : ℕ) → suc i < length js → Follows (job_at js i) (job_at js (suc i))
  pub limits : (i : ℕ) → i < length js → Limited (job_at js i)
