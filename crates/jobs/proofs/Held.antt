-- The records that stand in a set, which may count more than it has places: how many they are, and which. Assumes nothing.
use Prim.Native.Nat.{ℕ, ◌<◌, min}
use mathlib.Core.Path.{◌≡◌, ◌∙◌}
use native.Mathlib.Omega.{arith}
use lib.ListN.{length, take, get_or, length-take}
use lib.Seq.{get_or-take}
use Rattle.jobs.specs.declared.set.JobSet.{JobSet}
use Rattle.jobs.specs.Limits.{max_jobs}
use Rattle.jobs.specs.Jobs.{no_job, jobs_of, job_at}
use Rattle.jobs.proofs.Sets.{length_jobs, job_at_lem}

pub held-length : (s : JobSet) → length (take max_jobs (jobs_of s)) ≡ min s.count max_jobs
held-length s = omega (arith, length-take max_jobs (jobs_of s), length_jobs s)

pub held_at : (s : JobSet) (i : ℕ) → i < min s.count max_jobs → job_at (take max_jobs (jobs_of s)) i ≡ get_or s.jobs i no_job
held_at s i h = get_or-take max_jobs (jobs_of s) i no_job (omega arith) ∙ job_at_lem s i (omega arith)
