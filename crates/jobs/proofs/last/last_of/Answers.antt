-- `last_of` answers the last of the set's jobs. Assumes nothing.
use Prim.Native.Nat.{ℕ, ◌-◌, ◌<◌, min}
use Rattle.jobs.proofs.Joins.{last_none, last_at}
use Rattle.jobs.proofs.Sets.{length_jobs, job_at_lem}
use Rattle.jobs.specs.Jobs.{no_job, jobs_of, job_at}
use Rattle.jobs.specs.Limits.{max_jobs}
use Rattle.jobs.specs.declared.set.JobSet.{JobSet}
use lib.ListN.{length, take, length-take}
use lib.Seq.{get_or-take}
use mathlib.Core.Path.{◌≡◌, sym, ap, ◌∙◌}
use native.Mathlib.Omega.{arith}
use Rattle.jobs.proofs.last.last_of.Goals as goal

held-length : (s : JobSet) → length (take max_jobs (jobs_of s)) ≡ min s.count max_jobs
held-length s = omega (arith, length-take max_jobs (jobs_of s), length_jobs s)

pub returns-then-count-eq0 : goal.returns-then-count-eq0
returns-then-count-eq0 c =
    let s = c.args.set in
    c.none.ensures ∙ sym (last_none (take max_jobs (jobs_of s)) (held-length s ∙ sym c.min-count.ensures ∙ c.if-count-eq0.true))

pub returns : goal.returns
returns c =
    let s = c.args.set in
    let count = c.min-count.result in
    let counts : length (take max_jobs (jobs_of s)) ≡ count = held-length s ∙ sym c.min-count.ensures in
    let some : 0 < count = omega (arith, c.if-count-eq0.false) in
    sym
    (last_at (take max_jobs (jobs_of s)) (omega arith)
    ∙ ap (λ (n : ℕ). job_at (take max_jobs (jobs_of s)) (n - 1)) counts
    ∙ get_or-take max_jobs (jobs_of s) (count - 1) no_job (omega (arith, c.min-count.ensures))
    ∙ job_at_lem s (count - 1) (omega (arith, c.min-count.ensures)))
