-- The search for a job by its numbers among the jobs that a set holds. Assumes nothing.
use Rattle.std.specs.List.{position, position_or_len}
use Rattle.std.specs.Option.{unwrap_or}
use Rattle.std.proofs.lemmas.List.Sums.{fails_before_first, passes_at_first}
use Prim.Native.Nat.{ℕ, min}
use mathlib.Core.Bool.{Bool}
use mathlib.Core.List.{List}
use mathlib.Core.Path.{◌≡◌, sym, ◌∙◌}
use native.Mathlib.Omega.{arith}
use lib.Dec.{ltb}
use lib.ListN.{length, take}
use lib.Seq.{ext_get_or, get_or-take, length-take-le}
use borrow.Author.Tests.{ltb-true, ltb-false}
use Rattle.laws.specs.Words.{first_below}
use Rattle.laws.proofs.Tests.{by_test}
use Rattle.laws.proofs.First.{first_none, first_found}
use Rattle.jobs.specs.declared.job.Job.{Job}
use Rattle.jobs.specs.declared.set.JobSet.{JobSet}
use Rattle.jobs.specs.Limits.{max_jobs}
use Rattle.jobs.specs.Jobs.{no_job, jobs_of, job_at, is_job, place_in}
use Rattle.jobs.proofs.Held.{held-length, held_at}

-- what the library's search finds, and the length where it finds none, is the first place below the length at which the test holds
position_first : (p : Job → Bool) (js : List Job) → unwrap_or (position p js) (length js) ≡ first_below (length js) (λ k. p (job_at js k))
position_first p js =
    let n = position_or_len p js in
    let test : ℕ → Bool = λ k. p (job_at js k) in
    by_test (ltb n (length js))
    (λ t.
    let l = ltb-true n (length js) t in
    rw t (sym (first_found test (length js) n (first_none test n (λ k h. fails_before_first p js k no_job h)) (passes_at_first p js no_job l) l)))
    (λ t.
    let l = ltb-false n (length js) t in
    rw t (sym (first_none test (length js) (λ k h. fails_before_first p js k no_job (omega arith)))))

-- the jobs that a set holds are those of its first places
held_list : (s : JobSet) → length s.jobs ≡ max_jobs → take (min s.count max_jobs) s.jobs ≡ take max_jobs (jobs_of s)
held_list s e =
    let count = min s.count max_jobs in
    let l : length (take count s.jobs) ≡ count = length-take-le count s.jobs (omega arith) in
    ext_get_or no_job (take count s.jobs) (take max_jobs (jobs_of s)) (l ∙ sym (held-length s))
    (λ i k. get_or-take count s.jobs i no_job (omega arith) ∙ sym (held_at s i (omega arith)))

pub place_by : (s : JobSet) (chain number : ℕ) → length s.jobs ≡ max_jobs
    → unwrap_or (position (λ j. is_job j chain number) (take (min s.count max_jobs) s.jobs)) (min s.count max_jobs) ≡ place_in (take max_jobs (jobs_of s)) chain number
unfolding place_in
place_by s chain number e =
    rw (held_list s e, ← held-length s) (position_first (λ j. is_job j chain number) (take max_jobs (jobs_of s)))
