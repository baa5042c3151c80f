-- The most times of a set, as the code has them in an array. Assumes nothing.
use Prim.Native.Nat.{ℕ, zero, suc, ◌≤◌, min}
use mathlib.Core.List.{List, [], ◌∷◌}
use mathlib.Core.Path.{◌≡◌, refl, sym, ap, ◌∙◌}
use native.Mathlib.Omega.{arith}
use lib.ListN.{length, take, get_or, length-map, length-take}
use lib.Seq.{take_all, take_at}
use Rattle.laws.specs.Words.{tabulate, padded}
use Rattle.laws.proofs.Lists.{length-padded}
use Rattle.laws.proofs.Tabulate.{map-tabulate, take-tabulate}
use Rattle.jobs.specs.declared.job.Job.{Job}
use Rattle.jobs.specs.declared.set.JobSet.{JobSet}
use Rattle.jobs.specs.Limits.{max_jobs}
use Rattle.jobs.specs.Jobs.{no_job, jobs_of, job_at, most_times}
use Rattle.jobs.proofs.Sets.{length_jobs}

pub length_most : (js : List Job) → length (most_times js) ≡ length js
unfolding most_times
length_most js = length-map js (λ (j : Job). j.most)

pub most_at_lem : (js : List Job) (i : ℕ) → get_or (most_times js) i 0 ≡ (job_at js i).most
unfolding most_times
most_at_lem [] i = refl
most_at_lem (j ∷ js) zero = refl
most_at_lem (j ∷ js) (suc i) = most_at_lem js i

-- the most time at a place, as the code reads it
abbrev pub most_at : JobSet → ℕ → ℕ
most_at s i = (get_or s.jobs i no_job).most

-- those of the records that stand in a set
pub most_held : (s : JobSet) (n : ℕ) → n ≡ min s.count max_jobs → tabulate 0 n (most_at s) ≡ take max_jobs (most_times (jobs_of s))
unfolding most_times jobs_of
most_held s n e =
    let all = map-tabulate (λ (j : Job). j.most) 0 s.count (λ i. get_or s.jobs i no_job) in
    let few : n ≡ min max_jobs s.count = omega arith in
    ap (λ (k : ℕ). tabulate 0 k (most_at s)) few ∙ sym (ap (take max_jobs) all ∙ take-tabulate max_jobs 0 s.count (most_at s))

-- the array has all its places, whatever the set counts
pub most_length : (s : JobSet) (most : List ℕ) → most ≡ padded max_jobs 0 (take max_jobs (most_times (jobs_of s))) → length most ≡ max_jobs
most_length s most is =
    let times = most_times (jobs_of s) in
    ap length is ∙ length-padded max_jobs 0 (take max_jobs times) (omega (arith, length-take max_jobs times))

-- its first places are the list, where a set counts no more than its places
pub most_lent : (s : JobSet) (most : List ℕ) → s.count ≤ max_jobs → most ≡ padded max_jobs 0 (take max_jobs (most_times (jobs_of s))) → take s.count most ≡ most_times (jobs_of s)
most_lent s most few is =
    let times = most_times (jobs_of s) in
    let count : length times ≡ s.count = length_most (jobs_of s) ∙ length_jobs s in
    let all : most ≡ padded max_jobs 0 times = is ∙ ap (padded max_jobs 0) (take_all max_jobs times (omega arith)) in
    rw all (take_at times _ s.count count)
