-- Jobs at their places in numbers: one read, all of them read into a set, and how many there are. Assumes nothing.
use Prim.Native.Nat.{ℕ, ◌+◌, ◌*◌, ◌≤◌, ◌<◌, min}
use mathlib.Core.Path.{◌≡◌, ap, ap₂, ◌∙◌}
use mathlib.Core.List.{List, []}
use native.Mathlib.Omega.{arith}
use native.Mathlib.Nat.{add-zero}
use lib.ListN.{set}
use Rattle.laws.specs.Words.{tabulate, padded, number_at}
use Rattle.laws.proofs.Filling.{filled_none, filled_next}
use Rattle.jobs.specs.declared.job.Job.{Job}
use Rattle.jobs.specs.declared.set.JobSet.{JobSet}
use Rattle.jobs.specs.Limits.{max_jobs}
use Rattle.jobs.specs.Jobs.{job, no_job, set_of}
use Rattle.numbers.specs.Numbers.{job_size, job_in, set_in}

-- the job whose numbers stand at its place
pub job_read : (numbers : List ℕ) (i c k r p l m d : ℕ)
    → c ≡ number_at numbers (job_size * i)
    → k ≡ number_at numbers (job_size * i + 1)
    → r ≡ number_at numbers (job_size * i + 2)
    → p ≡ number_at numbers (job_size * i + 3)
    → l ≡ number_at numbers (job_size * i + 4)
    → m ≡ number_at numbers (job_size * i + 5)
    → d ≡ number_at numbers (job_size * i + 6)
    → job c k r p l m d ≡ job_in numbers i
unfolding job_in
job_read numbers i c k r p l m d e₀ e₁ e₂ e₃ e₄ e₅ e₆ = rw (add-zero, e₀, e₁, e₂, e₃, e₄, e₅, e₆)

-- the set of the first n jobs, of which a set has place for no more than max_jobs
abbrev pub SetRead : List ℕ → ℕ → ℕ → JobSet → Type 0
SetRead numbers count n set = (n ≤ count) × (n ≤ max_jobs) × (set ≡ record { jobs = padded max_jobs no_job (tabulate 0 n (job_in numbers)); count = count })

abbrev counted : ℕ → List Job → JobSet
counted count jobs = record { jobs = jobs; count = count }

pub set_none : (numbers : List ℕ) (count : ℕ) (empty : JobSet) → empty ≡ set_of [] → SetRead numbers count 0 (record { jobs = empty.jobs; count = count })
unfolding set_of
set_none numbers count empty e = (omega arith, omega arith, ap (λ (s : JobSet). counted count s.jobs) e ∙ ap (counted count) (filled_none max_jobs no_job (job_in numbers)))

pub set_next : (numbers : List ℕ) (count n : ℕ) (s : JobSet) (j : Job) → SetRead numbers count n s → n < count → n < max_jobs → j ≡ job_in numbers n
    → SetRead numbers count (n + 1) (record { jobs = set s.jobs n j; count = s.count })
set_next numbers count n s j h l room e =
    (omega arith, omega arith, ap₂ counted (ap (λ (x : JobSet). x.count) h.2) (filled_next max_jobs no_job (job_in numbers) n s.jobs j room (ap (λ (x : JobSet). x.jobs) h.2) e))

pub set_all : (numbers : List ℕ) (count n : ℕ) (s : JobSet) → SetRead numbers count n s → min count max_jobs ≤ n → s ≡ set_in numbers count
unfolding set_in
set_all numbers count n s h l =
    let e : n ≡ min count max_jobs = omega (arith, h.0, h.1) in
    h.2 ∙ ap (λ (k : ℕ). counted count (padded max_jobs no_job (tabulate 0 k (job_in numbers)))) e
