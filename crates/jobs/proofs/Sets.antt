-- Sets as lists of jobs: how many jobs a set has, which they are, and one more. Assumes nothing.
use Prim.Native.Nat.{ℕ, ◌+◌, ◌<◌}
use mathlib.Core.Path.{◌≡◌, refl, sym, ap, ap₂, ◌∙◌}
use mathlib.Core.List.{List, [], ◌∷◌, ◌++◌}
use native.Mathlib.Omega.{arith}
use native.Mathlib.Nat.{zero-add}
use lib.ListN.{length, take, get_or, set, length-append}
use native.Mathlib.Numerals.{add-one}
use lib.Seq.{ext_get_or, take-suc, length-take-le}
use Rattle.laws.proofs.Lists.{padded_snoc, get_d_padded}
use Rattle.laws.proofs.Tabulate.{length-tabulate, get_d_tabulate}
use Rattle.jobs.specs.declared.job.Job.{Job}
use Rattle.jobs.specs.declared.set.JobSet.{JobSet}
use Rattle.jobs.specs.Limits.{max_jobs}
use Rattle.jobs.specs.Jobs.{no_job, jobs_of, set_of, job_at}

pub length_jobs : (s : JobSet) → length (jobs_of s) ≡ s.count
unfolding jobs_of
length_jobs s = length-tabulate 0 s.count (λ i. get_or s.jobs i no_job)

pub job_at_lem : (s : JobSet) (i : ℕ) → i < s.count → job_at (jobs_of s) i ≡ get_or s.jobs i no_job
unfolding jobs_of
job_at_lem s i h =
    get_d_tabulate 0 s.count (λ k. get_or s.jobs k no_job) no_job i h
    ∙ ap (λ (k : ℕ). get_or s.jobs k no_job) (zero-add i)

pub count_set : (js : List Job) → (set_of js).count ≡ length js
unfolding set_of
count_set js = refl

-- a set gives its jobs back
pub jobs_set : (js : List Job) → jobs_of (set_of js) ≡ js
unfolding set_of
jobs_set js =
    ext_get_or no_job (jobs_of (set_of js)) js (length_jobs (set_of js))
    (λ i h.
    let l : i < length js = omega (arith, length_jobs (set_of js)) in
    job_at_lem (set_of js) i l ∙ get_d_padded max_jobs no_job js i)

abbrev made : List Job → ℕ → JobSet
made l n = record { jobs = l; count = n }

-- a set with one job more, as the code stores it
abbrev pub grown : JobSet → Job → JobSet
grown s j = made (set s.jobs s.count j) (s.count + 1)

pub set_grown : (js : List Job) (j : Job) → length js < max_jobs → grown (set_of js) j ≡ set_of (js ++ (j ∷ []))
unfolding set_of
set_grown js j h = ap₂ made (padded_snoc max_jobs no_job js j h) (sym (length-append js (j ∷ [])))

-- the first n jobs of a list, and one more
pub set_next : (js : List Job) (n : ℕ) (s : JobSet) (j : Job) → n < length js → n < max_jobs → job_at js n ≡ j → s ≡ set_of (take n js)
    → ◌≡◌ {A = JobSet} (record { jobs = set s.jobs n j; count = n + 1 }) (set_of (take (n + 1) js))
set_next js n s j here room e f =
    let l : length (take n js) ≡ n = length-take-le n js (omega arith) in
    let c : s.count ≡ n = ap (λ (x : JobSet). x.count) f ∙ count_set (take n js) ∙ l in
    let t : take n js ++ (j ∷ []) ≡ take (n + 1) js = sym (rw add-one (rw (← e) (take-suc js n no_job here))) in
    ap (λ (k : ℕ). made (set s.jobs k j) (k + 1)) (sym c) ∙ ap (λ (x : JobSet). grown x j) f ∙ set_grown (take n js) j (omega arith) ∙ ap set_of t
