-- Jobs that are written and read back: each at its place, and all of them as a set. Nothing here depends on how many numbers a job takes.
-- Assumes nothing.
use Prim.Native.Nat.{ℕ, zero, suc, ◌+◌, ◌*◌, ◌≤◌, ◌<◌, min}
use mathlib.Core.Path.{◌≡◌, refl, sym, ap, ◌∙◌}
use mathlib.Core.List.{List, [], ◌∷◌, ◌++◌, append-nil}
use native.Mathlib.Omega.{arith}
use lib.ListN.{length}
use lib.Seq.{get_or-drop}
use Rattle.laws.specs.Words.{tabulate, number_at}
use Rattle.laws.proofs.Tabulate.{tabulate_ext, tabulate_list}
use Rattle.jobs.specs.declared.job.Job.{Job}
use Rattle.jobs.specs.Limits.{max_jobs}
use Rattle.jobs.specs.Jobs.{no_job, job_at, set_of}
use Rattle.numbers.specs.Numbers.{job_size, job_numbers, numbers_of, job_in, jobs_held, set_in, held_set}
use Rattle.numbers.proofs.Written.{length_numbers}

-- ---- the job at a place, where its numbers come first and where those of another job come before
job_first : (j : Job) (rest : List ℕ) → job_in (job_numbers j ++ rest) 0 ≡ j
unfolding job_in
job_first j rest = refl

number_later : (j : Job) (rest : List ℕ) (i k : ℕ) → number_at (job_numbers j ++ rest) (job_size * suc i + k) ≡ number_at rest (job_size * i + k)
number_later j rest i k =
    let place : job_size * suc i + k ≡ job_size + (job_size * i + k) = omega arith in
    ap (number_at (job_numbers j ++ rest)) place ∙ sym (get_or-drop job_size (job_numbers j ++ rest) (job_size * i + k) 0)

job-later : (j : Job) (rest : List ℕ) (i : ℕ) → job_in (job_numbers j ++ rest) (suc i) ≡ job_in rest i
unfolding job_in
job-later j rest i = simp (number_later j rest i)

job_back : (js : List Job) (rest : List ℕ) (i : ℕ) → i < length js → job_in (numbers_of js ++ rest) i ≡ job_at js i
unfolding numbers_of
job_back [] rest i l = absurd (omega arith)
job_back (j ∷ js) rest zero l = job_first j (numbers_of js ++ rest)
job_back (j ∷ js) rest (suc i) l = job-later j (numbers_of js ++ rest) i ∙ job_back js rest i (omega arith)

-- ---- all jobs, with more behind them and alone
jobs_back : (js : List Job) (rest : List ℕ) → tabulate 0 (length js) (job_in (numbers_of js ++ rest)) ≡ js
jobs_back js rest = tabulate_ext 0 (length js) (job_in (numbers_of js ++ rest)) (job_at js) (λ i h l. job_back js rest i (omega arith)) ∙ tabulate_list js no_job

pub front_back : (js : List Job) (rest : List ℕ) → length js ≤ max_jobs → set_in (numbers_of js ++ rest) (length js) ≡ set_of js
unfolding set_in set_of
front_back js rest h =
    let all : min (length js) max_jobs ≡ length js = omega arith in
    rw (all, jobs_back js rest) refl

held_count : (js : List Job) → jobs_held (numbers_of js) ≡ length js
unfolding jobs_held
held_count js = omega (arith, length_numbers js)

pub held_back : (js : List Job) → length js ≤ max_jobs → held_set (numbers_of js) ≡ set_of js
held_back js h = rw (held_count js) (ap (λ (l : List ℕ). set_in l (length js)) (sym (append-nil (numbers_of js))) ∙ front_back js [] h)
