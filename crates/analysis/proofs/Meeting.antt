-- Deadlines met job by job, and the verdict by bounds as they are padded in an answer. Assumes nothing.
use Rattle.std.specs.Prelude.{Result, Ok, Err, Bool, Option, None, Some, nat_le, ◌&&◌, ⊤}
use Prim.Native.Nat.{ℕ, zero, suc, ◌≤◌}
use mathlib.Core.Path.{◌≡◌, refl, ap, ◌∙◌}
use mathlib.Core.Bool.{Bool}
use mathlib.Core.List.{List}
use native.Mathlib.Omega.{arith}
use lib.Dec.{leb}
use lib.ListN.{length, take, get_or}
use Rattle.std.specs.List.{list_all, zip}
use Rattle.std.proofs.lemmas.List.Folds.{list_all_more}
use Rattle.std.proofs.lemmas.Slice.Zip.{get_or-zip, length-zip}
use Rattle.std.proofs.lemmas.List.{get_or-take, length-take-le, take_all}
use native.Mathlib.Numerals.{add-one}
use Rattle.jobs.proofs.Sets.{job_at_lem}
use Rattle.laws.specs.Words.{every_below, padded, number_at}
use Rattle.laws.proofs.Every.{every_ext}
use Rattle.laws.proofs.Lists.{get_d_padded}
use Rattle.jobs.specs.declared.job.Job.{Job}
use Rattle.jobs.specs.declared.set.JobSet.{JobSet}
use Rattle.jobs.specs.Limits.{max_jobs}
use Rattle.jobs.specs.Refusals.{on_pass}
use Rattle.jobs.specs.Checks.{check_of}
use Rattle.jobs.specs.Jobs.{no_job, jobs_of, job_at}
use Rattle.jobs.proofs.Sets.{length_jobs}
use Rattle.theory.specs.Bounds.{meets}
use Rattle.completion.specs.Answers.{bounds_alone}
use Rattle.completion.specs.declared.answer.Delay.{Delay}
use Rattle.analysis.specs.Answers.{bounds_by, on_bounds, bounds_of, verdict_by, verdict_of}
use Rattle.jobs.specs.declared.refusal.Refusal.{Refusal}

-- the bound of the job at a place is at or before its deadline
abbrev pub met_at : List Job → List ℕ → ℕ → Bool
met_at js bounds i = leb (number_at bounds i) (job_at js i).deadline

-- a test of each element of a list is that of each place
every_list : {A : Type 0} (p : A → Bool) (xs : List A) (d : A) (n : ℕ) → n ≤ length xs → list_all p (take n xs) ≡ every_below n (λ i. p (get_or xs i d))
unfolding every_below
every_list p xs d zero h = refl
every_list p xs d (suc n) h =
    rw (← add-one) (list_all_more p xs n d (omega arith) ∙ ap (λ (b : Bool). b && p (get_or xs n d)) (every_list p xs d n (omega arith)))

-- a job beside its bound
abbrev pub in_time : Job × ℕ → Bool
in_time pair = nat_le pair.1 pair.0.deadline

-- the test of each job of a set beside its bound
module _ (set : JobSet) (bounds : List ℕ) where
  pub meets_pairs : set.count ≤ length set.jobs → set.count ≤ length bounds → list_all in_time (zip (take set.count set.jobs) bounds) ≡ meets (jobs_of set) bounds
  unfolding meets
  meets_pairs few enough =
      let pairs = zip (take set.count set.jobs) bounds in
      let jobs : length (take set.count set.jobs) ≡ set.count = length-take-le set.count set.jobs few in
      let long : length pairs ≡ set.count = omega (arith, length-zip (take set.count set.jobs) bounds, jobs) in
      rw (← take_all set.count pairs (omega arith)) (every_list in_time pairs (no_job, 0) set.count (omega arith)
      ∙ rw (length_jobs set) (every_ext _ _ set.count (λ i l.
      rw (get_or-zip (take set.count set.jobs) bounds i (no_job, 0) (omega arith) (omega arith), get_or-take set.count set.jobs i no_job l, job_at_lem set i l) refl)))

  meets-padded : meets (jobs_of set) (padded max_jobs 0 bounds) ≡ meets (jobs_of set) bounds
  unfolding meets
  meets-padded = every_ext _ _ (length (jobs_of set)) (λ i l. rw (get_d_padded max_jobs 0 bounds i))

-- the verdict by an answer
abbrev pub verdict_on : JobSet → Result (List ℕ) Refusal → Result Bool Refusal
verdict_on set (Ok bounds) = Ok (meets (jobs_of set) bounds)
verdict_on set (Err refusal) = Err refusal

-- the bounds in an answer are padded
by_answer : (set : JobSet) (k : Result ⊤ Refusal) (by : Option (List ℕ)) (delays : List Delay)
    → verdict_on set (bounds_alone (on_pass k Err (on_bounds by Err (λ bounds. Ok (record { bounds = padded max_jobs 0 bounds; delays = delays })))))
    ≡ on_pass k Err (on_bounds by Err (λ bounds. Ok (meets (jobs_of set) bounds)))
by_answer set (Ok tt) (Some bounds) delays = ap (λ (met : Bool). Ok met) (meets-padded set bounds)
by_answer set (Ok tt) None delays = refl
by_answer set (Err refusal) by delays = refl

pub verdict_is : (set : JobSet) (algorithm : ℕ) → verdict_on set (bounds_alone (bounds_of set algorithm)) ≡ verdict_of set algorithm
unfolding bounds_of verdict_of verdict_by
verdict_is set algorithm = by_answer set (check_of (jobs_of set)) (bounds_by (jobs_of set) algorithm) _

-- the verdict on an accepted set
pub verdict_passed : (set : JobSet) (algorithm : ℕ) → check_of (jobs_of set) ≡ Ok tt → verdict_of set algorithm ≡ verdict_by (jobs_of set) algorithm
unfolding verdict_of
verdict_passed set algorithm passed = rw passed
