-- Running times: their check place by place, and what it tells of a list that passes. Assumes nothing.
use Prim.Native.Nat.{ℕ, ◌+◌, ◌*◌, ◌≤◌, ◌<◌}
use mathlib.Core.Path.{◌≡◌, refl, sym, ap, ◌∙◌}
use mathlib.Core.Bool.{Bool, true, false, ◌&&◌}
use mathlib.Core.List.{List}
use mathlib.Core.Logic.{◌≢◌}
use native.Mathlib.Omega.{arith}
use native.Mathlib.Numerals.{add-one}
use lib.Dec.{leb, eqb}
use lib.ListN.{length, get_or}
use borrow.Author.Tests.{le-leb, lt-leb, eq-eqb, ne_eqb}
use Rattle.laws.specs.Words.{sum_below, every_below, number_at}
use Rattle.laws.proofs.Tests.{and_both}
use Rattle.std.specs.Prelude.{zero, suc, sum, ◌∷◌, Result, ⊤, Ok, Err}
use Rattle.std.proofs.lemmas.List.Recursion.{is_sum_by}
use Rattle.laws.proofs.Sums.{sum_const}
use Rattle.jobs.specs.declared.job.Job.{Job}
use Rattle.jobs.specs.declared.set.JobSet.{JobSet}
use Rattle.jobs.specs.declared.refusal.Refusal.TheVariants.{RunningTimes}
use Rattle.jobs.specs.Limits.{max_jobs, max_time}
use Rattle.jobs.specs.Refusals.{unless, and_then}
use Rattle.jobs.specs.Jobs.{no_job, jobs_of, job_at}
use Rattle.jobs.specs.Checks.{check_of}
use Rattle.jobs.proofs.Accepted.{Accepted, accepted}
use Rattle.jobs.proofs.Sets.{length_jobs, job_at_lem}
use Rattle.theory.specs.Table.{Table, table_of}
use Rattle.theory.specs.Runs.{times_fit}
use Rattle.theory.proofs.Legal.{Times, times_from}
use Rattle.laws.proofs.Every.{every_not}
use Rattle.machine.specs.Ticks.{machine_check}
use Rattle.jobs.specs.declared.refusal.Refusal.{Refusal}

-- ---- sums
abbrev pub sum_of : List ℕ → ℕ → ℕ
sum_of numbers n = sum_below n (λ i. get_or numbers i 0)

pub sum_none : (numbers : List ℕ) → sum_of numbers 0 ≡ 0
unfolding sum_below
sum_none numbers = refl

pub sum_next : (numbers : List ℕ) (n sum : ℕ) → sum ≡ sum_of numbers n → sum + get_or numbers n 0 ≡ sum_of numbers (n + 1)
unfolding sum_below
sum_next numbers n sum e = rw (add-one, e)

sum_first : (f : ℕ → ℕ) (n : ℕ) → sum_below (suc n) f ≡ f 0 + sum_below n (λ i. f (suc i))
unfolding sum_below
sum_first f zero = omega arith
sum_first f (suc n) = omega (arith, sum_first f n)

-- a list's sum is that of its places
pub sum_whole : (numbers : List ℕ) → sum_of numbers (length numbers) ≡ sum numbers
unfolding sum_below
sum_whole numbers = is_sum_by (λ (xs : List ℕ). sum_of xs (length xs)) (λ x. x) refl (λ x xs. sum_first (λ i. get_or (x ∷ xs) i 0) (length xs)) numbers

pub sum_limit : (times : List ℕ) → ((i : ℕ) → i < length times → get_or times i 0 ≤ max_time) → (n : ℕ) → n ≤ length times → sum_of times n ≤ n * max_time
sum_limit times each n l = sum_const n max_time (λ i. get_or times i 0) (λ i m. each i (omega arith))

-- ---- the check, place by place
unfoldable pub in_range : Table → List ℕ → ℕ → Bool
in_range t times u = leb (t.least u) (number_at times u) && leb (number_at times u) (t.most u)

module _ (set : JobSet) (times : List ℕ) where
  pub fit_count : length times ≢ set.count → times_fit (table_of (jobs_of set)) times ≡ false
  unfolding times_fit
  fit_count ne = rw (length_jobs set, ne_eqb (length times) set.count ne)

  out_of_range : (i : ℕ) → i < set.count → in_range (table_of (jobs_of set)) times i ≡ false → times_fit (table_of (jobs_of set)) times ≡ false
  unfolding times_fit in_range
  out_of_range i l e =
      let count : i < length (jobs_of set) = omega (arith, length_jobs set) in
      rw (every_not (in_range (table_of (jobs_of set)) times) (length (jobs_of set)) i count e) (and-false (eqb (length times) (length (jobs_of set))))
    where
      and-false : (b : Bool) → b && false ≡ false
      and-false true = refl
      and-false false = refl

  pub fit_below : (i : ℕ) → i < set.count → get_or times i 0 < (get_or set.jobs i no_job).least → times_fit (table_of (jobs_of set)) times ≡ false
  fit_below i l h = out_of_range i l (unfold in_range in rw (job_at_lem set i l, lt-leb _ _ h))

  pub fit_above : (i : ℕ) → i < set.count → (get_or set.jobs i no_job).most < get_or times i 0 → times_fit (table_of (jobs_of set)) times ≡ false
  fit_above i l h = out_of_range i l (unfold in_range in rw (job_at_lem set i l, lt-leb _ _ h) (and-false (leb (get_or set.jobs i no_job).least (get_or times i 0))))
    where
      and-false : (b : Bool) → b && false ≡ false
      and-false true = refl
      and-false false = refl

  pub fit_here : (i : ℕ) → i < set.count → (get_or set.jobs i no_job).least ≤ get_or times i 0 → get_or times i 0 ≤ (get_or set.jobs i no_job).most
      → in_range (table_of (jobs_of set)) times i ≡ true
  unfolding in_range
  fit_here i l a b = rw (job_at_lem set i l, le-leb _ _ a, le-leb _ _ b)

  pub fit_all : (n : ℕ) → length times ≡ set.count → n ≡ set.count → every_below n (in_range (table_of (jobs_of set)) times) ≡ true
      → times_fit (table_of (jobs_of set)) times ≡ true
  unfolding times_fit in_range
  fit_all n e f h =
      let l = length_jobs set in
      let all = in_range (table_of (jobs_of set)) times in
      and_both (eqb (length times) (length (jobs_of set))) (every_below (length (jobs_of set)) all) (eq-eqb _ _ (e ∙ sym l)) (ap (λ (k : ℕ). every_below k all) (l ∙ sym f) ∙ h)

-- ---- what has passed
module _ (js : List Job) (times : List ℕ) where
  pub times_refused : times_fit (table_of js) times ≡ false → check_of js ≡ Ok tt → machine_check js times ≡ Err RunningTimes
  unfolding machine_check
  times_refused e p = rw (p, e)

  pub times_passed : times_fit (table_of js) times ≡ true → check_of js ≡ Ok tt → machine_check js times ≡ Ok tt
  unfolding machine_check
  times_passed e p = rw (p, e)

  pub set_refused : (c : Result ⊤ Refusal) → check_of js ≡ c → (r : _) → c ≡ Err r → machine_check js times ≡ Err r
  unfolding machine_check
  set_refused c e r f = rw (e, f)

  module _ (passed : machine_check js times ≡ Ok tt) where
    pub set_passed : check_of js ≡ Ok tt
    unfolding machine_check
    set_passed = by_check (check_of js) refl passed
      where
        by_check : (c : Result ⊤ Refusal) → check_of js ≡ c → and_then c (unless (times_fit (table_of js) times) RunningTimes (Ok tt)) ≡ Ok tt → check_of js ≡ Ok tt
        by_check (Ok tt) e h = e
        by_check (Err r) e h = e ∙ h

    pub set_accepted : Accepted js
    set_accepted = accepted js set_passed

    pub times_fit_lem : times_fit (table_of js) times ≡ true
    unfolding machine_check
    times_fit_lem = by_fit (times_fit (table_of js) times) refl (rw set_passed at passed)
      where
        by_fit : (b : Bool) → times_fit (table_of js) times ≡ b → unless b RunningTimes (Ok tt) ≡ Ok tt → times_fit (table_of js) times ≡ true
        by_fit true e h = e
        by_fit false e h = let z : ◌≡◌ {A = ℕ} 0 1 = cc in absurd (omega arith)

    -- the running times of demand 3
    pub times-in_range : Times (table_of js) times
    times-in_range = times_from (table_of js) times times_fit_lem

    pub times-each : length times ≡ length js
    times-each = times-in_range.each

    time_most : (u : ℕ) → u < length js → number_at times u ≤ (job_at js u).most
    time_most u l = times-in_range.high u l

    pub times_brief : (length times ≤ max_jobs) × ((i : ℕ) → i < length times → get_or times i 0 ≤ max_time)
    times_brief = (
      omega (arith, times-each, set_accepted.few),
      λ i l. omega (arith, time_most i (omega (arith, times-each)), (set_accepted.limits i (omega (arith, times-each))).time),
    )
