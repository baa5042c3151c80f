-- Bounds and rounds as C sees them: what is refused, and what an answer that passes holds. Assumes nothing.
use Rattle.std.specs.Prelude.{Option, None, Some, Result, ⊤, Ok, Err}
use Prim.Native.Nat.{ℕ, ◌-◌, ◌≤◌}
use mathlib.Core.Path.{◌≡◌, refl, sym, ap, ◌∙◌}
use mathlib.Core.List.{List}
use native.Mathlib.Omega.{arith}
use lib.Dec.{eqb}
use lib.IntN.{ℤ, pos}
use lib.ListN.{length, take, replicate}
use lib.Seq.{take-append_seam}
use Rattle.laws.specs.Words.{padded, written}
use Rattle.laws.proofs.Tests.{by_test}
use Rattle.laws.proofs.Lists.{length-padded}
use Rattle.jobs.specs.declared.job.Job.{Job}
use Rattle.jobs.specs.declared.set.JobSet.{JobSet}
use Rattle.jobs.specs.declared.refusal.Refusal.{Refusal}
use Rattle.jobs.specs.declared.refusal.Refusal.TheVariants.{UnknownAlgorithm}
use Rattle.jobs.specs.Limits.{max_jobs}
use Rattle.jobs.specs.Refusals.{on_pass}
use Rattle.jobs.specs.Jobs.{jobs_of}
use Rattle.jobs.specs.Checks.{check_of}
use Rattle.jobs.proofs.Sets.{length_jobs}
use Rattle.jobs.proofs.Accepted.{accepted}
use Rattle.theory.specs.Table.{table_of}
use Rattle.theory.specs.Bounds.{cja, itr}
use Rattle.theory.proofs.Rules.{always, length-ert, length-cja, length-after}
use Rattle.theory.proofs.Settling.{itr_settled}
use Rattle.theory.proofs.Claims.{claims}
use Rattle.completion.specs.declared.answer.Bounds.{Bounds}
use Rattle.completion.specs.declared.answer.Delay.{Delay}
use Rattle.completion.specs.declared.answer.ItrAlone.{ItrAlone}
use Rattle.completion.specs.Answers.{itr_of, bounds_alone, itr_alone}
use Rattle.analysis.specs.Answers.{bounds_by, on_bounds, bounds_of}
use Rattle.completion.proofs.Passing.{itr_answered, itr_refused}
use Rattle.numbers.specs.Numbers.{room_check}
use Rattle.cudlomer.specs.Codes.{refusal_code, checked_code}
use Rattle.cudlomer.specs.Sets.{bounds_code, bounds_into, rounds_code}

-- the answer by a check and the bounds by an algorithm
abbrev pub answer_by : Result ⊤ Refusal → Option (List ℕ) → List Delay → Result Bounds Refusal
answer_by k by delays = on_pass k Err (on_bounds by Err (λ bounds. Ok (record { bounds = padded max_jobs 0 bounds; delays = delays })))

-- a refusal of an answer is the set's, or number 10
pub refused_by : (k : Result ⊤ Refusal) (by : Option (List ℕ)) (delays : List Delay) (refusal : Refusal) (memory : List ℕ) (code : List ℕ → ℤ) (after : List ℕ → List ℕ)
    → Err refusal ≡ bounds_alone (answer_by k by delays)
    → (refusal_code refusal ≡ on_pass k refusal_code (on_bounds by refusal_code code)) × (memory ≡ on_pass k (λ r. memory) (on_bounds by (λ r. memory) after))
refused_by (Ok tt) (Some bounds) delays refusal memory code after e = absurd cc
refused_by (Ok tt) None delays refusal memory code after e = let same : refusal ≡ UnknownAlgorithm = cc in (ap refusal_code same, refl)
refused_by (Err r) by delays refusal memory code after e = let same : refusal ≡ r = cc in (ap refusal_code same, refl)

length_by : (js : List Job) (algorithm : ℕ) (bounds : List ℕ) → bounds_by js algorithm ≡ Some bounds → length bounds ≡ length js
unfolding bounds_by cja
length_by js algorithm bounds e =
    let t = table_of js in
    let size : Option (List ℕ) → ℕ = λ o. elim o [ Some l ↦ length l | None ↦ length js ] in
    by_test (eqb algorithm 1)
    (λ p. sym (ap size (rw p at e)) ∙ length-ert t)
    (λ p. by_test (eqb algorithm 2)
    (λ q. sym (ap size (rw (p, q) at e)) ∙ length-cja t always)
    (λ q. by_test (eqb algorithm 3)
    (λ s. sym (ap size (rw (p, q, s) at e)) ∙ ap length (itr_settled t).made ∙ length-after t (itr t).rounds)
    (λ s. sym (ap size (rw (p, q, s) at e)))))

-- the first places of an array that pads a list of as many
pub front_padded : {A : Type 0} (d : A) (n : ℕ) (xs : List A) → length xs ≡ n → take n (padded max_jobs d xs) ≡ xs
front_padded d n xs e = rw (← e) (take-append_seam xs (replicate (max_jobs - length xs) d))

module _ (set : JobSet) (algorithm : ℕ) where
  pub bounds_refused : (refusal : Refusal) (memory : List ℕ) → Err refusal ≡ bounds_alone (bounds_of set algorithm)
      → (refusal_code refusal ≡ bounds_code (jobs_of set) algorithm memory) × (memory ≡ bounds_into (jobs_of set) algorithm memory)
  unfolding bounds_of bounds_code bounds_into
  bounds_refused refusal memory e = refused_by (check_of (jobs_of set)) (bounds_by (jobs_of set) algorithm) _ refusal memory _ _ e

  module _ (each : List ℕ) (e : Ok each ≡ bounds_alone (bounds_of set algorithm)) where
    -- an answer holds the bounds by the algorithm
    pub record Found : Type 0 where
      pub bounds : List ℕ
      pub passed : check_of (jobs_of set) ≡ Ok tt
      pub by : bounds_by (jobs_of set) algorithm ≡ Some bounds
      pub each_are : each ≡ padded max_jobs 0 bounds

    found_by : (k : Result ⊤ Refusal) (by : Option (List ℕ)) (delays : List Delay) → check_of (jobs_of set) ≡ k → bounds_by (jobs_of set) algorithm ≡ by
        → Ok each ≡ bounds_alone (answer_by k by delays) → Found
    found_by (Ok tt) (Some bounds) delays p q h = record { bounds = bounds; passed = p; by = q; each_are = cc }
    found_by (Ok tt) None delays p q h = absurd cc
    found_by (Err r) by delays p q h = absurd cc

    pub found : Found
    unfolding bounds_of
    found = found_by (check_of (jobs_of set)) (bounds_by (jobs_of set) algorithm) _ refl refl e

    pub bounds_few : set.count ≤ max_jobs
    bounds_few = omega (arith, length_jobs set, (accepted (jobs_of set) found.passed).few)

    pub bounds_room : set.count ≤ length each
    bounds_room =
        let f = found in
        let size = length_by (jobs_of set) algorithm f.bounds f.by in
        omega (arith, bounds_few, ap length f.each_are, length-padded max_jobs 0 f.bounds (omega (arith, size, length_jobs set, bounds_few)))

    pub bounds_done : (check : Result ⊤ Refusal) (memory after : List ℕ)
        → (check ≡ room_check (length (take set.count each)) memory) × (after ≡ written (take set.count each) memory)
        → (checked_code check set.count ≡ bounds_code (jobs_of set) algorithm memory) × (after ≡ bounds_into (jobs_of set) algorithm memory)
    unfolding bounds_code bounds_into
    bounds_done check memory after put =
        let f = found in
        let size : length f.bounds ≡ set.count = length_by (jobs_of set) algorithm f.bounds f.by ∙ length_jobs set in
        let front : take set.count each ≡ f.bounds = ap (take set.count) f.each_are ∙ front_padded 0 set.count f.bounds size in
        rw (f.passed, f.by, size) (ap (λ (k : Result ⊤ Refusal). checked_code k set.count) (rw (front, size) at put.0), rw front at put.1)

-- ---- rounds
module _ (set : JobSet) where
  pub rounds_refused : (refusal : Refusal) → Err refusal ≡ itr_alone (itr_of set) → refusal_code refusal ≡ rounds_code (jobs_of set)
  unfolding rounds_code
  rounds_refused refusal e = rw (itr_refused set refusal e)

  module _ (answer : ItrAlone) (e : Ok answer ≡ itr_alone (itr_of set)) where
    pub rounds_few : answer.rounds ≤ max_jobs
    rounds_few =
        let found = itr_answered set answer e in
        let few = accepted (jobs_of set) found.0 in
        omega (arith, ap (λ (a : ItrAlone). a.rounds) found.1, (claims (jobs_of set) found.0).few_rounds, few.few, few.some)

    pub rounds_are : pos answer.rounds ≡ rounds_code (jobs_of set)
    unfolding rounds_code
    rounds_are = let found = itr_answered set answer e in rw (found.0, found.1)
