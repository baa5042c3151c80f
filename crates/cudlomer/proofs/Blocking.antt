-- Blocks as C sees them: what is refused, and the numbers of an answer that passes. Assumes nothing.
use Rattle.std.specs.Prelude.{Option, None, Some, Result, ⊤, Ok, Err}
use Prim.Native.Nat.{ℕ, zero, suc, ◌+◌, ◌*◌, ◌≤◌}
use mathlib.Core.Path.{◌≡◌, refl, sym, ap, ◌∙◌}
use mathlib.Core.List.{List}
use native.Mathlib.Omega.{arith}
use lib.Dec.{eqb}
use lib.ListN.{length, take}
use Rattle.laws.specs.Words.{tabulate, last_of, padded, written}
use Rattle.laws.proofs.Tests.{by_test}
use Rattle.laws.proofs.Tabulate.{length-tabulate}
use Rattle.jobs.specs.declared.job.Job.{Job}
use Rattle.jobs.specs.declared.set.JobSet.{JobSet}
use Rattle.jobs.specs.declared.refusal.Refusal.{Refusal}
use Rattle.jobs.specs.Limits.{max_jobs, max_chains}
use Rattle.jobs.specs.Jobs.{no_job, jobs_of, chains_of}
use Rattle.jobs.specs.Checks.{check_of}
use Rattle.jobs.proofs.Sets.{length_jobs}
use Rattle.jobs.proofs.Accepted.{accepted}
use Rattle.jobs.proofs.Chains.{chains-within, chains_are}
use Rattle.theory.specs.Delays.{Delay as TheoryDelay}
use Rattle.completion.specs.declared.answer.Bounds.{Bounds}
use Rattle.completion.specs.declared.answer.Delay.{Delay}
use Rattle.completion.specs.Delays.{no_delay, block_named, delay_named, delays_named}
use Rattle.completion.specs.Answers.{bounds_alone}
use Rattle.analysis.specs.Answers.{bounds_by, delays_by, bounds_of}
use Rattle.numbers.specs.Numbers.{delays_numbers, room_check}
use Rattle.numbers.proofs.Blocks.{Full, length-delays, delays_fit}
use Rattle.cudlomer.specs.Codes.{refusal_code, checked_code}
use Rattle.cudlomer.specs.Sets.{blocks_by, blocks_code, blocks_into}
use Rattle.cudlomer.proofs.Bounding.{answer_by, refused_by, front_padded, Found, found, bounds_few}

-- ---- how many delays there are by an algorithm, and that each has a block for each chain
tabulated_full : (i n : ℕ) (number : ℕ → ℕ) (delay : ℕ → TheoryDelay) → Full (tabulate i n (λ j. delay_named number (delay j)))
unfolding tabulate delay_named
tabulated_full i zero number delay = tt
tabulated_full i (suc n) number delay = (length-tabulate 1 max_chains (λ c. block_named number ((delay i).block c)), tabulated_full (suc i) n number delay)

named_full : (js : List Job) (delay : ℕ → TheoryDelay) → Full (delays_named js delay)
unfolding delays_named
named_full js delay = tabulated_full 0 (length js) _ delay

length_named : (js : List Job) (delay : ℕ → TheoryDelay) → length (delays_named js delay) ≡ length js
unfolding delays_named
length_named js delay = length-tabulate 0 (length js) _

-- as many delays as jobs, all of them whole
abbrev Whole : List Job → List Delay → Type 0
Whole js ds = (length ds ≡ length js) × Full ds

no_bounds : (by : Option (List ℕ)) {bounds : List ℕ} → by ≡ None → by ≡ Some bounds → ◌≡◌ {A = ℕ} 0 1
no_bounds by e f = ap (λ (o : Option (List ℕ)). elim o [ None ↦ 0 | Some l ↦ 1 ]) (sym e ∙ f)

whole_by : (js : List Job) (algorithm : ℕ) {bounds : List ℕ} → bounds_by js algorithm ≡ Some bounds → Whole js (delays_by js algorithm)
unfolding bounds_by delays_by
whole_by js algorithm e =
    by_test (eqb algorithm 1)
    (λ p. rw p (length_named js _, named_full js _))
    (λ p. by_test (eqb algorithm 2)
    (λ q. rw (p, q) (length_named js _, named_full js _))
    (λ q. by_test (eqb algorithm 3)
    (λ s. rw (p, q, s) (length_named js _, named_full js _))
    (λ s. let z = no_bounds (bounds_by js algorithm) (rw (p, q, s)) e in absurd (omega (arith, z)))))

-- the delays of an answer
delays_by_answer : (k : Result ⊤ Refusal) (by : Option (List ℕ)) (delays : List Delay) (answer : Bounds) → Ok answer ≡ answer_by k by delays → answer.delays ≡ delays
delays_by_answer (Ok tt) (Some bounds) delays answer e = cc
delays_by_answer (Ok tt) None delays answer e = cc
delays_by_answer (Err refusal) by delays answer e = cc

pub blocks_refused : (set : JobSet) (algorithm : ℕ) (refusal : Refusal) (memory : List ℕ) → Err refusal ≡ bounds_of set algorithm
    → (refusal_code refusal ≡ blocks_code (jobs_of set) algorithm memory) × (memory ≡ blocks_into (jobs_of set) algorithm memory)
unfolding bounds_of blocks_code blocks_into
blocks_refused set algorithm refusal memory e =
    refused_by (check_of (jobs_of set)) (bounds_by (jobs_of set) algorithm) _ refusal memory _ _ (ap bounds_alone e)

module _ (set : JobSet) (algorithm : ℕ) (answer : Bounds) (e : Ok answer ≡ bounds_of set algorithm) where
  abbrev js : List Job
  js = jobs_of set

  here : Found set algorithm answer.bounds (ap bounds_alone e)
  here = found set algorithm answer.bounds (ap bounds_alone e)

  delays_are : answer.delays ≡ padded max_jobs no_delay (delays_by js algorithm)
  unfolding bounds_of
  delays_are = delays_by_answer (check_of js) (bounds_by js algorithm) _ answer e

  pub blocks_few : set.count ≤ max_jobs
  blocks_few = bounds_few set algorithm answer.bounds (ap bounds_alone e)

  whole : Whole js (delays_by js algorithm)
  whole = whole_by js algorithm here.by

  front : take set.count answer.delays ≡ delays_by js algorithm
  front = ap (take set.count) delays_are ∙ front_padded no_delay set.count (delays_by js algorithm) (whole.0 ∙ length_jobs set)

  -- the number of the last job's chain is that of the chains
  module _ (last : Job) (is : last ≡ last_of no_job (take max_jobs js)) where
    chains_told : last.chain ≡ chains_of js
    chains_told = chains_are js last is (omega (arith, length_jobs set, blocks_few))

    pub blocks_chains : last.chain ≤ max_chains
    blocks_chains = rw chains_told (chains-within js (accepted js here.passed))

    pub blocks_size : set.count * (2 * last.chain + 1) ≤ max_jobs * (2 * max_chains + 1)
    blocks_size = delays_fit last.chain set.count blocks_few blocks_chains

    pub blocks_done : (check : Result ⊤ Refusal) (memory after : List ℕ) → check ≡ room_check (length (delays_numbers last.chain (take set.count answer.delays))) memory
        → after ≡ written (delays_numbers last.chain (take set.count answer.delays)) memory
        → (checked_code check (set.count * (2 * last.chain + 1)) ≡ blocks_code js algorithm memory) × (after ≡ blocks_into js algorithm memory)
    unfolding blocks_code blocks_into
    blocks_done check memory after checked put =
        let f = here in
        let numbers : delays_numbers last.chain (take set.count answer.delays) ≡ blocks_by js algorithm = rw (chains_told, front) refl in
        let size : length (blocks_by js algorithm) ≡ set.count * (2 * last.chain + 1) =
        length-delays (chains_of js) (delays_by js algorithm) (chains-within js (accepted js f.passed)) whole.1 ∙ rw (chains_told, whole.0, length_jobs set) refl in
        rw (f.passed, f.by, size) (ap (λ (k : Result ⊤ Refusal). checked_code k (set.count * (2 * last.chain + 1))) (rw (numbers, size) at checked), rw numbers at put)
