-- A tick on a state in memory: too few numbers, a refusal, what is written, and what a job that ran is called. Assumes nothing.
use Rattle.std.specs.Prelude.{Result, Ok, Err, ⊤}
use Prim.Native.Nat.{ℕ, ◌+◌, ◌*◌, ◌≤◌, ◌<◌}
use mathlib.Core.Path.{◌≡◌, refl, sym, ap, subst, ◌∙◌}
use mathlib.Core.Bool.{Bool, true, false, cond}
use mathlib.Core.List.{List}
use native.Mathlib.Omega.{arith}
use lib.IntN.{ℤ, pos}
use lib.Signed.{lt_z}
use lib.ListN.{length, get_or-eq_default}
use borrow.Author.Tests.{le-ltb}
use Rattle.laws.specs.Words.{written}
use Rattle.laws.proofs.Tests.{by_order, both_ways}
use Rattle.jobs.specs.declared.job.Job.{Job}
use Rattle.jobs.specs.declared.refusal.Refusal.TheVariants.{ShortBuffer}
use Rattle.jobs.specs.Limits.{max_jobs, max_chains}
use Rattle.jobs.specs.Refusals.{on_pass, and_then}
use Rattle.jobs.specs.Jobs.{no_job, job_at}
use Rattle.jobs.specs.Checks.{check_of}
use Rattle.jobs.proofs.Checks.{then_first}
use Rattle.jobs.proofs.Accepted.{Accepted, accepted, job-place}
use Rattle.theory.specs.Table.{table_of}
use Rattle.theory.specs.Runs.{Entry, idle, runs}
use Rattle.machine.specs.declared.state.State.{State}
use Rattle.machine.specs.declared.step.Ticked.{Ticked}
use Rattle.machine.specs.declared.step.Stepped.{Stepped}
use Rattle.machine.specs.Ticks.{all_complete, machine_check, state_check, pick, ran_as, tick_of, step_of}
use Rattle.numbers.specs.Numbers.{state_size, state_numbers, state_in}
use Rattle.numbers.proofs.Rooms.{room_passes, room_short}
use Rattle.numbers.proofs.States.{memory_back}
use Rattle.cudlomer.specs.Codes.{refusal_code, chain_step, ticked_code}
use Rattle.cudlomer.specs.Sets.{tick_check, tick_code, tick_into}
use Rattle.jobs.specs.declared.refusal.Refusal.{Refusal}

-- ---- a state of too few numbers
short_by : (k : Result ⊤ Refusal) (code : ℤ) (memory after : List ℕ)
    → (on_pass k refusal_code (refusal_code ShortBuffer) ≡ on_pass (and_then k (Err ShortBuffer)) refusal_code code) × (memory ≡ on_pass (and_then k (Err ShortBuffer)) (λ refusal. memory) after)
short_by (Ok tt) code memory after = (refl, refl)
short_by (Err r) code memory after = (refl, refl)

pub tick_short : (js : List Job) (times memory : List ℕ) → length memory < state_size
    → (on_pass (machine_check js times) refusal_code (refusal_code ShortBuffer) ≡ tick_code js times memory) × (memory ≡ tick_into js times memory)
unfolding tick_check tick_code tick_into
tick_short js times memory h = rw (← room_short state_size memory h) (short_by (machine_check js times) _ memory _)

-- ---- a state of enough numbers
abbrev step_by : Result ⊤ Refusal → State → Stepped → Stepped
step_by check s done = on_pass check (λ refusal. record { ticked = Err refusal; state = s }) done

done_by : (k j : Result ⊤ Refusal) (s : State) (done : Stepped) (memory : List ℕ) → written (state_numbers s) memory ≡ memory
    → (ticked_code (step_by (and_then k j) s done).ticked ≡ on_pass (and_then k (and_then (Ok tt) j)) refusal_code (ticked_code done.ticked))
    × (written (state_numbers (step_by (and_then k j) s done).state) memory ≡ on_pass (and_then k (and_then (Ok tt) j)) (λ refusal. memory) (written (state_numbers done.state) memory))
done_by (Ok a) (Ok b) s done memory back = (refl, refl)
done_by (Ok a) (Err r) s done memory back = (refl, back)
done_by (Err r) j s done memory back = (refl, back)

pub tick_done : (js : List Job) (times memory after : List ℕ) (stepped : Stepped) → state_size ≤ length memory → stepped ≡ step_of js times (state_in memory)
    → after ≡ written (state_numbers stepped.state) memory → (ticked_code stepped.ticked ≡ tick_code js times memory) × (after ≡ tick_into js times memory)
unfolding tick_check tick_code tick_into step_of
tick_done js times memory after stepped h e q =
    let both = done_by (machine_check js times) (state_check (table_of js) times (state_in memory)) (state_in memory) (tick_of js times (state_in memory)) memory (memory_back memory h) in
    rw (← room_passes state_size memory h) (ap (λ (x : Stepped). ticked_code x.ticked) e ∙ both.0, q ∙ ap (λ (x : Stepped). written (state_numbers x.state) memory) e ∙ both.1)

-- ---- a refused tick, whose answer alone is below zero
none_below : (js : List Job) (complete : Bool) (e : Entry) → lt_z (ticked_code (Ok (cond complete Ticked.Finished (ran_as js e)))) (pos 0) ≡ false
none_below js true e = refl
none_below js false idle = refl
none_below js false (runs u) = le-ltb ((job_at js u).chain * chain_step + (job_at js u).job) 0 (omega arith)

kept_by : (k j : Result ⊤ Refusal) (s : State) (done : Stepped) → lt_z (ticked_code done.ticked) (pos 0) ≡ false → lt_z (ticked_code (step_by (and_then k j) s done).ticked) (pos 0) ≡ true → (step_by (and_then k j) s done).state ≡ s
kept_by (Ok a) (Ok b) s done none below = absurd (both_ways below none)
kept_by (Ok a) (Err r) s done none below = refl
kept_by (Err r) j s done none below = refl

state_kept : (js : List Job) (times : List ℕ) (s : State) → lt_z (ticked_code (step_of js times s).ticked) (pos 0) ≡ true → (step_of js times s).state ≡ s
unfolding step_of tick_of
state_kept js times s =
    let t = table_of js in
    kept_by (machine_check js times) (state_check t times s) s (tick_of js times s) (none_below js (all_complete times s.work t.count) (pick t times s))

pub tick_refused : (js : List Job) (times memory : List ℕ) (stepped : Stepped) → state_size ≤ length memory → stepped ≡ step_of js times (state_in memory) → lt_z (ticked_code stepped.ticked) (pos 0) ≡ true
    → (ticked_code stepped.ticked ≡ tick_code js times memory) × (memory ≡ tick_into js times memory)
tick_refused js times memory stepped h e below =
    let kept : stepped.state ≡ state_in memory = rw e (state_kept js times (state_in memory) (rw e at below)) in
    tick_done js times memory memory stepped h e (sym (ap (λ (s : State). written (state_numbers s) memory) kept ∙ memory_back memory h))

-- ---- the chain and the job that ran have small numbers
abbrev Small : Result Ticked Refusal → Type 0
Small (Ok (Ticked.Ran chain job)) = (chain ≤ max_chains) × (job ≤ max_jobs)
Small (Ok Ticked.Idle) = Unit
Small (Ok Ticked.Finished) = Unit
Small (Err refusal) = Unit

small_job : (js : List Job) → Accepted js → (u : ℕ) → ((job_at js u).chain ≤ max_chains) × ((job_at js u).job ≤ max_jobs)
small_job js ok u =
    by_order (length js) u
    (λ beyond. rw (get_or-eq_default js no_job beyond) (omega arith, omega arith))
    (λ within. ((ok.limits u within).chains, omega (arith, job-place js ok u within, ok.few)))

small_entry : (js : List Job) → Accepted js → (complete : Bool) (e : Entry) → Small (Ok (cond complete Ticked.Finished (ran_as js e)))
small_entry js ok true e = tt
small_entry js ok false idle = tt
small_entry js ok false (runs u) = small_job js ok u

small_by : (k j : Result ⊤ Refusal) (s : State) (done : Stepped) → (k ≡ Ok tt → Small done.ticked) → Small (step_by (and_then k j) s done).ticked
small_by (Ok a) (Ok b) s done small = small refl
small_by (Ok a) (Err r) s done small = tt
small_by (Err r) j s done small = tt

pub ran_small : (js : List Job) (times : List ℕ) (s : State) (stepped : Stepped) → stepped ≡ step_of js times s → (chain job : ℕ) → stepped.ticked ≡ Ok (Ticked.Ran chain job) → (chain ≤ max_chains) × (job ≤ max_jobs)
unfolding step_of tick_of machine_check
ran_small js times s stepped e chain job ran =
    let t = table_of js in
    let small = small_by (machine_check js times) (state_check t times s) s (tick_of js times s)
    (λ passed. small_entry js (accepted js (then_first (check_of js) _ passed)) (all_complete times s.work t.count) (pick t times s)) in
    subst Small (ap (λ (x : Stepped). x.ticked) (sym e) ∙ ran) small
