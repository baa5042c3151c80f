-- A run and a trace as C sees them: what is refused, the completions in memory, and numbers that fit. Assumes nothing.
use Rattle.std.specs.Prelude.{Result, Ok, Err, ⊤}
use Prim.Native.Nat.{ℕ, ◌≤◌}
use mathlib.Core.Path.{◌≡◌, refl, sym, ap, ◌∙◌}
use mathlib.Core.List.{List}
use native.Mathlib.Omega.{arith}
use lib.ListN.{length, take}
use lib.Seq.{length-take-le}
use Rattle.laws.specs.Words.{written}
use Rattle.laws.proofs.Tabulate.{length-tabulate}
use Rattle.jobs.specs.declared.job.Job.{Job}
use Rattle.jobs.specs.declared.refusal.Refusal.{Refusal}
use Rattle.jobs.specs.Limits.{max_jobs}
use Rattle.jobs.specs.Refusals.{on_pass}
use Rattle.jobs.specs.Checks.{check_of}
use Rattle.jobs.proofs.Checks.{then_first}
use Rattle.jobs.proofs.Accepted.{accepted}
use Rattle.theory.specs.Table.{table_of}
use Rattle.machine.specs.declared.run.Completed.{Completed}
use Rattle.machine.specs.declared.trace.Traced.{Traced}
use Rattle.machine.specs.Ticks.{last_time, machine_check}
use Rattle.machine.specs.Runs.{completions, steps_of, run_of, trace_check, traced, trace_of}
use Rattle.machine.proofs.Alike.{completed_of}
use Rattle.machine.proofs.Claims.{claims}
use Rattle.machine.proofs.Runnable.{run_refused as run_stopped, run_passed}
use Rattle.numbers.specs.Numbers.{room_check}
use Rattle.cudlomer.specs.Codes.{refusal_code, checked_code}
use Rattle.cudlomer.specs.Sets.{run_code, run_into}

-- running times that pass are of few jobs
few_jobs : (js : List Job) (times : List ℕ) → machine_check js times ≡ Ok tt → length js ≤ max_jobs
unfolding machine_check
few_jobs js times passed = (accepted js (then_first (check_of js) _ passed)).few

module _ (js : List Job) (times : List ℕ) (answer : Result Completed Refusal) (e : answer ≡ run_of js times) where
  pub run_refused : (refusal : Refusal) (memory : List ℕ) → answer ≡ Err refusal → (refusal_code refusal ≡ run_code js times memory) × (memory ≡ run_into js times memory)
  unfolding run_code run_into
  run_refused refusal memory told = rw (← e, told) (refl, refl)

  module _ (run : Completed) (told : answer ≡ Ok run) where
    passed_by : (k : Result ⊤ Refusal) → machine_check js times ≡ k → k ≡ Ok tt
    passed_by (Ok tt) k = refl
    passed_by (Err r) k =
        let z : ◌≡◌ {A = ℕ} 0 1 = cc (sym told ∙ e ∙ run_stopped js times r k) in absurd (omega arith)

    passed : machine_check js times ≡ Ok tt
    passed = passed_by (machine_check js times) refl

    run_is : run ≡ completed_of (table_of js) times
    run_is = cc (sym told ∙ e ∙ run_passed js times passed)

    run_few : length js ≤ max_jobs
    run_few = few_jobs js times passed

    pub run_end : run.end ≤ last_time
    run_end = omega (arith, ap (λ (r : Completed). r.end) run_is, (claims js times passed).run_ends.0)

    pub steps_few : run.steps ≤ last_time
    steps_few = omega (arith, ap (λ (r : Completed). r.steps) run_is, (claims js times passed).steps_within_twice, run_few)

    length-done : length run.completions ≡ max_jobs
    unfolding completions
    length-done = ap (λ (r : Completed). length r.completions) run_is ∙ length-tabulate 0 max_jobs _

    pub run_room : length js ≤ length run.completions
    run_room = omega (arith, length-done, run_few)

    pub run-done : (check : Result ⊤ Refusal) (memory after : List ℕ) (count : ℕ) → count ≡ length js
        → (check ≡ room_check (length (take count run.completions)) memory) × (after ≡ written (take count run.completions) memory)
        → (checked_code check run.end ≡ run_code js times memory) × (after ≡ run_into js times memory)
    unfolding run_code run_into
    run-done check memory after count n put =
        let size : length (take (length js) run.completions) ≡ length js = length-take-le (length js) run.completions run_room in
        let there = rw n at put in
        rw (← e, told) (ap (λ (k : Result ⊤ Refusal). checked_code k run.end) (rw size at there.0), there.1)

-- ---- the entries of a trace are few
entries_by : (k : Result ⊤ Refusal) (t s : Traced) → ◌≡◌ {A = Result Traced Refusal} (on_pass k Err (Ok t)) (Ok s) → (k ≡ Ok tt → t.entries ≤ last_time) → s.entries ≤ last_time
entries_by (Ok tt) t s e few =
    let same : t ≡ s = cc e in
    omega (arith, ap (λ (x : Traced). x.entries) same, few refl)
entries_by (Err r) t s e few = let z : ◌≡◌ {A = ℕ} 0 1 = cc e in absurd (omega arith)

pub entries_few : (js : List Job) (times : List ℕ) (room : ℕ) (answer : Result Traced Refusal) → answer ≡ trace_of js times room → (t : Traced) → answer ≡ Ok t → t.entries ≤ last_time
unfolding trace_of trace_check
entries_few js times room answer e t told =
    entries_by (trace_check js times room) (record { entries = length (traced js times); steps = steps_of (table_of js) times }) t (sym e ∙ told)
    (λ all.
    let passed = then_first (machine_check js times) _ all in
    omega (arith, (claims js times passed).trace_within_twice, few_jobs js times passed))
