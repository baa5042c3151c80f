-- Tables that agree in what the machine reads have the same run. Assumes nothing.
--   pick_alike          they pick the same job in each state
--   after_alike         the same state after each number of ticks
--   entry_alike         the same entry of each tick
--   completion_alike    the same end of the last tick that ran a job
--   completions_alike   the same completions
--   spans_alike         the same spans
--   events_alike        the same number of events, where the completions of their jobs are the same
--   steps_alike         the same steps
--   completed_alike     the same answer
use Prim.Native.Nat.{ℕ, zero, suc, ◌<◌}
use mathlib.Core.Path.{◌≡◌, refl, sym, ap, ◌∙◌}
use mathlib.Core.Bool.{true}
use mathlib.Core.List.{List}
use mathlib.Core.Logic.{◌⊎◌, inl, inr}
use native.Mathlib.Omega.{arith}
use Rattle.laws.proofs.Tests.{same_test}
use Rattle.laws.proofs.Tabulate.{tabulate_ext}
use Rattle.jobs.specs.Limits.{max_jobs}
use Rattle.theory.specs.Table.{Table}
use Rattle.theory.proofs.Columns.{Alike}
use Rattle.machine.specs.declared.state.State.{State}
use Rattle.machine.specs.declared.run.Completed.{Completed}
use Rattle.machine.specs.Ticks.{last_time, all_complete, best_up_to, pick, next}
use Rattle.machine.specs.Events.{is_event, events}
use Rattle.machine.specs.Runs.{after, entry, completion, finish, completions, steps_of, spans}
use Rattle.machine.proofs.Picks.{best_alike}
use Rattle.machine.proofs.Events.{event_released, event_completed, event_some, events-same}

-- the answer of a run that is not refused
abbrev pub completed_of : Table → List ℕ → Completed
completed_of t times = record { completions = completions t times; end = (finish t times).time; steps = steps_of t times }

-- an event of one table is one of the other
event_carried : {a b : Table} {n : ℕ} → Alike a b n → a.count ≡ n → b.count ≡ n → (f g : ℕ → ℕ) → ((u : ℕ) → u < n → f u ≡ g u)
    → (k : ℕ) → is_event a f k ≡ true → is_event b g k ≡ true
event_carried {a} {b} {n} same left right f g completed k e =
    let some = event_some a f k e in
    by_event some.0 (omega (arith, some.1)) some.2
  where
    by_event : (u : ℕ) → u < n → (a.earliest u ≡ k) ⊎ (f u ≡ k) → is_event b g k ≡ true
    by_event u l (inl is) = event_released b g k u (omega arith) (sym (same.release u l) ∙ is)
    by_event u l (inr is) = event_completed b g k u (omega arith) (sym (completed u l) ∙ is)

back : {a b : Table} {n : ℕ} → Alike a b n → Alike b a n
back same = record { chain = λ i l. sym (same.chain i l); urgency = λ i l. sym (same.urgency i l); release = λ i l. sym (same.release i l) }

module _ {a b : Table} {n : ℕ} (same : Alike a b n) (left : a.count ≡ n) (right : b.count ≡ n) where
  -- ---- the run
  module _ (times : List ℕ) where
    best_whole : (s : State) → best_up_to a times s a.count ≡ best_up_to b times s b.count
    best_whole s = ap (best_up_to a times s) left ∙ best_alike same times s n (omega arith) ∙ ap (best_up_to b times s) (sym right)

    pub pick_alike : (s : State) → pick a times s ≡ pick b times s
    unfolding pick
    pick_alike s = rw (best_whole s)

    next_alike : (s : State) → next a times s ≡ next b times s
    unfolding next
    next_alike s = rw (ap (all_complete times s.work) (left ∙ sym right), pick_alike s)

    pub after_alike : (k : ℕ) → after a times k ≡ after b times k
    unfolding after
    after_alike zero = refl
    after_alike (suc k) = rw (after_alike k) (next_alike (after b times k))

    pub entry_alike : (k : ℕ) → entry a times k ≡ entry b times k
    unfolding entry
    entry_alike k = rw (after_alike k) (pick_alike (after b times k))

    pub completion_alike : (u k : ℕ) → completion a times u k ≡ completion b times u k
    unfolding completion
    completion_alike u zero = refl
    completion_alike u (suc k) = rw (entry_alike k, completion_alike u k)

    pub completions_alike : completions a times ≡ completions b times
    unfolding completions
    completions_alike = tabulate_ext 0 max_jobs _ _ (λ u from below. completion_alike u last_time)

    pub spans_alike : (k : ℕ) → spans a times k ≡ spans b times k
    unfolding spans
    spans_alike zero = refl
    spans_alike (suc k) = rw (entry_alike k, spans_alike k)

  -- ---- the events
  pub events_alike : (f g : ℕ → ℕ) → ((u : ℕ) → u < n → f u ≡ g u) → (k : ℕ) → events a f k ≡ events b g k
  events_alike f g completed =
      events-same a b f g
      (λ k. same_test (is_event a f k) (is_event b g k) (event_carried same left right f g completed k) (event_carried (back same) right left g f (λ u l. sym (completed u l)) k))

  module _ (times : List ℕ) where
    pub steps_alike : steps_of a times ≡ steps_of b times
    steps_alike = events_alike (λ u. completion a times u last_time) (λ u. completion b times u last_time) (λ u l. completion_alike times u last_time) last_time

    pub completed_alike : completed_of a times ≡ completed_of b times
    completed_alike = rw (completions_alike times, after_alike times last_time, steps_alike)
