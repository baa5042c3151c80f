-- What a tick writes: into the completions its own end where it completes a job, and nothing else; no work beyond the table. Assumes a set that fits its
-- places.
use Rattle.std.specs.Prelude.{Result, Ok, Err, ⊤}
use Prim.Native.Nat.{ℕ, ◌+◌, ◌≤◌, ◌<◌}
use mathlib.Core.Path.{◌≡◌, refl, sym, ap, ◌∙◌}
use mathlib.Core.List.{List}
use native.Mathlib.Omega.{arith}
use lib.ListN.{length, get_or}
use Rattle.laws.specs.Words.{number_at}
use Rattle.laws.proofs.Tests.{by_test, by_equal, both_ways}
use Rattle.jobs.specs.declared.job.Job.{Job}
use Rattle.jobs.specs.Refusals.{on_pass, and_then}
use Rattle.jobs.specs.Limits.{max_jobs}
use Rattle.theory.specs.Table.{table_of}
use Rattle.theory.specs.Runs.{Entry, idle, runs, complete}
use Rattle.theory.proofs.Legal.{complete_eq, eq_complete}
use Rattle.machine.specs.declared.state.State.{State}
use Rattle.machine.specs.Ticks.{all_complete, pick, moved, next, machine_check, state_check, tick_of, step_of}
use Rattle.machine.specs.Claims.{Whole, Completes}
use Rattle.machine.proofs.Readiness.{worked_here, worked_other, complete_other, noted_here, noted_open, noted_other}
use Rattle.machine.proofs.Ticking.{pick_chosen, pick_open, next-moved, next_stays}
use Rattle.jobs.specs.declared.refusal.Refusal.{Refusal}

-- ---- a tick in which the job at k runs
module _ (js : List Job) (times : List ℕ) (few : length js ≤ max_jobs) (s : State) (whole : Whole s) (k : ℕ) (q : pick (table_of js) times s ≡ runs k) where
  abbrev later : State
  later = moved times (runs k) s

  inside : k < length js
  inside = (pick_chosen (table_of js) times s k q).inside

  worked : get_or later.work k 0 ≡ get_or s.work k 0 + 1
  worked = worked_here times s.work k (omega (arith, inside, whole.0))

  -- a job that becomes complete is the one that ran, with all its work done
  completes_all : (u : ℕ) → Completes js times s later u → (u ≡ k) × (get_or s.work k 0 + 1 ≡ get_or times k 0)
  completes_all u (l, before, after) =
      by_equal u k
      (λ e. (e, sym worked ∙ complete_eq times (number_at later.work) k (ap (complete times (number_at later.work)) (sym e) ∙ after)))
      (λ ne. absurd (both_ways after (complete_other times s.work k u ne ∙ before)))

  ran-written : (u : ℕ) → Completes js times s later u → number_at later.completions u ≡ s.time + 1
  ran-written u c =
      let (e, all) = completes_all u c in
      ap (number_at later.completions) e ∙ noted_here times s k (omega (arith, inside, whole.1)) all

  ran_kept : (u : ℕ) → (Completes js times s later u → ⊥) → number_at later.completions u ≡ number_at s.completions u
  ran_kept u never =
      by_equal u k
      (λ e.
      by_equal (get_or s.work k 0 + 1) (get_or times k 0)
      (λ all. absurd (never (rw e (inside, pick_open (table_of js) times s k q, eq_complete times (number_at later.work) k (worked ∙ all)))))
      (λ left. ap (λ (c : List ℕ). number_at c u) (noted_open times s k left)))
      (λ ne. noted_other times s k u ne)

-- ---- a tick: the state stays, or moves by what is picked
module _ (js : List Job) (times : List ℕ) (s : State) (P : State → Type 0) (stays : P s) (moves : (e : Entry) → pick (table_of js) times s ≡ e → P (moved times e s)) where
  by_next : P (next (table_of js) times s)
  by_next =
      by_test (all_complete times s.work (length js))
      (λ h. rw (next_stays (table_of js) times s h) stays)
      (λ h. rw (next-moved (table_of js) times s (pick (table_of js) times s) refl h) (moves (pick (table_of js) times s) refl))

  by_step : P (step_of js times s).state
  unfolding step_of tick_of
  by_step = by_check (and_then (machine_check js times) (state_check (table_of js) times s))
    where
      by_check : (c : Result ⊤ Refusal) → P (on_pass c (λ refusal. record { ticked = Err refusal; state = s }) (tick_of js times s)).state
      by_check (Ok tt) = by_next
      by_check (Err r) = stays

module _ (js : List Job) (times : List ℕ) (few : length js ≤ max_jobs) (s : State) (whole : Whole s) where
  pub completion_written : (u : ℕ) → Completes js times s (step_of js times s).state u → number_at (step_of js times s).state.completions u ≡ s.time + 1
  completion_written u =
      by_step js times s (λ later. Completes js times s later u → number_at later.completions u ≡ s.time + 1)
      (λ c. absurd (both_ways c.2 c.1))
      moves
    where
      moves : (e : Entry) → pick (table_of js) times s ≡ e → Completes js times s (moved times e s) u → number_at (moved times e s).completions u ≡ s.time + 1
      moves idle q c = absurd (both_ways c.2 c.1)
      moves (runs k) q c = ran-written js times few s whole k q u c

  pub completion_kept : (u : ℕ) → (Completes js times s (step_of js times s).state u → ⊥) → number_at (step_of js times s).state.completions u ≡ number_at s.completions u
  completion_kept u =
      by_step js times s (λ later. (Completes js times s later u → ⊥) → number_at later.completions u ≡ number_at s.completions u)
      (λ never. refl)
      moves
    where
      moves : (e : Entry) → pick (table_of js) times s ≡ e → (Completes js times s (moved times e s) u → ⊥) → number_at (moved times e s).completions u ≡ number_at s.completions u
      moves idle q never = refl
      moves (runs k) q never = ran_kept js times few s whole k q u never

pub work_kept : (js : List Job) (times : List ℕ) (s : State) (u : ℕ) → length js ≤ u → number_at (step_of js times s).state.work u ≡ number_at s.work u
work_kept js times s u beyond = by_step js times s (λ later. number_at later.work u ≡ number_at s.work u) refl moves
  where
    moves : (e : Entry) → pick (table_of js) times s ≡ e → number_at (moved times e s).work u ≡ number_at s.work u
    moves idle q = refl
    moves (runs k) q = worked_other times s.work k u (λ e. omega (arith, beyond, e, (pick_chosen (table_of js) times s k q).inside))
