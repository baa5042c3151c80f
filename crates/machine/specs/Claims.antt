-- What is proved of the machine for accepted sets and running times in range; proofs/Claims has the proof of all. Assumes nothing.
use Rattle.std.specs.Prelude.{Ok, ℕ, suc, ◌+◌, ◌*◌, ◌≤◌, ◌<◌, ◌≡◌, ◌↔◌, ◌⊎◌, true, false, cond, ◌&&◌, List, [], ◌∷◌, leb, ltb, length}
use Rattle.laws.specs.Words.{number_at, tabulate}
use Rattle.jobs.specs.declared.{job.Job.Job}
use Rattle.jobs.specs.Limits.{max_jobs}
use Rattle.theory.specs.{Table.table_of, Bounds.itr, Runs.Entry, Runs.idle, Runs.runs, Runs.complete, Runs.is_run}
use Rattle.machine.specs.declared.{state.State.State, step.Ticked.Ticked, trace.Span.Span}
use Rattle.machine.specs.{Ticks.last_time, Ticks.all_complete, Ticks.machine_check, Ticks.state_check, Ticks.tick_of, Ticks.step_of, Events.is_event, Runs.after, Runs.entry, Runs.completion, Runs.finish, Runs.completions, Runs.steps_of, Runs.traced}

-- The entry of tick n, read from spans: the job whose span holds it, or idle.
unfoldable pub span_entry : List Span → ℕ → Entry
span_entry [] n = idle
span_entry (s ∷ ss) n =
    let others = span_entry ss n in
    cond (leb s.from n && ltb n s.to) (runs s.at) others

-- As many entries of work and of completions as a set has places, as in every state that code holds.
abbrev pub Whole : State → Type 0
Whole s = (length s.work ≡ max_jobs) × (length s.completions ≡ max_jobs)

-- Between two states the job at u becomes complete.
abbrev pub Completes : List Job → List ℕ → State → State → ℕ → Type 0
Completes js times s later u =
    (u < length js) × (complete times (number_at s.work) u ≡ false) × (complete times (number_at later.work) u ≡ true)

-- Two states that differ at most in completions of jobs that are not complete, and in what stands beyond the table.
pub record SameRead (js : List Job) (times : List ℕ) (s other : State) : Type 0 where
  pub time : other.time ≡ s.time
  pub work : (u : ℕ) → u < length js → number_at other.work u ≡ number_at s.work u
  pub completions : (u : ℕ) → u < length js → complete times (number_at s.work) u ≡ true → number_at other.completions u ≡ number_at s.completions u
  pub whole : Whole s × Whole other

-- One field for each theorem on the machine's ticks, its run and its trace.
pub record Claims (js : List Job) (times : List ℕ) : Type 0 where
  -- The run ends before the limit on times, with all jobs complete.
  pub run_ends : ((finish (table_of js) times).time < last_time) × (all_complete times (finish (table_of js) times).work (length js) ≡ true)
  -- A tick says "finished" exactly when all jobs are complete, in any state.
  pub finished_when : (s : State) → ((tick_of js times s).ticked ≡ Ok Ticked.Finished) ↔ (all_complete times s.work (length js) ≡ true)
  -- The entries of the machine's first n ticks are a run of demand 3, for every n, with the effective releases.
  pub machine_legal : (n : ℕ) → is_run (table_of js) (table_of js).earliest times (tabulate 0 n (entry (table_of js) times)) ≡ true
  -- Each completion is at or before its ITR bound.
  pub machine_keeps_bounds : (u : ℕ) → u < length js → number_at (completions (table_of js) times) u ≤ number_at (itr (table_of js)).bounds u
  -- A job that runs and is not complete after the tick is followed by itself or by a strictly more urgent job: an equal does not displace it.
  pub equals_not_displaced : (n u v : ℕ) → entry (table_of js) times n ≡ runs u → complete times (number_at (after (table_of js) times (suc n)).work) u ≡ false
      → entry (table_of js) times (suc n) ≡ runs v → (v ≡ u) ⊎ ((table_of js).urgency u < (table_of js).urgency v)
  -- A tick that completes a job writes its own end as the job's completion.
  pub completion_written : (s : State) → Whole s → (u : ℕ) → Completes js times s (step_of js times s).state u
      → number_at (step_of js times s).state.completions u ≡ s.time + 1
  -- A tick changes no other completion.
  pub completion_kept : (s : State) → Whole s → (u : ℕ) → (Completes js times s (step_of js times s).state u → ⊥)
      → number_at (step_of js times s).state.completions u ≡ number_at s.completions u
  -- A tick changes no work beyond the table.
  pub work_kept : (s : State) (u : ℕ) → length js ≤ u → number_at (step_of js times s).state.work u ≡ number_at s.work u
  -- Completions of jobs that are not complete, and what stands beyond the table, are not read: where states differ in nothing else, a tick gives the same
  -- answer, and the states after it again differ in nothing else.
  pub entries_unread : (s other : State) → SameRead js times s other
      → ((step_of js times other).ticked ≡ (step_of js times s).ticked) × SameRead js times (step_of js times s).state (step_of js times other).state
  -- The state's completion of a complete job is that of the run.
  pub state_completions : (n u : ℕ) → complete times (number_at (after (table_of js) times n).work) u ≡ true
      → number_at (after (table_of js) times n).completions u ≡ completion (table_of js) times u n
  -- No state of the run is refused with 11.
  pub run_possible : (n : ℕ) → state_check (table_of js) times (after (table_of js) times n) ≡ Ok tt
  -- The trace, read as spans, gives back the entries tick for tick.
  pub trace_gives_back : (n : ℕ) → n < last_time → span_entry (traced js times) n ≡ entry (table_of js) times n
  -- The trace has at most twice as many entries as there are jobs.
  pub trace_within_twice : length (traced js times) ≤ 2 * length js
  -- The run has at most as many steps.
  pub steps_within_twice : steps_of (table_of js) times ≤ 2 * length js
  -- No job is released or completes after the end of the run, so that the steps leave no event out.
  pub events_by_the_end : (n : ℕ) → is_event (table_of js) (λ u. completion (table_of js) times u last_time) n ≡ true → n ≤ (finish (table_of js) times).time

-- They hold of every set and running times that pass the checks 4 to 8.
abbrev pub EveryMachine : Type 0
EveryMachine = (js : List Job) (times : List ℕ) → machine_check js times ≡ Ok tt → Claims js times
