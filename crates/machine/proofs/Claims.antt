-- The theorems of specs/Claims, for every accepted set and running times in range. Assumes nothing.
use Rattle.std.specs.Prelude.{Result, Ok}
use Prim.Native.Nat.{ℕ, zero, suc, ◌*◌, ◌≤◌, ◌<◌}
use mathlib.Core.Path.{◌≡◌, refl, ap, ◌∙◌}
use mathlib.Core.Bool.{Bool, true, false, cond}
use mathlib.Core.List.{List}
use mathlib.Core.Logic.{◌⊎◌, ◌↔◌}
use native.Mathlib.Omega.{arith}
use native.Mathlib.Nat.{zero-add}
use lib.ListN.{length}
use Rattle.laws.specs.Words.{tabulate, number_at}
use Rattle.laws.proofs.Tests.{by_test, by_order}
use Rattle.laws.proofs.Sums.{sum_mono}
use Rattle.laws.proofs.Tabulate.{get_d_tabulate}
use Rattle.jobs.specs.declared.job.Job.{Job}
use Rattle.jobs.specs.declared.refusal.Refusal.{Refusal}
use Rattle.jobs.specs.Limits.{max_jobs}
use Rattle.theory.specs.Table.{Table, table_of}
use Rattle.theory.specs.Bounds.{itr}
use Rattle.theory.specs.Runs.{Entry, idle, runs, names, work, complete, is_run}
use Rattle.theory.proofs.AcceptedSets.{accepted_well}
use Rattle.theory.proofs.Releases.{earliest_latest}
use Rattle.theory.proofs.Legal.{complete_eq, releases-to, run_by, run_from}
use Rattle.theory.proofs.Work.{named, legal_at, complete_stays}
use Rattle.theory.proofs.Claims.{claims as theory_claims}
use Rattle.machine.specs.declared.state.State.{State}
use Rattle.machine.specs.declared.step.Ticked.{Ticked}
use Rattle.machine.specs.declared.step.Ticked.TheVariants.{Finished}
use Rattle.machine.specs.Ticks.{last_time, all_complete, machine_check, state_check, pick, ran_as, tick_of}
use Rattle.machine.specs.Events.{is_event}
use Rattle.machine.specs.Runs.{after, entry, completion, finish, steps_of, completions, traced}
use Rattle.theory.proofs.Runnable.{last_release, Runnable}
use Rattle.machine.specs.Claims.{span_entry, EveryMachine}
use Rattle.machine.proofs.RunningTimes.{sum_of, set_passed, set_accepted, times_fit_lem}
use Rattle.machine.proofs.Runnable.{runnable, goes, work_limit, run-complete, run_early}
use Rattle.machine.proofs.Events.{events_few}
use Rattle.machine.proofs.Steps.{done, event_within}
use Rattle.machine.proofs.Spans.{spans_within_twice}
use Rattle.machine.proofs.Legality.{run_length, run-entry, entries_legal}
use Rattle.machine.proofs.Reading.{spans_give_back}
use Rattle.machine.proofs.Completions.{kept_complete}
use Rattle.machine.proofs.Equals.{equals_not_displaced}
use Rattle.machine.proofs.Possible.{state_possible}
use Rattle.machine.proofs.Written.{completion_written, completion_kept, work_kept}
use Rattle.machine.proofs.Unread.{entries_unread}

-- ---- in any state
-- "finished" is no answer of a tick with an entry
ran_not : (js : List Job) (e : Entry) → ran_as js e ≡ Finished → ⊥
ran_not js idle q = let z : ◌≡◌ {A = ℕ} 0 1 = cc in omega arith
ran_not js (runs u) q = let z : ◌≡◌ {A = ℕ} 0 1 = cc in omega arith

finished_when : (js : List Job) (times : List ℕ) (s : State) → ((tick_of js times s).ticked ≡ Ok Finished) ↔ (all_complete times s.work (length js) ≡ true)
unfolding tick_of
finished_when js times s = (
  by_all (all_complete times s.work (length js)) (ran_as js (pick (table_of js) times s)) (ran_not js (pick (table_of js) times s)),
  λ h. rw h,
)
  where
    by_all : (b : Bool) (other : Ticked) → (other ≡ Finished → ⊥) → ◌≡◌ {A = Result Ticked Refusal} (Ok (cond b Finished other)) (Ok Finished) → b ≡ true
    by_all true other ne q = refl
    by_all false other ne q = absurd (ne (cc q))

-- ---- of the run
module _ (js : List Job) (times : List ℕ) (passed : machine_check js times ≡ Ok tt) where
  abbrev t : Table
  t = table_of js

  abbrev now : Runnable t times
  now = runnable js times passed

  run_ends : ((finish t times).time < last_time) × (all_complete times (finish t times).work (length js) ≡ true)
  run_ends = (run_early now, run-complete now)

  machine_legal : (n : ℕ) → is_run t t.earliest times (tabulate 0 n (entry t times)) ≡ true
  machine_legal n =
      run_by t t.earliest times (tabulate 0 n (entry t times))
      (releases-to t t.earliest (record { early = λ u l. omega arith; late = λ u l. omega (arith, earliest_latest js u) }))
      (times_fit_lem js times passed)
      (entries_legal t times last_release now.few now.released n)

  module _ (u : ℕ) (l : u < length js) where
    -- a job does not run at its bound or after it
    not_late : (m : ℕ) → entry t times m ≡ runs u → m < number_at (itr t).bounds u
    not_late m e =
        by_order (number_at (itr t).bounds u) m
        (λ late.
        let is = machine_legal (suc m) in
        let well = accepted_well js (set_accepted js times passed) in
        let few = now.few in
        let rel = now.released in
        let at = run-entry t times last_release few rel (suc m) m (omega arith) in
        let done : complete times (work (tabulate 0 (suc m) (entry t times)) (number_at (itr t).bounds u)) u ≡ true
        = (theory_claims js (set_passed js times passed)).demand_3.by_itr u l t.earliest times (tabulate 0 (suc m) (entry t times)) is (omega (arith, run_length t times last_release few rel (suc m))) in
        let before = complete_eq times (work (tabulate 0 (suc m) (entry t times)) (number_at (itr t).bounds u)) u done in
        absurd ((legal_at well (run_from is) m u (at ∙ e)).1.unfinished (complete_stays well (run_from is) u (number_at (itr t).bounds u) m late before)))
        (λ early. early)

    completion-bound : (n : ℕ) → completion t times u n ≤ number_at (itr t).bounds u
    unfolding completion
    completion-bound zero = omega arith
    completion-bound (suc n) =
        by_test (names (entry t times n) u)
        (λ h. rw h (not_late n (named (entry t times n) u h)))
        (λ h. rw h (completion-bound n))

    machine_keeps_bounds : number_at (completions t times) u ≤ number_at (itr t).bounds u
    unfolding completions
    machine_keeps_bounds =
        let e : number_at (tabulate 0 max_jobs (λ k. completion t times k last_time)) u ≡ completion t times u last_time
        = get_d_tabulate 0 max_jobs (λ k. completion t times k last_time) 0 u (omega (arith, now.few)) ∙ ap (λ (k : ℕ). completion t times k last_time) (zero-add u) in
        rw e (completion-bound last_time)

  not_displaced : (n u v : ℕ) → entry t times n ≡ runs u → complete times (number_at (after t times (suc n)).work) u ≡ false
      → entry t times (suc n) ≡ runs v → (v ≡ u) ⊎ (t.urgency u < t.urgency v)
  not_displaced = equals_not_displaced t times last_release now.few now.released

  state_completions : (n u : ℕ) → complete times (number_at (after t times n).work) u ≡ true → number_at (after t times n).completions u ≡ completion t times u n
  state_completions = kept_complete t times last_release now.few now.released

  run_possible : (n : ℕ) → state_check t times (after t times n) ≡ Ok tt
  run_possible n =
      let g = goes now n in
      let done : sum_of (after t times n).work (length js) ≤ sum_of times (length js) = sum_mono (length js) (λ i. number_at (after t times n).work i) (λ i. number_at times i) g.within in
      state_possible t times last_release now.few now.released now.positive n (omega (arith, g.early, done, work_limit now))

  trace_gives_back : (n : ℕ) → n < last_time → span_entry (traced js times) n ≡ entry t times n
  trace_gives_back n l = spans_give_back t times last_time n l

  trace_within_twice : length (traced js times) ≤ 2 * length js
  trace_within_twice = spans_within_twice t times last_release now.few now.released last_time

  steps_within_twice : steps_of t times ≤ 2 * length js
  steps_within_twice = events_few t (done t times) last_time

  events_by_the_end : (n : ℕ) → is_event t (done t times) n ≡ true → n ≤ (finish t times).time
  events_by_the_end = event_within now

pub claims : EveryMachine
claims js times passed =
    record {
      run_ends = run_ends js times passed;
      finished_when = finished_when js times;
      machine_legal = machine_legal js times passed;
      machine_keeps_bounds = machine_keeps_bounds js times passed;
      equals_not_displaced = not_displaced js times passed;
      completion_written = completion_written js times (runnable js times passed).few;
      completion_kept = completion_kept js times (runnable js times passed).few;
      work_kept = work_kept js times;
      entries_unread = entries_unread js times (runnable js times passed).few;
      state_completions = state_completions js times passed;
      run_possible = run_possible js times passed;
      trace_gives_back = trace_gives_back js times passed;
      trace_within_twice = trace_within_twice js times passed;
      steps_within_twice = steps_within_twice js times passed;
      events_by_the_end = events_by_the_end js times passed;
    }
