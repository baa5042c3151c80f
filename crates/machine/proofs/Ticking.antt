-- One tick: what the scan over columns finds, and the three ways that a tick can go. Assumes nothing.
use Rattle.std.specs.Prelude.{Ok, Err, Option, Some, None}
use Prim.Native.Nat.{ℕ, ◌≤◌, ◌<◌}
use mathlib.Core.Path.{◌≡◌, refl, sym, ap, ◌∙◌}
use mathlib.Core.Bool.{Bool, true, false, ◌&&◌}
use mathlib.Core.List.{List}
use native.Mathlib.Omega.{arith}
use lib.Dec.{leb}
use lib.ListN.{length, get_or}
use borrow.Author.Tests.{leb-true, lt-leb, le-leb}
use Rattle.laws.proofs.Tests.{and_left, and_right, and_parts}
use Rattle.jobs.specs.declared.job.Job.{Job}
use Rattle.jobs.specs.declared.set.JobSet.{JobSet}
use Rattle.jobs.specs.declared.refusal.Refusal.{Refusal}
use Rattle.jobs.specs.declared.refusal.Refusal.TheVariants.{ImpossibleState}
use Rattle.jobs.specs.Refusals.{unless}
use Rattle.jobs.specs.Limits.{max_jobs}
use Rattle.jobs.specs.Jobs.{no_job, jobs_of, job_at}
use Rattle.jobs.proofs.Sets.{length_jobs, job_at_lem}
use Rattle.theory.specs.Table.{Table, table_of}
use Rattle.theory.specs.Runs.{Entry, idle, runs, complete}
use Rattle.theory.proofs.Columns.{seen, shown, Alike}
use Rattle.machine.specs.declared.state.State.{State}
use Rattle.machine.specs.declared.pick.Best.{Best}
use Rattle.machine.specs.declared.step.Ticked.TheVariants.{Ran, Idle, Finished}
use Rattle.laws.specs.Words.{every_below, number_at}
use Rattle.machine.specs.Ticks.{last_time, all_complete, ready_in, machine_check, best_up_to, entry_by, pick, moved, next, tick_of, work_possible, completion_possible, possible, state_check, step_of}
use Rattle.laws.proofs.Every.{every_not, every_at, every_ext}
use Rattle.theory.proofs.Legal.{complete_ne, ready_parts}
use Rattle.machine.proofs.Readiness.{predecessor_alike}
use Rattle.machine.proofs.RunningTimes.{set_accepted, times-each}
use Rattle.machine.proofs.Picks.{Chosen, Picked, picked_up_to, best_alike}

-- ---- the scan
module _ {a t : Table} {n : ℕ} (h : Alike a t n) (whole : t.count ≡ n) (times : List ℕ) (s : State) (best : Option Best) (e : best ≡ best_up_to a times s n) where
  scanned : best ≡ best_up_to t times s t.count
  scanned = e ∙ best_alike h times s n (omega arith) ∙ ap (best_up_to t times s) (sym whole)

  pub scan_picks : pick t times s ≡ entry_by best
  unfolding pick
  scan_picks = rw (← scanned)

-- ---- the pick
module _ (t : Table) (times : List ℕ) (s : State) where
  pub pick_chosen : (u : ℕ) → pick t times s ≡ runs u → Chosen t times s t.count u
  unfolding pick
  pick_chosen u = by_picked (best_up_to t times s t.count) (picked_up_to t times s t.count)
    where
      by_picked : (best : Option Best) → Picked t times s t.count best → entry_by best ≡ runs u → Chosen t times s t.count u
      by_picked None h e = let z : ◌≡◌ {A = ℕ} 0 1 = cc in absurd (omega arith)
      by_picked (Some best) h e = let same : best.at ≡ u = cc in rw same at h.1

  pub pick_none : pick t times s ≡ idle → (k : ℕ) → k < t.count → ready_in t times s k ≡ false
  unfolding pick
  pick_none = by_picked (best_up_to t times s t.count) (picked_up_to t times s t.count)
    where
      by_picked : (best : Option Best) → Picked t times s t.count best → entry_by best ≡ idle → (k : ℕ) → k < t.count → ready_in t times s k ≡ false
      by_picked None h e = h
      by_picked (Some best) h e = let z : ◌≡◌ {A = ℕ} 0 1 = cc in absurd (omega arith)

  pub pick_open : (u : ℕ) → pick t times s ≡ runs u → complete times (number_at s.work) u ≡ false
  pick_open u e = (ready_parts t t.earliest times (number_at s.work) s.time u (pick_chosen u e).is_ready_lem).unfinished

  pub pick-left : (u : ℕ) → pick t times s ≡ runs u → all_complete times s.work t.count ≡ false
  pick-left u e = every_not (complete times (number_at s.work)) t.count u (pick_chosen u e).inside (pick_open u e)

  -- the next state
  pub next-moved : (e : Entry) → pick t times s ≡ e → all_complete times s.work t.count ≡ false → next t times s ≡ moved times e s
  unfolding next
  next-moved e q h = rw (h, q)

  pub next_stays : all_complete times s.work t.count ≡ true → next t times s ≡ s
  unfolding next
  next_stays h = rw h

-- ---- the tick
module _ (js : List Job) (times : List ℕ) (s : State) where
  pub tick_ran : (u : ℕ) → pick (table_of js) times s ≡ runs u
      → tick_of js times s ≡ record { ticked = Ok (Ran (job_at js u).chain (job_at js u).job); state = moved times (runs u) s }
  unfolding tick_of next
  tick_ran u e = rw (pick-left (table_of js) times s u e, e)

  pub tick_finished : all_complete times s.work (length js) ≡ true → tick_of js times s ≡ record { ticked = Ok Finished; state = s }
  unfolding tick_of next
  tick_finished h = rw h

  pub tick_idle : pick (table_of js) times s ≡ idle → all_complete times s.work (length js) ≡ false
      → tick_of js times s ≡ record { ticked = Ok Idle; state = moved times idle s }
  unfolding tick_of next
  tick_idle e h = rw (h, e)

-- ---- number 11
module _ (t : Table) (times : List ℕ) (s : State) (u : ℕ) where
  pub not_worked : work_possible t times (number_at s.work) s.time u ≡ false → possible t times s u ≡ false
  unfolding possible
  not_worked e = rw e

  pub not_completed : work_possible t times (number_at s.work) s.time u ≡ true
      → completion_possible t times (number_at s.work) (number_at s.completions) s.time u ≡ false → possible t times s u ≡ false
  unfolding possible
  not_completed e f = rw (e, f)

  pub both_possible : work_possible t times (number_at s.work) s.time u ≡ true
      → completion_possible t times (number_at s.work) (number_at s.completions) s.time u ≡ true → possible t times s u ≡ true
  unfolding possible
  both_possible e f = rw (e, f)

pub state-late : (t : Table) (times : List ℕ) (s : State) → last_time < s.time → state_check t times s ≡ Err ImpossibleState
unfolding state_check
state-late t times s l = rw (lt-leb s.time last_time l)

-- the figures of columns, with a count of jobs and without one
pub seen_shown : (n : ℕ) (columns : List (List ℕ)) → Alike (seen columns) (shown n columns) n
seen_shown n columns = record { chain = λ i l. refl; urgency = λ i l. refl; release = λ i l. refl }

module _ (columns : List (List ℕ)) {t : Table} {n : ℕ} (h : Alike (seen columns) t n) (whole : t.count ≡ n) (times : List ℕ) (s : State) where
  possible_alike : (u : ℕ) → u < n → possible (seen columns) times s u ≡ possible t times s u
  unfolding possible work_possible completion_possible
  possible_alike u l = rw (predecessor_alike h times (number_at s.work) u l, h.release u l)

  all_possible : every_below n (possible (seen columns) times s) ≡ every_below t.count (possible t times s)
  all_possible = every_ext _ (possible t times s) n possible_alike ∙ ap (λ (k : ℕ). every_below k (possible t times s)) (sym whole)

  pub state_impossible : s.time ≤ last_time → every_below n (possible (seen columns) times s) ≡ false
      → state_check t times s ≡ Err ImpossibleState
  unfolding state_check
  state_impossible l e = rw (le-leb s.time last_time l, ← all_possible, e)

  pub state_passes : s.time ≤ last_time → every_below n (possible (seen columns) times s) ≡ true
      → state_check t times s ≡ Ok tt
  unfolding state_check
  state_passes l e = rw (le-leb s.time last_time l, ← all_possible, e)

module _ (t : Table) (times : List ℕ) (s : State) (passed : state_check t times s ≡ Ok tt) where
  both_passed : leb s.time last_time && every_below t.count (possible t times s) ≡ true
  unfolding state_check
  both_passed = by_fit (leb s.time last_time && every_below t.count (possible t times s)) passed
    where
      by_fit : (b : Bool) → unless b ImpossibleState (Ok tt) ≡ Ok tt → b ≡ true
      by_fit true e = refl
      by_fit false e = let z : ◌≡◌ {A = ℕ} 0 1 = cc in absurd (omega arith)

  pub passed_early : s.time ≤ last_time
  passed_early = leb-true _ _ (and_left (leb s.time last_time) (every_below t.count (possible t times s)) both_passed)

  passed_possible : (u : ℕ) → u < t.count → possible t times s u ≡ true
  passed_possible u l = every_at (possible t times s) t.count u l (and_right (leb s.time last_time) (every_below t.count (possible t times s)) both_passed)

  pub passed_within : (u : ℕ) → u < t.count → get_or s.work u 0 ≤ get_or times u 0
  unfolding possible work_possible
  passed_within u l =
      let both = and_parts (passed_possible u l) in
      leb-true _ _ (and_parts both.0).0

-- no more running times than a set has places
pub few_times : (js : List Job) (times : List ℕ) → machine_check js times ≡ Ok tt → length times ≤ max_jobs
few_times js times passed = omega (arith, times-each js times passed, (set_accepted js times passed).few)

-- ---- a tick on columns that were made from a set
module _ (set : JobSet) (times : List ℕ) (passed : machine_check (jobs_of set) times ≡ Ok tt) where
  pub count_few : set.count ≤ max_jobs
  count_few = omega (arith, length_jobs set, (set_accepted (jobs_of set) times passed).few)

  pub count_times : set.count ≤ length times
  count_times = omega (arith, length_jobs set, times-each (jobs_of set) times passed)

abbrev pub Prepared : JobSet → List (List ℕ) → List ℕ → Type 0
Prepared set columns times = (machine_check (jobs_of set) times ≡ Ok tt) × Alike (seen columns) (table_of (jobs_of set)) set.count

module _ (set : JobSet) (columns : List (List ℕ)) (times : List ℕ) (p : Prepared set columns times) where
  -- a running time for each job
  pub each_counted : length times ≡ set.count
  each_counted = omega (arith, times-each (jobs_of set) times p.0, length_jobs set)

  module _ (s : State) where
    advance_picks : (best : Option Best) → best ≡ best_up_to (seen columns) times s (length times) → pick (table_of (jobs_of set)) times s ≡ entry_by best
    advance_picks best e = scan_picks p.1 (length_jobs set) times s best (e ∙ ap (best_up_to (seen columns) times s) each_counted)

    pub advance_none : None ≡ best_up_to (seen columns) times s (length times) → pick (table_of (jobs_of set)) times s ≡ idle
    advance_none = advance_picks None

    module _ (best : Best) (e : Some best ≡ best_up_to (seen columns) times s (length times)) where
      pub advance_found : pick (table_of (jobs_of set)) times s ≡ runs best.at
      advance_found = advance_picks (Some best) e

      pub advance_inside : best.at < set.count
      advance_inside = omega (arith, (pick_chosen (table_of (jobs_of set)) times s best.at advance_found).inside, length_jobs set)

      pub advance_room : best.at < max_jobs
      advance_room = omega (arith, advance_inside, count_few set times p.0)

      -- with no more work than its running time, the job has work left
      pub advance_work : get_or s.work best.at 0 ≤ get_or times best.at 0 → get_or s.work best.at 0 < get_or times best.at 0
      advance_work l = let ne = complete_ne times (number_at s.work) best.at (pick_open (table_of (jobs_of set)) times s best.at advance_found) in omega arith

      pub advance_ran : tick_of (jobs_of set) times s ≡ record { ticked = Ok (Ran (get_or set.jobs best.at no_job).chain (get_or set.jobs best.at no_job).job); state = moved times (runs best.at) s }
      advance_ran = rw (← job_at_lem set best.at advance_inside) (tick_ran (jobs_of set) times s best.at advance_found)

  pub advance_all : (s : State) (b : Bool) → all_complete times s.work (length times) ≡ b → all_complete times s.work (length (jobs_of set)) ≡ b
  advance_all s b h = ap (all_complete times s.work) (length_jobs set ∙ sym each_counted) ∙ h

  -- a state is checked by the columns as by the table
  pub checked_alike : (s : State) → state_check (shown (length times) columns) times s ≡ state_check (table_of (jobs_of set)) times s
  unfolding state_check
  checked_alike s =
      let same : every_below (length times) (possible (shown (length times) columns) times s) ≡ every_below (length (jobs_of set)) (possible (table_of (jobs_of set)) times s)
      = sym (all_possible columns (seen_shown (length times) columns) refl times s) ∙ ap (λ (n : ℕ). every_below n (possible (seen columns) times s)) each_counted ∙ all_possible columns p.1 (length_jobs set) times s in
      rw same

-- ---- the checks of a step, in their order
module _ (js : List Job) (times : List ℕ) (s : State) where
  pub step_refused : (r : Refusal) → machine_check js times ≡ Err r → step_of js times s ≡ record { ticked = Err r; state = s }
  unfolding step_of
  step_refused r e = rw e

  module _ (passed : machine_check js times ≡ Ok tt) where
    pub step_impossible : (r : Refusal) → state_check (table_of js) times s ≡ Err r → step_of js times s ≡ record { ticked = Err r; state = s }
    unfolding step_of
    step_impossible r e = rw (passed, e)

    pub step_ticks : state_check (table_of js) times s ≡ Ok tt → step_of js times s ≡ tick_of js times s
    unfolding step_of
    step_ticks e = rw (passed, e)
