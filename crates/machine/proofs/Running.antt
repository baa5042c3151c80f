-- A run as the engine makes it: counters of work, what is left of it, the time and the next release. Assumes a runnable table.
--   Reached   what holds at the head of the loop
--   Turn      what is known in a turn of the loop, once its leg is worked out
use Prim.Native.Nat.{ℕ, suc, ◌+◌, ◌-◌, ◌≤◌, ◌<◌, min}
use mathlib.Core.Path.{◌≡◌, refl, sym, ap, subst, ◌∙◌}
use mathlib.Core.Bool.{true, false, cond}
use mathlib.Core.List.{List}
use mathlib.Core.Logic.{◌⊎◌, inl, inr}
use native.Mathlib.Omega.{arith}
use native.Mathlib.Nat.{zero-add}
use lib.Dec.{ltb}
use lib.ListN.{length, get_or, replicate}
use lib.Seq.{get_or-set_same, get_or-set_other, ext_get_or}
use borrow.Author.Tests.{lt-ltb, le-ltb}
use Rattle.laws.specs.Words.{tabulate, number_at}
use Rattle.laws.proofs.Tests.{by_test, by_order}
use Rattle.laws.proofs.Sums.{sum_zero, sum_mono, sum_bump}
use Rattle.laws.proofs.Tabulate.{length-tabulate, get_d_tabulate}
use Rattle.jobs.specs.Limits.{max_jobs, max_time}
use Rattle.theory.specs.Table.{Table}
use Rattle.theory.specs.Runs.{Entry, idle, runs, complete}
use Rattle.theory.proofs.Legal.{eq_complete}
use Rattle.theory.proofs.Columns.{seen, shown}
use Rattle.theory.proofs.NextRelease.{next_release, next-after, next_le, next-same}
use Rattle.std.specs.Prelude.{Option, Some, None}
use Rattle.machine.specs.declared.state.State.{State}
use Rattle.machine.specs.declared.pick.Best.{Best}
use Rattle.machine.specs.declared.leg.Leg.{Leg}
use Rattle.machine.specs.Ticks.{last_time, all_complete, best_up_to, entry_by, pick}
use Rattle.machine.specs.Runs.{after, entry, completion, finish, completions}
use Rattle.theory.proofs.Runnable.{last_release, Runnable}
use Rattle.machine.proofs.Readiness.{state_of}
use Rattle.machine.proofs.RunningTimes.{sum_of}
use Rattle.machine.proofs.Picks.{best_alike}
use Rattle.machine.proofs.Ticking.{pick_chosen}
use Rattle.machine.proofs.Course.{all_sum, sum_all, none_done, after_settled, Going, runs_left}
use Rattle.machine.proofs.Completions.{completion_settled, kept_all}
use Rattle.machine.specs.Legs.{leg_of}
use Rattle.machine.proofs.Legs.{Left, left_part, entry_leg, after_leg, moved_by}
use Rattle.machine.proofs.Runnable.{work_limit, goes}

-- ---- what further ticks leave as it is, at the limit on times
pub at_limit : {A : Type 0} (f : ℕ → A) (n : ℕ) → ((m : ℕ) → f (n + m) ≡ f n) → n ≤ last_time → f last_time ≡ f n
at_limit f n stays l =
    let e : n + (last_time - n) ≡ last_time = omega (arith, l) in
    subst (λ (k : ℕ). f k ≡ f n) e (stays (last_time - n))

nothing_done : (n : ℕ) → ◌≡◌ {A = ℕ} (sum_of (replicate max_jobs 0) n) 0
nothing_done n = sum_zero n (λ i. get_or (replicate max_jobs 0) i 0) (λ i l. none_done max_jobs i)

-- the next release, worked out anew only where it has come
abbrev pub release_after : Table → ℕ → ℕ → ℕ
release_after t next time = cond (ltb time next) next (next_release last_time t.earliest time t.count)

pub record Reached (t : Table) (times work completions : List ℕ) (left time release : ℕ) : Type 0 where
  pub here : after t times time ≡ state_of time work completions
  pub rest : left + sum_of work t.count ≡ sum_of times t.count
  pub early : time ≤ last_release + sum_of work t.count
  pub next : release ≡ next_release last_time t.earliest time t.count

module _ {t : Table} {times : List ℕ} (r : Runnable t times) where
  pub reached_start : (left release : ℕ) → left ≡ sum_of times (length times) → release ≡ next_release last_time t.earliest 0 t.count
      → Reached t times (replicate max_jobs 0) (replicate max_jobs 0) left 0 release
  unfolding after
  reached_start left release e next =
      record {
        here = refl;
        rest = omega (arith, nothing_done t.count, ap (sum_of times) r.each);
        early = omega arith;
        next = next;
      }

  -- ---- the answer of a run in which all is complete after n ticks
  pub settled_completions : (n : ℕ) → all_complete times (after t times n).work t.count ≡ true → n ≤ last_time → (after t times n).completions ≡ completions t times
  unfolding completions
  settled_completions n settled early =
      let long = (goes r n).noted in
      ext_get_or 0 (after t times n).completions (tabulate 0 max_jobs (λ u. completion t times u last_time)) (long ∙ sym (length-tabulate 0 max_jobs (λ u. completion t times u last_time)))
      (λ u l.
      kept_all t times last_release r.few r.released n settled u
      ∙ sym (at_limit (completion t times u) n (completion_settled t times u n settled) early)
      ∙ ap (λ (k : ℕ). completion t times k last_time) (sym (zero-add u))
      ∙ sym (get_d_tabulate 0 max_jobs (λ k. completion t times k last_time) 0 u (omega (arith, long))))

  module _ {work completed : List ℕ} {left time release : ℕ} (h : Reached t times work completed left time release) where
    abbrev now : State
    now = state_of time work completed

    course : Going t times last_release r.few r.released time now
    course = rw h.here at (goes r time)

    pub reached_within : (u : ℕ) → u < t.count → get_or work u 0 ≤ get_or times u 0
    reached_within = course.within

    -- with work left
    module _ (more : 0 < left) where
      reached_open : all_complete times work t.count ≡ false
      reached_open =
          by_test (all_complete times work t.count)
          (λ all. absurd (omega (arith, all_sum times work t.count all, h.rest)))
          (λ some. some)

      pub reached_early : time < last_time
      reached_early = omega (arith, h.early, h.rest, work_limit r)

      pub reached_wait : time < release
      reached_wait = omega (arith, h.next, next-after last_time t.earliest time reached_early t.count)

      -- a leg of so many ticks, up to the next release at most
      module _ (e : Entry) (q : pick t times now ≡ e) (ticks : ℕ) (some : 0 < ticks) (until : time + ticks ≤ release) (enough : Left times e ticks now) where
        pub leg_apart : (u : ℕ) → u < t.count → time < t.earliest u → time + ticks ≤ t.earliest u
        leg_apart u l later = omega (arith, h.next, next_le last_time t.earliest time t.count u l later)

        pub leg_entries : (k : ℕ) → time ≤ k → k < time + ticks → entry t times k ≡ e
        leg_entries k from to =
            let d : time + (k - time) ≡ k = omega arith in
            subst (λ (i : ℕ). entry t times i ≡ e) d
            (entry_leg t times r.few time now h.here refl course.long reached_open e q (time + ticks) leg_apart (k - time) (omega arith)
            (left_part times e (suc (k - time)) ticks now (omega arith) enough))

        pub leg_after : after t times (time + ticks) ≡ moved_by times ticks e now
        leg_after =
            let d : suc (ticks - 1) ≡ ticks = omega arith in
            subst (λ (i : ℕ). after t times (time + i) ≡ moved_by times i e now) d
            (after_leg t times r.few time now h.here refl course.long reached_open e q (time + ticks) leg_apart (ticks - 1) (omega arith)
            (left_part times e (suc (ticks - 1)) ticks now (omega arith) enough))

        pub leg_release : release_after t release (time + ticks) ≡ next_release last_time t.earliest (time + ticks) t.count
        leg_release =
            by_order release (time + ticks)
            (λ come. rw (le-ltb (time + ticks) release come))
            (λ coming.
            rw (lt-ltb (time + ticks) release coming)
            (h.next ∙ sym (next-same last_time t.earliest time (time + ticks) t.count (omega arith) (omega (arith, h.next)))))

    -- with none left
    module _ (none : left ≤ 0) where
      pub reached_settled : all_complete times (after t times time).work t.count ≡ true
      reached_settled = rw h.here (sum_all times work t.count reached_within (omega (arith, h.rest)))

      pub reached_limit : time ≤ last_time
      reached_limit = omega (arith, h.early, h.rest, work_limit r)

      pub reached_finish : (finish t times).time ≡ time
      reached_finish = ap (λ (s : State). s.time) (at_limit (after t times) time (after_settled t times time reached_settled) reached_limit ∙ h.here)

      pub reached_completions : completed ≡ completions t times
      reached_completions = ap (λ (s : State). s.completions) (sym h.here) ∙ settled_completions time reached_settled reached_limit

-- ---- a turn of the loop
-- what a leg runs, and for how many ticks
abbrev entry_at : Option ℕ → Entry
entry_at None = idle
entry_at (Some at) = runs at

abbrev ticks_of : List ℕ → State → Option ℕ → ℕ → ℕ
ticks_of times s None release = release - s.time
ticks_of times s (Some at) release = min (release - s.time) (get_or times at 0 - get_or s.work at 0)

pub by_at : {X : Type 0} (at : Option ℕ) → ((u : ℕ) → at ≡ Some u → X) → (at ≡ None → X) → X
by_at None some none = none refl
by_at (Some u) some none = some u refl

-- the best of the jobs that columns show
pub best-shown : (count : ℕ) (columns : List (List ℕ)) (times : List ℕ) (s : State) → best_up_to (seen columns) times s count ≡ best_up_to (shown count columns) times s count
best-shown count columns times s = best_alike {n = count} (record { chain = λ i l. refl; urgency = λ i l. refl; release = λ i l. refl }) times s count (omega arith)

pub record Turn (t : Table) (times work completed : List ℕ) (left time release : ℕ) (leg : Leg) : Type 0 where
  pub runnable : Runnable t times
  pub reached : Reached t times work completed left time release
  pub more : 0 < left
  pub worked_out : leg ≡ leg_of times (state_of time work completed) (best_up_to t times (state_of time work completed) t.count) release

-- the turn at whose head the run is reached, and whose leg is worked out by the columns
pub turn_shown : (columns : List (List ℕ)) {times work completed : List ℕ} {left time release : ℕ} {leg : Leg} → Runnable (shown (length times) columns) times
    → Reached (shown (length times) columns) times work completed left time release → 0 < left
    → leg ≡ leg_of times (state_of time work completed) (best_up_to (seen columns) times (state_of time work completed) (length times)) release
    → Turn (shown (length times) columns) times work completed left time release leg
turn_shown columns {times} {work} {completed} {left} {time} {release} {leg} r h more e =
    record {
      runnable = r;
      reached = h;
      more = more;
      worked_out = e ∙ ap (λ (best : Option Best). leg_of times (state_of time work completed) best release) (best-shown (length times) columns times (state_of time work completed));
    }

module _ {t : Table} {times work completed : List ℕ} {left time release : ℕ} {leg : Leg} (turn : Turn t times work completed left time release leg) where
  abbrev state : State
  state = state_of time work completed

  -- the leg goes on with what is picked
  picks : (pick t times state ≡ entry_at leg.at) × (leg.ticks ≡ ticks_of times state leg.at release)
  unfolding pick
  picks = by_best (best_up_to t times state t.count) turn.worked_out
    where
      by_best : (best : Option Best) → leg ≡ leg_of times state best release → (entry_by best ≡ entry_at leg.at) × (leg.ticks ≡ ticks_of times state leg.at release)
      by_best None e = rw e (refl, refl)
      by_best (Some best) e = rw e (refl, refl)

  wait : time < release
  wait = reached_wait turn.runnable turn.reached turn.more

  pub turn_early : time < last_time
  turn_early = reached_early turn.runnable turn.reached turn.more

  -- a job runs
  module _ {at : ℕ} (f : leg.at ≡ Some at) where
    found_ticks : leg.ticks ≡ min (release - time) (get_or times at 0 - get_or work at 0)
    found_ticks = picks.1 ∙ ap (λ (at : Option ℕ). ticks_of times state at release) f

    found : pick t times state ≡ runs at
    found = picks.0 ∙ ap entry_at f

    pub turn_inside : at < t.count
    turn_inside = (pick_chosen t times state at found).inside

    has_work : get_or work at 0 < get_or times at 0
    has_work = runs_left t times last_release turn.runnable.few turn.runnable.released state at found (reached_within turn.runnable turn.reached)

    some : 0 < leg.ticks
    some = omega (arith, found_ticks, wait, has_work)

    until : time + leg.ticks ≤ release
    until = omega (arith, found_ticks, wait)

    enough : get_or work at 0 + leg.ticks ≤ get_or times at 0
    enough = omega (arith, found_ticks, has_work)

    -- what the work on the job asks for, and the state after it
    pub turn_works : (at < max_jobs) × (at < length times) × (get_or work at 0 + leg.ticks ≤ max_time)
    turn_works = (
      omega (arith, turn_inside, turn.runnable.few),
      omega (arith, turn_inside, turn.runnable.each),
      omega (arith, enough, turn.runnable.brief at turn_inside),
    )

    abbrev ran : State
    ran = moved_by times leg.ticks (runs at) state

    ran-after : after t times (time + leg.ticks) ≡ ran
    ran-after = leg_after turn.runnable turn.reached turn.more (runs at) found leg.ticks some until enough

    ran-course : Going t times last_release turn.runnable.few turn.runnable.released (time + leg.ticks) ran
    ran-course = rw ran-after at (goes turn.runnable (time + leg.ticks))

    ran-work : get_or ran.work at 0 ≡ get_or work at 0 + leg.ticks
    ran-work = get_or-set_same work at (get_or work at 0 + leg.ticks) 0 (omega (arith, turn_inside, turn.runnable.few, (course turn.runnable turn.reached).long))

    more_work : sum_of ran.work t.count ≡ sum_of work t.count + leg.ticks
    more_work =
        sum_bump t.count (λ i. get_or work i 0) (λ i. get_or ran.work i 0) at leg.ticks turn_inside
        ran-work
        (λ i l ne. get_or-set_other work at i (get_or work at 0 + leg.ticks) 0 ne)

    pub turn_left : leg.ticks ≤ left
    turn_left = omega (arith, turn.reached.rest, more_work, sum_mono t.count (λ i. get_or ran.work i 0) (λ i. get_or times i 0) ran-course.within)

    pub turn_ran : Reached t times ran.work ran.completions (left - leg.ticks) (time + leg.ticks) (release_after t release (time + leg.ticks))
    turn_ran =
        record {
          here = ran-after;
          rest = omega (arith, turn.reached.rest, more_work, turn_left);
          early = ran-course.early;
          next = leg_release turn.runnable turn.reached turn.more (runs at) found leg.ticks some until enough;
        }

    -- it has all its work done in the end
    pub ran-complete : get_or work at 0 + leg.ticks ≡ get_or times at 0 → complete times (number_at (after t times (time + leg.ticks)).work) at ≡ true
    ran-complete all = rw ran-after (eq_complete times (number_at ran.work) at (ran-work ∙ all))

    pub ran_entries : (k : ℕ) → time ≤ k → k < time + leg.ticks → entry t times k ≡ runs at
    ran_entries = leg_entries turn.runnable turn.reached turn.more (runs at) found leg.ticks some until enough

  -- none runs
  module _ (f : leg.at ≡ None) where
    pub idle_ticks : time + leg.ticks ≡ release
    idle_ticks = let e : leg.ticks ≡ release - time = picks.1 ∙ ap (λ (at : Option ℕ). ticks_of times state at release) f in omega (arith, e, wait)

    none_picked : pick t times state ≡ idle
    none_picked = picks.0 ∙ ap entry_at f

    idle_some : 0 < leg.ticks
    idle_some = omega (arith, idle_ticks, wait)

    idle_after : after t times (time + leg.ticks) ≡ state_of (time + leg.ticks) work completed
    idle_after = leg_after turn.runnable turn.reached turn.more idle none_picked leg.ticks idle_some (omega (arith, idle_ticks)) tt

    pub turn_idle : Reached t times work completed left (time + leg.ticks) (release_after t release (time + leg.ticks))
    turn_idle =
        record {
          here = idle_after;
          rest = turn.reached.rest;
          early = rw idle_after at (goes turn.runnable (time + leg.ticks)).early;
          next = leg_release turn.runnable turn.reached turn.more idle none_picked leg.ticks idle_some (omega (arith, idle_ticks)) tt;
        }

    pub idle_entries : (k : ℕ) → time ≤ k → k < time + leg.ticks → entry t times k ≡ idle
    idle_entries = leg_entries turn.runnable turn.reached turn.more idle none_picked leg.ticks idle_some (omega (arith, idle_ticks)) tt

  -- ---- in either case
  pub turn_apart : (u : ℕ) → u < t.count → time < t.earliest u → time + leg.ticks ≤ t.earliest u
  turn_apart u l later =
      let next = next_le last_time t.earliest time t.count u l later in
      by_at leg.at
      (λ at f. omega (arith, until f, turn.reached.next))
      (λ f. omega (arith, idle_ticks f, turn.reached.next))

  pub turn_some : 0 < leg.ticks
  turn_some = by_at leg.at (λ at f. some f) (λ f. idle_some f)

  -- a leg ends before the limit on times
  pub turn_limit : time + leg.ticks < last_time
  turn_limit =
      by_at leg.at
      (λ at f. omega (arith, (turn_ran f).early, (turn_ran f).rest, work_limit turn.runnable))
      (λ f. omega (arith, (turn_idle f).early, (turn_idle f).rest, work_limit turn.runnable))

  -- it ends with the next release, or with its job complete
  pub turn_ends : (time + leg.ticks ≡ release) ⊎ ((at : ℕ) × (leg.at ≡ Some at) × (get_or work at 0 + leg.ticks ≡ get_or times at 0))
  turn_ends =
      by_at leg.at
      (λ at f.
      by_order (release - time) (get_or times at 0 - get_or work at 0)
      (λ l. inl (omega (arith, found_ticks f, wait)))
      (λ l. inr (at, f, omega (arith, found_ticks f, has_work f))))
      (λ f. inl (idle_ticks f))
