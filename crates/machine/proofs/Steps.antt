-- The steps of a run: each leg ends with the first event after its begin, so that the legs are as many as the events after 0. Assumes a runnable table.
--   Counted        so many events lie after 0 and up to a time, and they are few
--   counted_next   one more at the end of a leg
--   counted-end    all of them, when no work is left
--   event_within   no event lies after the end of the run
--   completed_settled   the answer of a run, by any state in which all is complete
use Prim.Native.Nat.{ℕ, suc, ◌+◌, ◌-◌, ◌*◌, ◌≤◌, ◌<◌}
use mathlib.Core.Path.{◌≡◌, refl, sym, ap, ◌∙◌}
use mathlib.Core.Bool.{true, false}
use mathlib.Core.List.{List}
use mathlib.Core.Logic.{◌⊎◌, inl, inr}
use native.Mathlib.Omega.{arith}
use lib.ListN.{get_or}
use Rattle.laws.specs.Words.{number_at}
use Rattle.laws.proofs.Tests.{by_test, by_order}
use Rattle.laws.proofs.Every.{every_at}
use Rattle.std.specs.Prelude.{Some}
use Rattle.jobs.specs.Limits.{max_jobs}
use Rattle.theory.specs.Table.{Table}
use Rattle.theory.specs.Runs.{Entry, idle, runs, complete}
use Rattle.theory.proofs.NextRelease.{next_release, next_attained}
use Rattle.machine.specs.declared.state.State.{State}
use Rattle.machine.specs.declared.leg.Leg.{Leg}
use Rattle.machine.specs.declared.run.Completed.{Completed}
use Rattle.machine.specs.Ticks.{last_time, all_complete}
use Rattle.machine.specs.Events.{is_event, events}
use Rattle.machine.specs.Runs.{after, entry, completion, finish, steps_of}
use Rattle.theory.proofs.Runnable.{last_release, Runnable}
use Rattle.machine.proofs.Course.{after_settled}
use Rattle.machine.proofs.Completions.{completion_named, kept_complete}
use Rattle.machine.proofs.LastTick.{completion-ran, completion-last, completion_fixed}
use Rattle.machine.proofs.Possible.{complete_released}
use Rattle.machine.proofs.Alike.{events_alike, completed_of}
use Rattle.machine.proofs.Events.{no_event, event_released, event_completed, event_some, events_none, events_leg, events_past, events_few}
use Rattle.machine.proofs.Runnable.{goes, run-complete, run_early}
use Rattle.machine.proofs.Running.{by_at, at_limit, settled_completions, Reached, reached_finish, Turn, turn_inside, turn_some, turn_apart, turn_limit, turn_ends, ran-complete, ran_entries, idle_entries}

-- each job's completion in the whole run
abbrev pub done : Table → List ℕ → ℕ → ℕ
done t times u = completion t times u last_time

pub record Counted (t : Table) (times : List ℕ) (steps time : ℕ) : Type 0 where
  pub are : steps ≡ events t (done t times) time
  pub few : steps ≤ 2 * max_jobs

pub counted_start : (t : Table) (times : List ℕ) → Counted t times 0 0
counted_start t times = record { are = sym (events_none t (done t times)); few = omega arith }

-- ---- the end of the run
-- the answer, by the state that the run comes to
abbrev pub answer_by : Table → State → Completed
answer_by t s = record { completions = s.completions; end = s.time; steps = events t (number_at s.completions) s.time }

module _ {t : Table} {times : List ℕ} (r : Runnable t times) where
  each-complete : (u : ℕ) → u < t.count → complete times (number_at (finish t times).work) u ≡ true
  each-complete u l = every_at (complete times (number_at (finish t times).work)) t.count u l (run-complete r)

  pub event_within : (n : ℕ) → is_event t (done t times) n ≡ true → n ≤ (finish t times).time
  event_within n e =
      let some = event_some t (done t times) n e in
      by_event some.0 some.1 some.2
    where
      by_event : (u : ℕ) → u < t.count → (t.earliest u ≡ n) ⊎ (done t times u ≡ n) → n ≤ (finish t times).time
      by_event u l (inl is) = omega (arith, is, complete_released t times last_release r.few r.released r.positive last_time u l (each-complete u l))
      by_event u l (inr is) = omega (arith, is, kept_complete t times last_release r.few r.released last_time u (each-complete u l), (goes r last_time).past u)

  -- all events lie up to the end of the run
  steps_end : steps_of t times ≡ events t (done t times) (finish t times).time
  steps_end = at_limit (events t (done t times)) (finish t times).time (events_past t (done t times) (finish t times).time beyond) (omega (arith, run_early r))
    where
      beyond : (k : ℕ) → (finish t times).time < k → is_event t (done t times) k ≡ false
      beyond k l = by_test (is_event t (done t times) k) (λ e. absurd (omega (arith, event_within k e))) (λ e. e)

  -- as those of any state with all complete show
  steps_settled : (n : ℕ) → all_complete times (after t times n).work t.count ≡ true → n ≤ last_time
      → steps_of t times ≡ events t (number_at (after t times n).completions) (after t times n).time
  steps_settled n settled early =
      let same : finish t times ≡ after t times n = at_limit (after t times) n (after_settled t times n settled) early in
      steps_end
      ∙ ap (λ (s : State). events t (done t times) s.time) same
      ∙ events_alike {a = t} {b = t} {n = t.count} (record { chain = λ i l. refl; urgency = λ i l. refl; release = λ i l. refl }) refl refl (done t times) (number_at (after t times n).completions)
      (λ u l. sym (kept_complete t times last_release r.few r.released last_time u (each-complete u l)) ∙ ap (λ (s : State). number_at s.completions u) same)
      (after t times n).time

  pub completed_settled : (n : ℕ) → all_complete times (after t times n).work t.count ≡ true → n ≤ last_time → completed_of t times ≡ answer_by t (after t times n)
  completed_settled n settled early =
      let same : finish t times ≡ after t times n = at_limit (after t times) n (after_settled t times n settled) early in
      rw (steps_settled n settled early, ← settled_completions r n settled early, same)

  pub counted-end : {work completed : List ℕ} {steps left time release : ℕ} → Reached t times work completed left time release → left ≤ 0 → Counted t times steps time
      → steps ≡ steps_of t times
  counted-end {work} {completed} {steps} {left} {time} {release} h none c =
      c.are ∙ ap (events t (done t times)) (sym (reached_finish r h none)) ∙ sym steps_end

-- ---- a leg
-- no job completes strictly within ticks of one entry
none_completes : (t : Table) (times : List ℕ) (time to : ℕ) (e : Entry) → ((k : ℕ) → time ≤ k → k < to → entry t times k ≡ e) → to < last_time
    → (u : ℕ) → time < done t times u → to ≤ done t times u
none_completes t times time to e entries limit u l =
    let m = done t times u in
    by_order to m
    (λ h. h)
    (λ h.
    let before : m ≡ suc (m - 1) = omega arith in
    let names : e ≡ runs u = sym (entries (m - 1) (omega arith) (omega arith)) ∙ completion-ran t times u last_time (m - 1) before in
    absurd (omega (arith, completion-last t times u last_time m (omega arith) (entries m (omega arith) h ∙ names))))

module _ {t : Table} {times work completed : List ℕ} {left time release : ℕ} {leg : Leg} (turn : Turn t times work completed left time release leg) where
  abbrev to : ℕ
  to = time + leg.ticks

  completes_late : (u : ℕ) → time < done t times u → to ≤ done t times u
  completes_late =
      by_at leg.at
      (λ at f. none_completes t times time to (runs at) (ran_entries turn f) (turn_limit turn))
      (λ f. none_completes t times time to idle (idle_entries turn f) (turn_limit turn))

  none_within : (k : ℕ) → time < k → k < to → is_event t (done t times) k ≡ false
  none_within k from below =
      no_event t (done t times) k
      (λ u l e. omega (arith, e, turn_apart turn u l (omega (arith, e))))
      (λ u l e. omega (arith, e, completes_late u (omega (arith, e))))

  ends-released : to ≡ release → is_event t (done t times) to ≡ true
  ends-released e = by_next (next_attained last_time t.earliest time t.count)
    where
      by_next : (next_release last_time t.earliest time t.count ≡ last_time) ⊎ ((u : ℕ) × (u < t.count) × (t.earliest u ≡ next_release last_time t.earliest time t.count))
          → is_event t (done t times) to ≡ true
      by_next (inl q) = absurd (omega (arith, e, q, turn.reached.next, turn_limit turn))
      by_next (inr w) = event_released t (done t times) to w.0 w.1 (w.2 ∙ sym turn.reached.next ∙ sym e)

  module _ {at : ℕ} (f : leg.at ≡ Some at) (all : get_or work at 0 + leg.ticks ≡ get_or times at 0) where
    -- the last tick of the leg is the job's last
    done_then : done t times at ≡ to
    done_then =
        let last : to ≡ suc (to - 1) = omega (arith, turn_some turn) in
        let ran : entry t times (to - 1) ≡ runs at = ran_entries turn f (to - 1) (omega (arith, turn_some turn)) (omega (arith, turn_some turn)) in
        at_limit (completion t times at) to (completion_fixed t times at to (ran-complete turn f all)) (omega (arith, turn_limit turn))
        ∙ ap (completion t times at) last
        ∙ completion_named t times at (to - 1) ran
        ∙ sym last

    ends_completed : is_event t (done t times) to ≡ true
    ends_completed = event_completed t (done t times) to at (turn_inside turn f) done_then

  ends : (to ≡ release) ⊎ ((at : ℕ) × (leg.at ≡ Some at) × (get_or work at 0 + leg.ticks ≡ get_or times at 0)) → is_event t (done t times) to ≡ true
  ends (inl e) = ends-released e
  ends (inr w) = ends_completed w.1 w.2

  pub counted_next : {steps : ℕ} → Counted t times steps time → Counted t times (steps + 1) to
  counted_next c =
      let more = ap (λ (k : ℕ). k + 1) c.are ∙ sym (events_leg t (done t times) time leg.ticks (turn_some turn) none_within (ends (turn_ends turn))) in
      record { are = more; few = omega (arith, more, events_few t (done t times) to, turn.runnable.few) }
