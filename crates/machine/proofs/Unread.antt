-- Completions of jobs that are not complete, and what stands beyond the table, are not read. Assumes a set that fits its places.
use Rattle.std.specs.Prelude.{Result, Ok, Err, ⊤}
use Prim.Native.Nat.{ℕ, zero, suc, ◌+◌, ◌≤◌, ◌<◌}
use mathlib.Core.Path.{◌≡◌, refl, sym, ap, ◌∙◌}
use mathlib.Core.Bool.{true}
use mathlib.Core.List.{List}
use native.Mathlib.Omega.{arith}
use lib.ListN.{length, length-set}
use Rattle.laws.specs.Words.{number_at}
use Rattle.laws.proofs.Tests.{by_test, by_equal}
use Rattle.laws.proofs.Every.{every_ext}
use Rattle.jobs.specs.declared.job.Job.{Job}
use Rattle.jobs.specs.Refusals.{on_pass, and_then}
use Rattle.jobs.specs.Limits.{max_jobs}
use Rattle.theory.specs.Table.{Table, table_of}
use Rattle.theory.specs.Runs.{Entry, idle, runs, complete, predecessor_complete, ready}
use Rattle.theory.proofs.Legal.{ready_parts, complete_eq}
use Rattle.machine.specs.declared.state.State.{State}
use Rattle.machine.specs.Order.{ready_since}
use Rattle.machine.specs.Ticks.{all_complete, ready_in, best_up_to, pick, moved, next, tick_of, machine_check, work_possible, completion_possible, possible, state_check, step_of}
use Rattle.machine.specs.Claims.{SameRead}
use Rattle.machine.proofs.Readiness.{worked_here, worked_other, complete_other, noted_here, noted_other}
use Rattle.machine.proofs.Since.{since_kept}
use Rattle.machine.proofs.Ticking.{pick_chosen, next-moved, next_stays}
use Rattle.jobs.specs.declared.refusal.Refusal.{Refusal}

module _ (js : List Job) (times : List ℕ) (few : length js ≤ max_jobs) (s other : State) (r : SameRead js times s other) where
  abbrev t : Table
  t = table_of js

  -- ---- what is read of the two states
  complete-same : (u : ℕ) → u < length js → complete times (number_at other.work) u ≡ complete times (number_at s.work) u
  unfolding complete
  complete-same u l = rw (r.work u l)

  all_same : all_complete times other.work (length js) ≡ all_complete times s.work (length js)
  all_same = every_ext (complete times (number_at other.work)) (complete times (number_at s.work)) (length js) complete-same

  predecessor-same : (u : ℕ) → u < length js → predecessor_complete t times (number_at other.work) u ≡ predecessor_complete t times (number_at s.work) u
  unfolding predecessor_complete
  predecessor-same zero l = refl
  predecessor-same (suc v) l = rw (complete-same v (omega arith))

  ready-same : (u : ℕ) → u < length js → ready_in t times other u ≡ ready_in t times s u
  unfolding ready
  ready-same u l = rw (r.time, complete-same u l, predecessor-same u l)

  since_same : (u : ℕ) → u < length js → ready_in t times s u ≡ true → ready_since t (number_at other.completions) u ≡ ready_since t (number_at s.completions) u
  since_same u l h =
      since_kept t times (number_at s.work) (number_at s.completions) (number_at other.completions) u
      (λ v m. r.completions v (omega arith))
      (ready_parts t t.earliest times (number_at s.work) s.time u h).predecessor

  best-same : (n : ℕ) → n ≤ length js → best_up_to t times other n ≡ best_up_to t times s n
  unfolding best_up_to
  best-same zero l = refl
  best-same (suc u) l =
      by_test (ready_in t times s u)
      (λ h. rw (ready-same u l, h, best-same u (omega arith), since_same u l h))
      (λ h. rw (ready-same u l, h, best-same u (omega arith)))

  pick_same : pick t times other ≡ pick t times s
  unfolding pick
  pick_same = rw (best-same (length js) (omega arith))

  possible-same : (u : ℕ) → u < length js → possible t times other u ≡ possible t times s u
  unfolding possible work_possible completion_possible
  possible-same u l =
      by_test (complete times (number_at s.work) u)
      (λ c. rw (r.time, r.work u l, predecessor-same u l, complete-same u l, c, r.completions u l c))
      (λ c. rw (r.time, r.work u l, predecessor-same u l, complete-same u l, c))

  check_same : state_check t times other ≡ state_check t times s
  unfolding state_check
  check_same = rw (every_ext (possible t times other) (possible t times s) (length js) possible-same, r.time)

  -- ---- the answer
  ticked_same : (step_of js times other).ticked ≡ (step_of js times s).ticked
  unfolding step_of tick_of
  ticked_same = rw check_same (by_check (and_then (machine_check js times) (state_check t times s)))
    where
      by_check : (c : Result ⊤ Refusal) → (on_pass c (λ refusal. record { ticked = Err refusal; state = other }) (tick_of js times other)).ticked
          ≡ (on_pass c (λ refusal. record { ticked = Err refusal; state = s }) (tick_of js times s)).ticked
      by_check (Ok tt) = rw (all_same, pick_same)
      by_check (Err n) = refl

  -- ---- the states after a tick in which the job at k runs
  module _ (k : ℕ) (q : pick t times s ≡ runs k) where
    abbrev later : State
    later = moved times (runs k) s

    abbrev beside : State
    beside = moved times (runs k) other

    inside : k < length js
    inside = (pick_chosen t times s k q).inside

    work-later : (u : ℕ) → u < length js → number_at beside.work u ≡ number_at later.work u
    work-later u l =
        by_equal u k
        (λ e.
        rw e (omega (
          arith,
          worked_here times s.work k (omega (arith, inside, r.whole.0.0)),
          worked_here times other.work k (omega (arith, inside, r.whole.1.0)),
          r.work k inside,
        )))
        (λ ne. worked_other times other.work k u ne ∙ r.work u l ∙ sym (worked_other times s.work k u ne))

    completions-later : (u : ℕ) → u < length js → complete times (number_at later.work) u ≡ true → number_at beside.completions u ≡ number_at later.completions u
    completions-later u l c =
        by_equal u k
        (λ e.
        let done = complete_eq times (number_at later.work) k (ap (complete times (number_at later.work)) (sym e) ∙ c) in
        let all = sym (worked_here times s.work k (omega (arith, inside, r.whole.0.0))) ∙ done in
        let here = noted_here times s k (omega (arith, inside, r.whole.0.1)) all in
        let there = noted_here times other k (omega (arith, inside, r.whole.1.1)) (ap (λ (n : ℕ). n + 1) (r.work k inside) ∙ all) in
        rw e (there ∙ ap (λ (n : ℕ). n + 1) r.time ∙ sym here))
        (λ ne. noted_other times other k u ne ∙ r.completions u l (sym (complete_other times s.work k u ne) ∙ c) ∙ sym (noted_other times s k u ne))

    same-ran : SameRead js times later beside
    same-ran =
        record {
          time = ap (λ (n : ℕ). n + 1) r.time;
          work = work-later;
          completions = completions-later;
          whole = (
            (length-set s.work k _ ∙ r.whole.0.0, length-set s.completions k _ ∙ r.whole.0.1),
            (length-set other.work k _ ∙ r.whole.1.0, length-set other.completions k _ ∙ r.whole.1.1),
          );
        }

  -- ---- the states after any tick
  same-moved : (e : Entry) → pick t times s ≡ e → SameRead js times (moved times e s) (moved times e other)
  same-moved idle q = record { time = ap (λ (n : ℕ). n + 1) r.time; work = r.work; completions = r.completions; whole = r.whole }
  same-moved (runs k) q = same-ran k q

  same_next : SameRead js times (next t times s) (next t times other)
  same_next =
      by_test (all_complete times s.work (length js))
      (λ h. rw (next_stays t times s h, next_stays t times other (all_same ∙ h)) r)
      (λ h.
      rw (next-moved t times s (pick t times s) refl h, next-moved t times other (pick t times s) pick_same (all_same ∙ h))
      (same-moved (pick t times s) refl))

  same_step : SameRead js times (step_of js times s).state (step_of js times other).state
  unfolding step_of tick_of
  same_step = rw check_same (by_check (and_then (machine_check js times) (state_check t times s)))
    where
      by_check : (c : Result ⊤ Refusal) → SameRead js times
          (on_pass c (λ refusal. record { ticked = Err refusal; state = s }) (tick_of js times s)).state
          (on_pass c (λ refusal. record { ticked = Err refusal; state = other }) (tick_of js times other)).state
      by_check (Ok tt) = same_next
      by_check (Err n) = r

  pub entries_unread : ((step_of js times other).ticked ≡ (step_of js times s).ticked) × SameRead js times (step_of js times s).state (step_of js times other).state
  entries_unread = (ticked_same, same_step)
