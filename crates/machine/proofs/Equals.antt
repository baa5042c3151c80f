-- A job that runs is displaced only by a strictly more urgent one: an equal that becomes ready later comes after it. Assumes the limits of Course.
use Prim.Native.Nat.{ℕ, suc, ◌≤◌, ◌<◌}
use mathlib.Core.Path.{◌≡◌, sym, ap, ◌∙◌}
use mathlib.Core.Bool.{true, false}
use mathlib.Core.List.{List}
use mathlib.Core.Logic.{◌⊎◌, inl, inr, ◌≢◌}
use native.Mathlib.Omega.{arith}
use Rattle.laws.specs.Words.{number_at}
use Rattle.laws.proofs.Tests.{by_order, by_equal, both_ways, never_true}
use Rattle.jobs.specs.Limits.{max_jobs}
use Rattle.theory.specs.Table.{Table}
use Rattle.theory.specs.Runs.{runs, complete}
use Rattle.theory.proofs.Legal.{ready_parts, parts_ready}
use Rattle.machine.specs.declared.state.State.{State}
use Rattle.machine.specs.Ticks.{ready_in, pick, moved}
use Rattle.machine.specs.Runs.{after, entry}
use Rattle.machine.proofs.Readiness.{predecessor_stays, complete_other}
use Rattle.machine.proofs.Since.{since_released, since_past}
use Rattle.machine.proofs.Order.{Before, before_asymmetric, before_since}
use Rattle.machine.proofs.Picks.{Chosen}
use Rattle.machine.proofs.Ticking.{pick_chosen, pick-left, next-moved}
use Rattle.machine.proofs.Staying.{ready-later, since_later, order_later}
use Rattle.machine.proofs.Course.{after_next, going}

-- ---- a tick in which the job at u runs and is not complete after it
module _ (t : Table) (times : List ℕ) (s : State) (u : ℕ) (q : pick t times s ≡ runs u) (past : (k : ℕ) → number_at s.completions k ≤ s.time) where
  abbrev later : State
  later = moved times (runs u) s

  module _ (open-still : complete times (number_at later.work) u ≡ false) where
    -- what is complete after it was so before
    was_complete : (k : ℕ) → complete times (number_at later.work) k ≡ true → complete times (number_at s.work) k ≡ true
    was_complete k c =
        by_equal k u
        (λ e. absurd (both_ways c (ap (complete times (number_at later.work)) e ∙ open-still)))
        (λ ne. sym (complete_other times s.work u k ne) ∙ c)

    -- a job that becomes ready is released at the tick's end
    module _ (v : ℕ) (ne : v ≢ u) (new : ready_in t times later v ≡ true) (old : ready_in t times s v ≡ false) where
      released-now : s.time < t.earliest v
      released-now =
          let p = ready_parts t t.earliest times (number_at later.work) later.time v new in
          by_order (t.earliest v) s.time
          (λ l.
          absurd (both_ways
          (parts_ready t t.earliest times (number_at s.work) s.time v
          (record {
            released = l;
            unfinished = sym (complete_other times s.work u v ne) ∙ p.unfinished;
            predecessor = predecessor_stays t times (number_at later.work) (number_at s.work) v was_complete p.predecessor;
          }))
          old))
          (λ l. l)

    module _ (v : ℕ) (p : pick t times later ≡ runs v) (ne : v ≢ u) where
      mine : Chosen t times s t.count u
      mine = pick_chosen t times s u q

      its : Chosen t times later t.count v
      its = pick_chosen t times later v p

      goes_before : Before t (number_at later.completions) v u
      goes_before = by_top (its.top u mine.inside (ready-later t times s u q u mine.is_ready_lem open-still))
        where
          by_top : (u ≡ v) ⊎ Before t (number_at later.completions) v u → Before t (number_at later.completions) v u
          by_top (inl e) = absurd (ne (sym e))
          by_top (inr b) = b

      never_ready : ready_in t times s v ≡ true → ⊥
      never_ready r = by_top (mine.top v its.inside r)
        where
          by_top : (v ≡ u) ⊎ Before t (number_at s.completions) u v → ⊥
          by_top (inl e) = ne e
          by_top (inr b) = before_asymmetric t (number_at later.completions) goes_before (order_later t times s u q u v mine.is_ready_lem r b)

      more_urgent : t.urgency u < t.urgency v
      more_urgent =
          by_order (t.urgency v) (t.urgency u)
          (λ l.
          absurd (omega (
            arith,
            before_since t (number_at later.completions) goes_before l,
            since_later t times s u q u mine.is_ready_lem,
            since_past t (number_at s.completions) s.time past u (ready_parts t t.earliest times (number_at s.work) s.time u mine.is_ready_lem).released,
            since_released t (number_at later.completions) v,
            released-now v ne its.is_ready_lem (never_true (ready_in t times s v) never_ready),
          )))
          (λ l. l)

    displaced_by : (v : ℕ) → pick t times later ≡ runs v → (v ≡ u) ⊎ (t.urgency u < t.urgency v)
    displaced_by v p = by_equal v u (λ e. inl e) (λ ne. inr (more_urgent v p ne))

module _ (t : Table) (times : List ℕ) (R : ℕ) (few : t.count ≤ max_jobs) (released : (u : ℕ) → u < t.count → t.earliest u ≤ R) where
  pub equals_not_displaced : (n u v : ℕ) → entry t times n ≡ runs u → complete times (number_at (after t times (suc n)).work) u ≡ false
      → entry t times (suc n) ≡ runs v → (v ≡ u) ⊎ (t.urgency u < t.urgency v)
  unfolding entry
  equals_not_displaced n u v q open-still p =
      let s = after t times n in
      let e : after t times (suc n) ≡ moved times (runs u) s = after_next t times n ∙ next-moved t times s (runs u) q (pick-left t times s u q) in
      displaced_by t times s u q (going t times R few released n).past (rw e at open-still) v (rw e at p)
