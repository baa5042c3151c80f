-- Counting events: which times are events, what a stretch of time adds to their number, and how many there are at most. Assumes nothing.
--   event_released    a release is an event
--   event_completed   a completion is an event
--   event_some        an event is a release or a completion
--   no_event          no release and no completion: no event
--   events_none       there is none up to time 0
--   events_leg        a stretch with its only event at its end has one
--   events_past       a stretch with no event has none
--   events_few        there are at most two for each job
--   events-same       as many for two tables, where the same times are events
use Prim.Native.Nat.{ℕ, zero, suc, ◌+◌, ◌-◌, ◌*◌, ◌≤◌, ◌<◌}
use mathlib.Core.Path.{◌≡◌, refl, ap, ◌∙◌}
use mathlib.Core.Bool.{Bool, true, false, cond, not, ◌&&◌, ◌||◌}
use mathlib.Core.Logic.{◌⊎◌, inl, inr, ◌≢◌}
use native.Mathlib.Omega.{arith}
use native.Mathlib.Nat.{add-suc}
use lib.Dec.{eqb}
use borrow.Author.Tests.{eq-eqb, ne_eqb, eqb-true, not-true, not-false}
use Rattle.laws.specs.Words.{sum_below, every_below}
use Rattle.laws.proofs.Tests.{by_test, cond_one}
use Rattle.laws.proofs.Every.{every_not, every_all, first_failing}
use Rattle.laws.proofs.Sums.{sum_ext, sum_mono, sum_add, sum_zero, sum_only, sum_still}
use Rattle.theory.specs.Table.{Table}
use Rattle.machine.specs.Events.{is_event, events}

-- ---- at most two for each job
-- no release and no completion of the first c jobs is at time n
abbrev quiet : (ℕ → ℕ) → (ℕ → ℕ) → ℕ → ℕ → Bool
quiet release completed c n = every_below c (λ u. not (eqb (release u) n || eqb (completed u) n))

-- a job adds at most its release and its completion
one_more : (before released completes : Bool)
    → cond (not (before && not (released || completes))) 1 0 ≤ cond (not before) 1 0 + (cond released 1 0 + cond completes 1 0)
one_more true true completes = omega arith
one_more true false true = omega arith
one_more true false false = omega arith
one_more false released completes = omega arith

-- 1 at the place of time x among 1, 2, …, and 0 elsewhere
abbrev mark : ℕ → ℕ → ℕ
mark x k = cond (eqb x (suc k)) 1 0

mark_once : (n x : ℕ) → sum_below n (mark x) ≤ 1
mark_once n x = sum_only n (mark x) (x - 1) 1 (cond_one (eqb x (suc (x - 1)))) (λ k l ne. rw (ne_eqb x (suc k) (omega arith)))

module _ (release completed : ℕ → ℕ) where
  abbrev counted : ℕ → ℕ → ℕ
  counted c k = cond (not (quiet release completed c (suc k))) 1 0

  two_each : (c n : ℕ) → sum_below n (counted c) ≤ 2 * c
  unfolding every_below
  two_each zero n = omega (arith, sum_zero n (counted 0) (λ k l. refl))
  two_each (suc c) n =
      omega (
        arith,
        sum_mono n (counted (suc c)) (λ k. counted c k + (mark (release c) k + mark (completed c) k)) (λ k l. one_more (quiet release completed c (suc k)) (eqb (release c) (suc k)) (eqb (completed c) (suc k))),
        sum_add n (counted c) (λ k. mark (release c) k + mark (completed c) k),
        sum_add n (mark (release c)) (mark (completed c)),
        two_each c n,
        mark_once n (release c),
        mark_once n (completed c),
      )

module _ (t : Table) (completed : ℕ → ℕ) where
  -- ---- which times are events
  pub event_released : (n u : ℕ) → u < t.count → t.earliest u ≡ n → is_event t completed n ≡ true
  unfolding is_event
  event_released n u l e = ap not (every_not _ t.count u l (ap (λ (at : Bool). not (at || eqb (completed u) n)) (eq-eqb (t.earliest u) n e)))

  pub event_completed : (n u : ℕ) → u < t.count → completed u ≡ n → is_event t completed n ≡ true
  unfolding is_event
  event_completed n u l e =
      ap not (every_not _ t.count u l (by_test (eqb (t.earliest u) n) (λ r. rw r) (λ r. rw (r, eq-eqb (completed u) n e))))

  pub event_some : (n : ℕ) → is_event t completed n ≡ true → (u : ℕ) × (u < t.count) × ((t.earliest u ≡ n) ⊎ (completed u ≡ n))
  unfolding is_event
  event_some n h =
      let w = first_failing _ t.count (not-true _ h) in
      (w.place, w.below, either (t.earliest w.place) (completed w.place) w.fails)
    where
      either : (r c : ℕ) → not (eqb r n || eqb c n) ≡ false → (r ≡ n) ⊎ (c ≡ n)
      either r c e =
          by_test (eqb r n)
          (λ p. inl (eqb-true r n p))
          (λ p. inr (eqb-true c n (not-false _ (rw p at e))))

  pub no_event : (n : ℕ) → ((u : ℕ) → u < t.count → t.earliest u ≢ n) → ((u : ℕ) → u < t.count → completed u ≢ n) → is_event t completed n ≡ false
  unfolding is_event
  no_event n r c = ap not (every_all _ t.count (λ u l. rw (ne_eqb (t.earliest u) n (r u l), ne_eqb (completed u) n (c u l))))

  -- ---- how many there are
  pub events_none : events t completed 0 ≡ 0
  unfolding events sum_below
  events_none = refl

  events-next : (n : ℕ) → is_event t completed (suc n) ≡ true → events t completed (suc n) ≡ events t completed n + 1
  unfolding events sum_below
  events-next n e = ap (λ (at : Bool). events t completed n + cond at 1 0) e

  events_still : (n m : ℕ) → ((k : ℕ) → n < k → k ≤ n + m → is_event t completed k ≡ false) → events t completed (n + m) ≡ events t completed n
  unfolding events
  events_still n m h = sum_still _ n m (λ i l. rw (h (suc (n + i)) (omega arith) (omega arith)))

  pub events_leg : (time d : ℕ) → 0 < d → ((k : ℕ) → time < k → k < time + d → is_event t completed k ≡ false) → is_event t completed (time + d) ≡ true
      → events t completed (time + d) ≡ events t completed time + 1
  events_leg time zero l h e = absurd (omega arith)
  events_leg time (suc d) l h e =
      rw (add-suc time d) (events-next (time + d) (rw (add-suc time d) at e) ∙ ap (λ (k : ℕ). k + 1) (events_still time d (λ k a b. h k a (omega arith))))

  pub events_past : (n : ℕ) → ((k : ℕ) → n < k → is_event t completed k ≡ false) → (m : ℕ) → events t completed (n + m) ≡ events t completed n
  events_past n h m = events_still n m (λ k a b. h k a)

  pub events_few : (n : ℕ) → events t completed n ≤ 2 * t.count
  unfolding events is_event
  events_few n = two_each t.earliest completed t.count n

pub events-same : (a b : Table) (f g : ℕ → ℕ) → ((k : ℕ) → is_event a f k ≡ is_event b g k) → (n : ℕ) → events a f n ≡ events b g n
unfolding events
events-same a b f g same n = sum_ext n _ _ (λ k l. ap (λ (at : Bool). cond at 1 0) (same (suc k)))
