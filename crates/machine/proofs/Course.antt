-- The course of a run: each tick does work or comes before the last release, so that all work is done in the end, and then nothing changes.
-- Assumes a table of at most the greatest number of jobs, each released by a time R.
--   Going   what holds after n ticks
use Prim.Native.Nat.{ℕ, zero, suc, ◌+◌, ◌≤◌, ◌<◌}
use mathlib.Core.Path.{◌≡◌, refl, ◌∙◌}
use mathlib.Core.Bool.{true, false}
use mathlib.Core.List.{List}
use mathlib.Core.Logic.{◌⊎◌, inl, inr}
use native.Mathlib.Omega.{arith}
use native.Mathlib.Nat.{add-zero, add-suc}
use lib.ListN.{length, get_or, set, length-set, replicate, length-replicate}
use Rattle.laws.specs.Words.{number_at}
use Rattle.laws.proofs.Tests.{by_test, by_order, by_equal, both_ways}
use Rattle.laws.proofs.Sums.{sum_ext, sum_eq, sum_bump}
use Rattle.jobs.specs.Limits.{max_jobs}
use Rattle.theory.specs.Table.{Table}
use Rattle.theory.specs.Runs.{Entry, idle, runs, complete}
use Rattle.machine.specs.declared.state.State.{State}
use Rattle.machine.specs.Ticks.{all_complete, ready_in, pick, moved, next}
use Rattle.machine.specs.Runs.{after}
use Rattle.laws.proofs.Every.{every_at, first_failing}
use Rattle.theory.proofs.Legal.{complete_eq, complete_ne, parts_ready}
use Rattle.machine.proofs.RunningTimes.{sum_of}
use Rattle.machine.proofs.Readiness.{predecessor_all, worked_here, worked_other, noted_here, noted_open, noted_other}
use Rattle.machine.proofs.Ticking.{pick_chosen, pick_none, pick_open, pick-left, next-moved, next_stays}

-- ---- work, added up
pub sum_worked : (work : List ℕ) (u n : ℕ) → u < n → u < length work → sum_of (set work u (get_or work u 0 + 1)) n ≡ sum_of work n + 1
sum_worked work u n l room =
    sum_bump n (λ i. get_or work i 0) (λ i. get_or (set work u (get_or work u 0 + 1)) i 0) u 1 l
    (worked_here work work u room)
    (λ i m ne. worked_other work work u i ne)

module _ (times work : List ℕ) (n : ℕ) where
  pub all_sum : all_complete times work n ≡ true → sum_of work n ≡ sum_of times n
  all_sum h = sum_ext n (λ i. get_or work i 0) (λ i. get_or times i 0) (λ i l. complete_eq times (number_at work) i (every_at (complete times (number_at work)) n i l h))

  module _ (within : (u : ℕ) → u < n → get_or work u 0 ≤ get_or times u 0) where
    pub sum_all : sum_of times n ≤ sum_of work n → all_complete times work n ≡ true
    sum_all h =
        by_test (all_complete times work n)
        (λ e. e)
        (λ e.
        let f = first_failing (complete times (number_at work)) n e in
        absurd (complete_ne times (number_at work) f.place f.fails (sum_eq n (λ i. get_or work i 0) (λ i. get_or times i 0) within h f.place f.below)))

    pub sum_open : all_complete times work n ≡ false → sum_of work n < sum_of times n
    sum_open h = by_order (sum_of times n) (sum_of work n) (λ l. absurd (both_ways (sum_all l) h)) (λ l. l)

-- one more tick of work keeps every job within its running time
pub worked-within : (times work : List ℕ) (n u : ℕ) → ((k : ℕ) → k < n → get_or work k 0 ≤ get_or times k 0) → get_or work u 0 < get_or times u 0 → u < length work
    → (k : ℕ) → k < n → get_or (set work u (get_or work u 0 + 1)) k 0 ≤ get_or times k 0
worked-within times work n u w l room k m =
    by_equal k u
    (λ e. rw (e, worked_here times work u room) (omega (arith, l)))
    (λ ne. rw (worked_other times work u k ne) (w k m))

pub none_done : (n i : ℕ) → ◌≡◌ {A = ℕ} (get_or (replicate n 0) i 0) 0
none_done zero i = refl
none_done (suc n) zero = refl
none_done (suc n) (suc i) = none_done n i

-- where no completion is later than the time, none is after a tick
noted_past : (times : List ℕ) (s : State) (u : ℕ) → u < length s.completions → ((k : ℕ) → get_or s.completions k 0 ≤ s.time)
    → (k : ℕ) → get_or (moved times (runs u) s).completions k 0 ≤ s.time + 1
noted_past times s u room past k =
    by_equal k u
    (λ e.
    by_equal (get_or s.work u 0 + 1) (get_or times u 0)
    (λ all. rw e (omega (arith, noted_here times s u room all)))
    (λ left. rw (noted_open times s u left) (omega (arith, past k))))
    (λ ne. omega (arith, noted_other times s u k ne, past k))

module _ (t : Table) (times : List ℕ) where
  pub after_next : (n : ℕ) → after t times (suc n) ≡ next t times (after t times n)
  unfolding after
  after_next n = refl

  -- once all is complete nothing changes
  pub after_settled : (n : ℕ) → all_complete times (after t times n).work t.count ≡ true → (m : ℕ) → after t times (n + m) ≡ after t times n
  unfolding after
  after_settled n h zero = rw add-zero
  after_settled n h (suc m) = rw (add-suc, after_settled n h m) (next_stays t times (after t times n) h)

  -- with all complete no job is ready
  pub pick_settled : (s : State) → all_complete times s.work t.count ≡ true → pick t times s ≡ idle
  pick_settled s h = by_entry (pick t times s) refl
    where
      by_entry : (e : Entry) → pick t times s ≡ e → pick t times s ≡ idle
      by_entry idle q = q
      by_entry (runs u) q = absurd (both_ways h (pick-left t times s u q))

  module _ (R : ℕ) (few : t.count ≤ max_jobs) (released : (u : ℕ) → u < t.count → t.earliest u ≤ R) where
    pub record Going (n : ℕ) (s : State) : Type 0 where
      pub long : length s.work ≡ max_jobs
      pub noted : length s.completions ≡ max_jobs
      pub past : (u : ℕ) → get_or s.completions u 0 ≤ s.time
      pub within : (u : ℕ) → u < t.count → get_or s.work u 0 ≤ get_or times u 0
      pub early : s.time ≤ R + sum_of s.work t.count
      pub far : (all_complete times s.work t.count ≡ true) ⊎ ((s.time ≡ n) × (n ≤ R + sum_of s.work t.count))

    -- an idle tick with work left comes before the last release
    pub idle_early : (s : State) → pick t times s ≡ idle → all_complete times s.work t.count ≡ false → s.time < R
    idle_early s e h =
        let f = first_failing (complete times (number_at s.work)) t.count h in
        by_order R s.time
        (λ l.
        let is_ready_lem : ready_in t times s f.place ≡ true = parts_ready t t.earliest times (number_at s.work) s.time f.place (record { released = omega (arith, released f.place f.below); unfinished = f.fails; predecessor = predecessor_all t times (number_at s.work) f.place f.holds }) in
        absurd (both_ways is_ready_lem (pick_none t times s e f.place f.below)))
        (λ l. l)

    -- a job that runs has work left
    pub runs_left : (s : State) (u : ℕ) → pick t times s ≡ runs u → ((k : ℕ) → k < t.count → get_or s.work k 0 ≤ get_or times k 0) → get_or s.work u 0 < get_or times u 0
    runs_left s u e within =
        let c = pick_chosen t times s u e in
        let ne = complete_ne times (number_at s.work) u (pick_open t times s u e) in
        omega (arith, within u c.inside)

    going_moved : (n : ℕ) (s : State) → Going n s → all_complete times s.work t.count ≡ false → s.time ≡ n → n ≤ R + sum_of s.work t.count
        → (e : Entry) → pick t times s ≡ e → Going (suc n) (moved times e s)
    going_moved n s g h now far idle q =
        record {
          long = g.long;
          noted = g.noted;
          past = λ u. omega (arith, g.past u);
          within = g.within;
          early = omega (arith, idle_early s q h);
          far = inr (omega arith, omega (arith, idle_early s q h));
        }
    going_moved n s g h now far (runs u) q =
        let c = pick_chosen t times s u q in
        let room : u < length s.work = omega (arith, c.inside, g.long) in
        record {
          long = length-set s.work u (get_or s.work u 0 + 1) ∙ g.long;
          noted = length-set s.completions u _ ∙ g.noted;
          past = noted_past times s u (omega (arith, c.inside, g.noted)) g.past;
          within = worked-within times s.work t.count u g.within (runs_left s u q g.within) room;
          early = omega (arith, g.early, sum_worked s.work u t.count c.inside room);
          far = inr (omega arith, omega (arith, sum_worked s.work u t.count c.inside room));
        }

    going_next : (n : ℕ) (s : State) → Going n s → Going (suc n) (next t times s)
    going_next n s g =
        by_test (all_complete times s.work t.count)
        (λ h. rw (next_stays t times s h) (record { long = g.long; noted = g.noted; past = g.past; within = g.within; early = g.early; far = inl h }))
        (λ h. rw (next-moved t times s (pick t times s) refl h) (by_far h g.far))
      where
        by_far : all_complete times s.work t.count ≡ false → (all_complete times s.work t.count ≡ true) ⊎ ((s.time ≡ n) × (n ≤ R + sum_of s.work t.count)) → Going (suc n) (moved times (pick t times s) s)
        by_far h (inl d) = absurd (both_ways d h)
        by_far h (inr f) = going_moved n s g h f.0 f.1 (pick t times s) refl

    pub going : (n : ℕ) → Going n (after t times n)
    unfolding after
    going zero =
        record {
          long = length-replicate {A = ℕ} max_jobs 0;
          noted = length-replicate {A = ℕ} max_jobs 0;
          past = λ u. omega (arith, none_done max_jobs u);
          within = λ u l. omega (arith, none_done max_jobs u);
          early = omega arith;
          far = inr (refl, omega arith);
        }
    going (suc n) = going_next n (after t times n) (going n)

    -- while there is work left the time is the number of ticks
    pub going_time : (n : ℕ) → all_complete times (after t times n).work t.count ≡ false → (after t times n).time ≡ n
    going_time n h = by_far (going n).far
      where
        by_far : (all_complete times (after t times n).work t.count ≡ true) ⊎ (((after t times n).time ≡ n) × (n ≤ R + sum_of (after t times n).work t.count)) → (after t times n).time ≡ n
        by_far (inl d) = absurd (both_ways d h)
        by_far (inr f) = f.0

    -- by the last release and all running times, all is complete
    pub going_ends : (n : ℕ) → R + sum_of times t.count ≤ n → all_complete times (after t times n).work t.count ≡ true
    going_ends n l = by_test (all_complete times (after t times n).work t.count) (λ h. h) (λ h. by_far h (going n).far)
      where
        by_far : all_complete times (after t times n).work t.count ≡ false → (all_complete times (after t times n).work t.count ≡ true) ⊎ (((after t times n).time ≡ n) × (n ≤ R + sum_of (after t times n).work t.count)) → all_complete times (after t times n).work t.count ≡ true
        by_far h (inl d) = d
        by_far h (inr f) = absurd (omega (arith, f.1, sum_open times (after t times n).work t.count (going n).within h))
