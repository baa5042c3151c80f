-- Legs of a run: from a state until the next release, or until what runs is complete, every tick has the same entry.
--   leg_of         what runs from a state on, and for how many ticks
--   moved_by       the state after so many ticks with one entry
--   Left          what runs has work left for so many ticks
--   pick_steady   what is picked stays so
--   after_leg     the state after so many ticks
--   entry_leg     what each of them runs
-- Assumes a table of at most the greatest number of jobs.
use Prim.Native.Nat.{ℕ, zero, suc, ◌+◌, ◌≤◌, ◌<◌}
use mathlib.Core.Path.{◌≡◌, refl, sym, ap, ◌∙◌}
use mathlib.Core.Bool.{Bool, true, false, cond}
use mathlib.Core.List.{List}
use mathlib.Core.Logic.{◌≢◌}
use native.Mathlib.Omega.{arith}
use native.Mathlib.Nat.{add-zero, add-suc}
use lib.Dec.{leb, eqb}
use lib.ListN.{length, get_or, set}
use lib.Seq.{get_or-set_same, get_or-set_other, set-get_or, set-set}
use borrow.Author.Tests.{leb-true, le-leb, ne_eqb}
use Rattle.laws.specs.Words.{number_at}
use Rattle.laws.proofs.Tests.{by_order, by_equal, same_test}
use Rattle.jobs.specs.Limits.{max_jobs}
use Rattle.theory.specs.Table.{Table, joined}
use Rattle.theory.specs.Runs.{Entry, idle, runs, complete, predecessor_complete, ready}
use Rattle.theory.proofs.Legal.{ne_complete}
use Rattle.machine.specs.declared.state.State.{State}
use Rattle.machine.specs.Ticks.{ready_in, best_up_to, pick, all_complete, moved}
use Rattle.machine.specs.Runs.{after, entry}
use Rattle.machine.proofs.Ticking.{pick_chosen, pick_open, pick-left, next-moved}
use Rattle.machine.proofs.Course.{after_next}

-- ---- two states with the same jobs complete, the same completions and no release in between
module _ (t : Table) (times : List ℕ) (s s' : State) (from : s.time ≤ s'.time) (apart : (u : ℕ) → u < t.count → s.time < t.earliest u → s'.time < t.earliest u)
    (same : (k : ℕ) → complete times (number_at s'.work) k ≡ complete times (number_at s.work) k) (noted : s'.completions ≡ s.completions) where
  released-same : (u : ℕ) → u < t.count → leb (t.earliest u) s'.time ≡ leb (t.earliest u) s.time
  released-same u l =
      same_test (leb (t.earliest u) s'.time) (leb (t.earliest u) s.time)
      (λ h.
      let by_now : t.earliest u ≤ s'.time = leb-true (t.earliest u) s'.time h in
      by_order (t.earliest u) s.time (λ past. le-leb (t.earliest u) s.time past) (λ later. absurd (omega (arith, apart u l later))))
      (λ h.
      let past : t.earliest u ≤ s.time = leb-true (t.earliest u) s.time h in
      le-leb (t.earliest u) s'.time (omega arith))

  predecessor-same : (u : ℕ) → predecessor_complete t times (number_at s'.work) u ≡ predecessor_complete t times (number_at s.work) u
  unfolding predecessor_complete
  predecessor-same zero = refl
  predecessor-same (suc v) = ap (λ (b : Bool). cond (joined t v) b true) (same v)

  ready-same : (u : ℕ) → u < t.count → ready_in t times s' u ≡ ready_in t times s u
  unfolding ready
  ready-same u l = rw (released-same u l, same u, predecessor-same u)

  best-same : (n : ℕ) → n ≤ t.count → best_up_to t times s' n ≡ best_up_to t times s n
  unfolding best_up_to
  best-same zero l = refl
  best-same (suc u) l = rw (ready-same u l, best-same u (omega arith), noted)

  pub pick_same : pick t times s' ≡ pick t times s
  unfolding pick
  pick_same = rw (best-same t.count (omega arith))

-- ---- so many ticks with one entry
-- the state after them, where its job is complete after none of them but the last
abbrev pub moved_by : List ℕ → ℕ → Entry → State → State
moved_by times ticks idle s = record { time = s.time + ticks; work = s.work; completions = s.completions }
moved_by times ticks (runs u) s =
    let worked = get_or s.work u 0 + ticks in
    record {
      time = s.time + ticks;
      work = set s.work u worked;
      completions = set s.completions u (cond (eqb worked (get_or times u 0)) (s.time + ticks) (get_or s.completions u 0));
    }

abbrev pub Left : List ℕ → Entry → ℕ → State → Type 0
Left times idle d s = Unit {0}
Left times (runs u) d s = get_or s.work u 0 + d ≤ get_or times u 0

pub left_part : (times : List ℕ) (e : Entry) (d m : ℕ) (s : State) → d ≤ m → Left times e m s → Left times e d s
left_part times idle d m s l h = tt
left_part times (runs u) d m s l h = omega (arith, h)

-- a job that is not complete then leaves its completion as it was
pub moved_open : (times : List ℕ) (d u : ℕ) (s : State) → get_or s.work u 0 + d ≢ get_or times u 0 → (moved_by times d (runs u) s).completions ≡ s.completions
moved_open times d u s ne = rw (ne_eqb (get_or s.work u 0 + d) (get_or times u 0) ne) (set-get_or s.completions u 0)

module _ (t : Table) (times : List ℕ) (few : t.count ≤ max_jobs) (s : State) (long : length s.work ≡ max_jobs) where
  module _ (u : ℕ) (q : pick t times s ≡ runs u) where
    room : u < length s.work
    room = omega (arith, (pick_chosen t times s u q).inside, long)

    complete-same : (d : ℕ) → get_or s.work u 0 + d < get_or times u 0 → (k : ℕ) → complete times (number_at (moved_by times d (runs u) s).work) k ≡ complete times (number_at s.work) k
    complete-same d l k =
        by_equal k u
        (λ e. rw e (ne_complete times (number_at (moved_by times d (runs u) s).work) u (λ z. absurd (omega (arith, l, z, get_or-set_same s.work u (get_or s.work u 0 + d) 0 room))) ∙ sym (pick_open t times s u q)))
        (λ ne. unfold complete in rw (get_or-set_other s.work u k (get_or s.work u 0 + d) 0 ne))

  moved_none : (e : Entry) → pick t times s ≡ e → Left times e 1 s → moved_by times 0 e s ≡ s
  moved_none idle q l = rw (add-zero s.time)
  moved_none (runs u) q l = rw (add-zero s.time, add-zero (get_or s.work u 0), ne_eqb (get_or s.work u 0) (get_or times u 0) (omega (arith, l)), set-get_or s.work u 0, set-get_or s.completions u 0)

  moved_more : (e : Entry) (d : ℕ) → pick t times s ≡ e → Left times e (suc d) s → moved times e (moved_by times d e s) ≡ moved_by times (suc d) e s
  moved_more idle d q l = let ticks : s.time + d + 1 ≡ s.time + suc d = omega arith in rw ticks
  moved_more (runs u) d q l =
      let w = get_or s.work u 0 in
      let ticks : s.time + d + 1 ≡ s.time + suc d = omega arith in
      let more : w + d + 1 ≡ w + suc d = omega arith in
      rw (moved_open times d u s (omega (arith, l)), get_or-set_same s.work u (w + d) 0 (room u q), set-set s.work u (w + d) (w + d + 1), ticks, more)

  pub pick_steady : (e : Entry) (d : ℕ) → pick t times s ≡ e → Left times e (suc d) s → ((u : ℕ) → u < t.count → s.time < t.earliest u → s.time + d < t.earliest u)
      → pick t times (moved_by times d e s) ≡ e
  pick_steady idle d q l apart = pick_same t times s (moved_by times d idle s) (omega arith) apart (λ k. refl) refl ∙ q
  pick_steady (runs u) d q l apart = pick_same t times s (moved_by times d (runs u) s) (omega arith) apart (complete-same u q d (omega (arith, l))) (moved_open times d u s (omega (arith, l))) ∙ q

  still_open : (e : Entry) (d : ℕ) → all_complete times s.work t.count ≡ false → pick t times (moved_by times d e s) ≡ e → all_complete times (moved_by times d e s).work t.count ≡ false
  still_open idle d h p = h
  still_open (runs u) d h p = pick-left t times (moved_by times d (runs u) s) u p

-- ---- in a run, from tick n until b
module _ (t : Table) (times : List ℕ) (few : t.count ≤ max_jobs) (n : ℕ) (s : State) (here : after t times n ≡ s) (now : s.time ≡ n)
    (long : length s.work ≡ max_jobs) (some : all_complete times s.work t.count ≡ false)
    (e : Entry) (q : pick t times s ≡ e) (b : ℕ) (apart : (u : ℕ) → u < t.count → n < t.earliest u → b ≤ t.earliest u) where
  steady : (d : ℕ) → n + d < b → Left times e (suc d) s → pick t times (moved_by times d e s) ≡ e
  steady d l h = pick_steady t times few s long e d q h (λ u ul late. omega (arith, now, apart u ul (omega (arith, now))))

  -- one tick more
  after_more : (d : ℕ) → n + d < b → Left times e (suc d) s → after t times (n + d) ≡ moved_by times d e s → after t times (n + suc d) ≡ moved_by times (suc d) e s
  after_more d l h before =
      let p = steady d l h in
      rw (add-suc n d, after_next t times (n + d), before, next-moved t times (moved_by times d e s) e p (still_open t times few s long e d some p))
      (moved_more t times few s long e d q h)

  after-within : (d : ℕ) → n + d < b → Left times e (suc d) s → after t times (n + d) ≡ moved_by times d e s
  after-within zero l h = rw (add-zero n) (here ∙ sym (moved_none t times few s long e q h))
  after-within (suc d) l h =
      let less = left_part times e (suc d) (suc (suc d)) s (omega arith) h in
      after_more d (omega arith) less (after-within d (omega arith) less)

  pub entry_leg : (d : ℕ) → n + d < b → Left times e (suc d) s → entry t times (n + d) ≡ e
  unfolding entry
  entry_leg d l h = ap (pick t times) (after-within d l h) ∙ steady d l h

  pub after_leg : (d : ℕ) → n + suc d ≤ b → Left times e (suc d) s → after t times (n + suc d) ≡ moved_by times (suc d) e s
  after_leg d l h = after_more d (omega arith) h (after-within d (omega arith) h)
