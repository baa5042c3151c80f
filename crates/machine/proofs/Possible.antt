-- No state of a run is refused with 11. Assumes the limits of Course and running times above 0.
--   Sound   what holds of each job after n ticks
use Prim.Native.Nat.{ℕ, zero, suc, ◌≤◌, ◌<◌}
use mathlib.Core.Path.{◌≡◌, refl, sym, subst, ◌∙◌}
use mathlib.Core.Bool.{true, ◌&&◌, ◌||◌}
use mathlib.Core.List.{List}
use mathlib.Core.Logic.{◌⊎◌, inl, inr}
use native.Mathlib.Omega.{arith}
use lib.Dec.{ltb, eqb}
use lib.ListN.{length, get_or}
use borrow.Author.Tests.{le-leb, lt-ltb}
use Rattle.laws.specs.Words.{number_at}
use Rattle.laws.proofs.Tests.{by_test, by_equal}
use Rattle.laws.proofs.Every.{every_all}
use Rattle.std.specs.Prelude.{Ok}
use Rattle.jobs.specs.Limits.{max_jobs}
use Rattle.theory.specs.Table.{Table}
use Rattle.theory.specs.Runs.{Entry, idle, runs, complete, predecessor_complete}
use Rattle.theory.proofs.Legal.{complete_eq}
use Rattle.machine.specs.declared.state.State.{State}
use Rattle.machine.specs.Ticks.{last_time, all_complete, pick, moved, work_possible, completion_possible, possible, state_check}
use Rattle.machine.specs.Runs.{after}
use Rattle.machine.proofs.Readiness.{predecessor_stays, worked_here, worked_other, complete_other, noted_here, noted_other}
use Rattle.machine.proofs.Ticking.{pick_chosen, next-moved, next_stays}
use Rattle.machine.proofs.Staying.{ran_parts, stays}
use Rattle.machine.proofs.Course.{none_done, after_next, going}

module _ (t : Table) (times : List ℕ) where
  abbrev Begun : State → ℕ → Type 0
  Begun s u = (get_or s.work u 0 ≡ 0) ⊎ ((predecessor_complete t times (number_at s.work) u ≡ true) × (t.earliest u < s.time))

  record Sound (s : State) : Type 0 where
    pub begun : (u : ℕ) → u < t.count → Begun s u
    pub ended : (u : ℕ) → u < t.count → complete times (number_at s.work) u ≡ true → t.earliest u < get_or s.completions u 0

  sound_idle : (s : State) → Sound s → Sound (moved times idle s)
  sound_idle s h = record { begun = λ u l. by_begun u (h.begun u l); ended = h.ended }
    where
      by_begun : (u : ℕ) → Begun s u → Begun (moved times idle s) u
      by_begun u (inl e) = inl e
      by_begun u (inr b) = inr (b.0, omega (arith, b.1))

  module _ (s : State) (long : length s.work ≡ max_jobs) (noted : length s.completions ≡ max_jobs) (few : t.count ≤ max_jobs) (h : Sound s) (k : ℕ) (q : pick t times s ≡ runs k) where
    abbrev later : State
    later = moved times (runs k) s

    room : k < max_jobs
    room = omega (arith, (pick_chosen t times s k q).inside)

    begun_later : (u : ℕ) → u < t.count → Begun later u
    begun_later u l =
        by_equal u k
        (λ e.
        let p = ran_parts t times s k q in
        rw e (inr (predecessor_stays t times (number_at s.work) (number_at later.work) k (stays t times s k q) p.predecessor, omega (arith, p.released))))
        (λ ne. by_begun ne (h.begun u l))
      where
        by_begun : (u ≡ k → ⊥) → Begun s u → Begun later u
        by_begun ne (inl e) = inl (worked_other times s.work k u ne ∙ e)
        by_begun ne (inr b) = inr (predecessor_stays t times (number_at s.work) (number_at later.work) u (stays t times s k q) b.0, omega (arith, b.1))

    ended_here : complete times (number_at later.work) k ≡ true → t.earliest k < get_or later.completions k 0
    ended_here c =
        let all = sym (worked_here times s.work k (omega (arith, room, long))) ∙ complete_eq times (number_at later.work) k c in
        omega (arith, noted_here times s k (omega (arith, room, noted)) all, (ran_parts t times s k q).released)

    ended_later : (u : ℕ) → u < t.count → complete times (number_at later.work) u ≡ true → t.earliest u < get_or later.completions u 0
    ended_later u l c =
        by_equal u k
        (λ e. rw e (ended_here (subst (λ (i : ℕ). complete times (number_at later.work) i ≡ true) e c)))
        (λ ne. rw (noted_other times s k u ne) (h.ended u l (sym (complete_other times s.work k u ne) ∙ c)))

    sound_ran : Sound later
    sound_ran = record { begun = begun_later; ended = ended_later }

  module _ (R : ℕ) (few : t.count ≤ max_jobs) (released : (u : ℕ) → u < t.count → t.earliest u ≤ R) (positive : (u : ℕ) → u < t.count → 0 < get_or times u 0) where
    sound_moved : (n : ℕ) → Sound (after t times n) → (e : Entry) → pick t times (after t times n) ≡ e → Sound (moved times e (after t times n))
    sound_moved n h idle q = sound_idle (after t times n) h
    sound_moved n h (runs k) q = let g = going t times R few released n in sound_ran (after t times n) g.long g.noted few h k q

    sound : (n : ℕ) → Sound (after t times n)
    sound zero =
        record {
          begun = λ u l. unfold after in inl (none_done max_jobs u);
          ended = λ u l c. absurd (omega (arith, positive u l, none_done max_jobs u, complete_eq times (number_at (after t times 0).work) u c, nothing u));
        }
      where
        nothing : (u : ℕ) → get_or (after t times 0).work u 0 ≡ 0
        nothing u = unfold after in none_done max_jobs u
    sound (suc n) =
        let s = after t times n in
        by_test (all_complete times s.work t.count)
        (λ a. rw (after_next t times n, next_stays t times s a) (sound n))
        (λ a. rw (after_next t times n, next-moved t times s (pick t times s) refl a) (sound_moved n (sound n) (pick t times s) refl))

    -- a complete job was released before
    pub complete_released : (n u : ℕ) → u < t.count → complete times (number_at (after t times n).work) u ≡ true → t.earliest u < (after t times n).time
    complete_released n u l c = by_begun ((sound n).begun u l)
      where
        by_begun : Begun (after t times n) u → t.earliest u < (after t times n).time
        by_begun (inl e) = absurd (omega (arith, positive u l, e, complete_eq times (number_at (after t times n).work) u c))
        by_begun (inr b) = b.1

    module _ (n : ℕ) (early : (after t times n).time ≤ last_time) where
      abbrev now : State
      now = after t times n

      work_possible_lem : (u : ℕ) → u < t.count → work_possible t times (number_at now.work) now.time u ≡ true
      unfolding work_possible
      work_possible_lem u l = rw (le-leb (get_or now.work u 0) (get_or times u 0) ((going t times R few released n).within u l)) (by_begun ((sound n).begun u l))
        where
          by_begun : Begun now u → eqb (get_or now.work u 0) 0 || (predecessor_complete t times (number_at now.work) u && ltb (t.earliest u) now.time) ≡ true
          by_begun (inl e) = rw e
          by_begun (inr b) = by_test (eqb (get_or now.work u 0) 0) (λ e. rw e) (λ e. rw (e, b.0, lt-ltb (t.earliest u) now.time b.1))

      completion_possible_lem : (u : ℕ) → u < t.count → completion_possible t times (number_at now.work) (number_at now.completions) now.time u ≡ true
      unfolding completion_possible
      completion_possible_lem u l =
          by_test (complete times (number_at now.work) u)
          (λ c.
          rw (c, lt-ltb (t.earliest u) (get_or now.completions u 0) ((sound n).ended u l c), le-leb (get_or now.completions u 0) now.time ((going t times R few released n).past u)))
          (λ c. rw c)

      pub state_possible : state_check t times now ≡ Ok tt
      unfolding state_check possible
      state_possible =
          rw (le-leb now.time last_time early, every_all (possible t times now) t.count (λ u l. rw (work_possible_lem u l, completion_possible_lem u l)))
