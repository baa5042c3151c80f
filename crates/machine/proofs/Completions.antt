-- Completions: what a tick makes of them, in a run and in the machine's state, and that the two are the same. Assumes the limits of Course.
use Prim.Native.Nat.{ℕ, zero, suc, ◌+◌, ◌≤◌, ◌<◌}
use mathlib.Core.Path.{◌≡◌, refl, sym, ◌∙◌}
use mathlib.Core.Bool.{true, false}
use mathlib.Core.List.{List}
use mathlib.Core.Logic.{◌⊎◌, inl, inr}
use native.Mathlib.Omega.{arith}
use native.Mathlib.Nat.{add-zero, add-suc}
use lib.ListN.{length, get_or}
use borrow.Author.Tests.{eq-eqb, ne_eqb}
use Rattle.laws.specs.Words.{number_at}
use Rattle.laws.proofs.Tests.{by_test, by_equal, both_ways}
use Rattle.jobs.specs.Limits.{max_jobs}
use Rattle.theory.specs.Table.{Table}
use Rattle.theory.specs.Runs.{Entry, idle, runs, names, complete}
use Rattle.theory.proofs.Legal.{ne_complete}
use Rattle.machine.specs.declared.state.State.{State}
use Rattle.machine.specs.Ticks.{all_complete, pick, moved}
use Rattle.machine.specs.Runs.{after, entry, completion}
use Rattle.laws.proofs.Every.{every_at}
use Rattle.machine.proofs.Readiness.{worked_here, complete_other, noted_here, noted_other}
use Rattle.machine.proofs.Ticking.{pick_chosen, next-moved, next_stays}
use Rattle.machine.proofs.Course.{none_done, after_settled, pick_settled, going, going_time}

-- ---- completions, one tick more
module _ (t : Table) (times : List ℕ) where
  pub completion_named : (u n : ℕ) → entry t times n ≡ runs u → completion t times u (suc n) ≡ suc n
  unfolding completion names
  completion_named u n e = rw (e, eq-eqb u u refl)

  pub completion_other : (u v n : ℕ) → entry t times n ≡ runs v → (u ≡ v → ⊥) → completion t times u (suc n) ≡ completion t times u n
  unfolding completion names
  completion_other u v n e ne = rw (e, ne_eqb v u (λ q. ne (sym q)))

  pub completion_idle : (u n : ℕ) → entry t times n ≡ idle → completion t times u (suc n) ≡ completion t times u n
  unfolding completion names
  completion_idle u n e = rw e

  pub entry_settled : (n : ℕ) → all_complete times (after t times n).work t.count ≡ true → (m : ℕ) → entry t times (n + m) ≡ idle
  unfolding entry
  entry_settled n h m = rw (after_settled t times n h m) (pick_settled t times (after t times n) h)

  pub completion_settled : (u n : ℕ) → all_complete times (after t times n).work t.count ≡ true → (m : ℕ) → completion t times u (n + m) ≡ completion t times u n
  completion_settled u n h zero = rw add-zero
  completion_settled u n h (suc m) = rw add-suc (completion_idle u (n + m) (entry_settled n h m) ∙ completion_settled u n h m)

-- ---- in the state
module _ (t : Table) (times : List ℕ) where
  -- the state's completion of the job at u after n ticks is the run's, or the job is not complete
  abbrev Kept : ℕ → State → ℕ → Type 0
  Kept n s u = (get_or s.completions u 0 ≡ completion t times u n) ⊎ ((u < t.count) × (complete times (number_at s.work) u ≡ false))

  kept_on : (n : ℕ) (s s' : State) (u : ℕ) → get_or s'.completions u 0 ≡ get_or s.completions u 0
      → complete times (number_at s'.work) u ≡ complete times (number_at s.work) u → completion t times u (suc n) ≡ completion t times u n
      → Kept n s u → Kept (suc n) s' u
  kept_on n s s' u a b c (inl e) = inl (a ∙ e ∙ sym c)
  kept_on n s s' u a b c (inr f) = inr (f.0, b ∙ f.1)

  module _ (few : t.count ≤ max_jobs) (n : ℕ) (s : State) (now : s.time ≡ n) (long : length s.work ≡ max_jobs) (noted : length s.completions ≡ max_jobs) (k : (u : ℕ) → Kept n s u) where
    kept_here : (u : ℕ) → u < t.count → entry t times n ≡ runs u → Kept (suc n) (moved times (runs u) s) u
    kept_here u l e =
        by_equal (get_or s.work u 0 + 1) (get_or times u 0)
        (λ all. inl (noted_here times s u (omega (arith, noted)) all ∙ rw (completion_named t times u n e) (omega (arith, now))))
        (λ left. inr (l, ne_complete times (number_at (moved times (runs u) s).work) u (λ z. left (sym (worked_here times s.work u (omega (arith, long))) ∙ z))))

    kept_moved : (e : Entry) → pick t times s ≡ e → entry t times n ≡ e → (u : ℕ) → Kept (suc n) (moved times e s) u
    kept_moved idle q e u = kept_on n s (moved times idle s) u refl refl (completion_idle t times u n e) (k u)
    kept_moved (runs v) q e u =
        by_equal u v
        (λ h. rw h (kept_here v (pick_chosen t times s v q).inside e))
        (λ ne.
        kept_on n s (moved times (runs v) s) u
        (noted_other times s v u ne)
        (complete_other times s.work v u ne)
        (completion_other t times u v n e ne)
        (k u))

  module _ (R : ℕ) (few : t.count ≤ max_jobs) (released : (u : ℕ) → u < t.count → t.earliest u ≤ R) where
    kept : (n u : ℕ) → Kept n (after t times n) u
    unfolding after completion
    kept zero u = inl (none_done max_jobs u)
    kept (suc n) u =
        let s = after t times n in
        let g = going t times R few released n in
        by_test (all_complete times s.work t.count)
        (λ h. rw (next_stays t times s h) (kept_on n s s u refl refl (completion_idle t times u n (settled n h)) (kept n u)))
        (λ h. rw (next-moved t times s (pick t times s) refl h) (kept_moved few n s (going_time t times R few released n h) g.long g.noted (kept n) (pick t times s) refl (entry_is n) u))
      where
        settled : (n : ℕ) → all_complete times (after t times n).work t.count ≡ true → entry t times n ≡ idle
        settled n h = unfold entry in pick_settled t times (after t times n) h

        entry_is : (n : ℕ) → entry t times n ≡ pick t times (after t times n)
        entry_is n = unfold entry in refl

    -- where the job at u, if there is one, is complete, the state's completion is the run's
    by_complete : (n u : ℕ) → (u < t.count → complete times (number_at (after t times n).work) u ≡ true) → Kept n (after t times n) u
        → get_or (after t times n).completions u 0 ≡ completion t times u n
    by_complete n u c (inl e) = e
    by_complete n u c (inr f) = absurd (both_ways (c f.0) f.1)

    pub kept_complete : (n u : ℕ) → complete times (number_at (after t times n).work) u ≡ true → get_or (after t times n).completions u 0 ≡ completion t times u n
    kept_complete n u c = by_complete n u (λ l. c) (kept n u)

    pub kept_all : (n : ℕ) → all_complete times (after t times n).work t.count ≡ true → (u : ℕ) → get_or (after t times n).completions u 0 ≡ completion t times u n
    kept_all n h u = by_complete n u (λ l. every_at (complete times (number_at (after t times n).work)) t.count u l h) (kept n u)
