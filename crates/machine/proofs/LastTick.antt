-- The last tick that runs a job, whose end is the job's completion. Assumes nothing.
--   completion-ran     it runs the job
--   completion-last    no later one does
--   completion_fixed   the completion of a complete job stays
use Prim.Native.Nat.{ℕ, zero, suc, ◌+◌, ◌≤◌, ◌<◌}
use mathlib.Core.Path.{◌≡◌, refl, sym, ap, subst, ◌∙◌}
use mathlib.Core.Bool.{true}
use mathlib.Core.List.{List}
use native.Mathlib.Omega.{arith}
use native.Mathlib.Nat.{add-zero, add-suc}
use borrow.Author.Tests.{eq-eqb}
use Rattle.laws.specs.Words.{number_at}
use Rattle.laws.proofs.Tests.{by_test, by_last, both_ways}
use Rattle.theory.specs.Table.{Table}
use Rattle.theory.specs.Runs.{Entry, idle, runs, names, complete}
use Rattle.theory.proofs.Work.{named}
use Rattle.machine.specs.Ticks.{all_complete, pick, moved}
use Rattle.machine.specs.Runs.{after, entry, completion}
use Rattle.machine.proofs.Ticking.{pick_open, next-moved, next_stays}
use Rattle.machine.proofs.Staying.{stays}
use Rattle.machine.proofs.Course.{after_next}
use Rattle.machine.proofs.Completions.{completion_other, completion_idle}

module _ (t : Table) (times : List ℕ) (u : ℕ) where
  pub completion-ran : (n m : ℕ) → completion t times u n ≡ suc m → entry t times m ≡ runs u
  unfolding completion
  completion-ran zero m e = absurd (omega arith)
  completion-ran (suc n) m e =
      by_test (names (entry t times n) u)
      (λ h.
      let here : suc n ≡ suc m = rw h at e in
      let same : n ≡ m = omega arith in
      subst (λ (k : ℕ). entry t times k ≡ runs u) same (named (entry t times n) u h))
      (λ h. completion-ran n m (rw h at e))

  pub completion-last : (n m : ℕ) → m < n → entry t times m ≡ runs u → suc m ≤ completion t times u n
  unfolding completion
  completion-last zero m l e = absurd (omega arith)
  completion-last (suc n) m l e =
      by_test (names (entry t times n) u)
      (λ h. rw h (omega arith))
      (λ h.
      rw h (by_last m n l
      (λ q. absurd (both_ways (ap (λ (k : ℕ). names (entry t times k) u) (sym q) ∙ rw e (unfold names in eq-eqb u u refl)) h))
      (λ below. completion-last n m below e)))

  -- ---- once the job is complete
  complete-next : (n : ℕ) → complete times (number_at (after t times n).work) u ≡ true → complete times (number_at (after t times (suc n)).work) u ≡ true
  complete-next n c =
      let s = after t times n in
      by_test (all_complete times s.work t.count)
      (λ h. rw (after_next t times n, next_stays t times s h) c)
      (λ h. rw (after_next t times n, next-moved t times s (pick t times s) refl h) (by_entry (pick t times s) refl))
    where
      by_entry : (e : Entry) → pick t times (after t times n) ≡ e → complete times (number_at (moved times e (after t times n)).work) u ≡ true
      by_entry idle q = c
      by_entry (runs k) q = stays t times (after t times n) k q u c

  complete-later : (n : ℕ) → complete times (number_at (after t times n).work) u ≡ true → (m : ℕ) → complete times (number_at (after t times (n + m)).work) u ≡ true
  complete-later n c zero = rw add-zero c
  complete-later n c (suc m) = rw add-suc (complete-next (n + m) (complete-later n c m))

  completion-next : (n : ℕ) → complete times (number_at (after t times n).work) u ≡ true → completion t times u (suc n) ≡ completion t times u n
  completion-next n c = by_entry (entry t times n) refl
    where
      by_entry : (e : Entry) → entry t times n ≡ e → completion t times u (suc n) ≡ completion t times u n
      by_entry idle q = completion_idle t times u n q
      by_entry (runs k) q =
          completion_other t times u k n q
          (λ same. both_ways (ap (complete times (number_at (after t times n).work)) (sym same) ∙ c) (pick_open t times (after t times n) k (unfold entry in q)))

  pub completion_fixed : (n : ℕ) → complete times (number_at (after t times n).work) u ≡ true → (m : ℕ) → completion t times u (n + m) ≡ completion t times u n
  completion_fixed n c zero = rw add-zero
  completion_fixed n c (suc m) = rw add-suc (completion-next (n + m) (complete-later n c m) ∙ completion_fixed n c m)
