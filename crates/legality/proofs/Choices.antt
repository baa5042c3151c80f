-- A search for numbers in ranges finds some exactly if there are some, whatever they are tested for. Assumes nothing.
use Prim.Native.Nat.{ℕ, zero, suc, ◌≤◌, ◌<◌}
use mathlib.Core.Path.{◌≡◌, refl, sym, ap, ◌∙◌}
use mathlib.Core.Bool.{Bool, true, false, ◌||◌}
use mathlib.Core.List.{List, [], ◌∷◌, ◌++◌}
use native.Mathlib.Omega.{arith}
use native.Mathlib.Nat.{zero-add}
use lib.Dec.{leb}
use borrow.Author.Tests.{le-leb}
use Rattle.laws.specs.Words.{tabulate}
use Rattle.laws.proofs.Tests.{by_test, by_last, and_right, and_both}
use Rattle.laws.proofs.Filling.{tabulate_snoc}
use Rattle.legality.specs.Legality.{some_below, some_within}

-- ---- one number
below_some : (f : ℕ → Bool) (n : ℕ) → some_below n f ≡ true → (i : ℕ) × (f i ≡ true)
unfolding some_below
below_some f zero h = let z : ◌≡◌ {A = ℕ} 0 1 = cc in absurd (omega arith)
below_some f (suc n) h = by_test (some_below n f) (λ e. below_some f n e) (λ e. (n, rw e at h))

some_below_lem : (f : ℕ → Bool) (n i : ℕ) → i < n → f i ≡ true → some_below n f ≡ true
unfolding some_below
some_below_lem f zero i l e = absurd (omega arith)
some_below_lem f (suc n) i l e =
    by_last i n l
    (λ q. rw (← q) (rw e (or_true (some_below i f))))
    (λ m. rw (some_below_lem f n i m e) refl)
  where
    or_true : (b : Bool) → b || true ≡ true
    or_true true = refl
    or_true false = refl

-- ---- a list of numbers, each in its range
module _ (low high : ℕ → ℕ) where
  pub within_some : (n : ℕ) (f : List ℕ → Bool) → some_within low high n f ≡ true → (xs : List ℕ) × (f xs ≡ true)
  unfolding some_within
  within_some zero f h = ([], h)
  within_some (suc n) f h =
      let last = below_some _ _ h in
      let rest : List ℕ → Bool = (λ xs. f (xs ++ (last.0 ∷ []))) in
      let others = within_some n rest (and_right (leb (low n) last.0) (some_within low high n rest) last.1) in
      (others.0 ++ (last.0 ∷ []), others.1)

  pub some_within_lem : (n : ℕ) (f : List ℕ → Bool) (g : ℕ → ℕ) → ((i : ℕ) → i < n → (low i ≤ g i) × (g i ≤ high i))
      → f (tabulate 0 n g) ≡ true → some_within low high n f ≡ true
  unfolding some_within tabulate
  some_within_lem zero f g range h = h
  some_within_lem (suc n) f g range h =
      let here = range n (omega arith) in
      let last : tabulate 0 (suc n) g ≡ tabulate 0 n g ++ (g n ∷ [])
      = tabulate_snoc 0 n g ∙ ap (λ (k : ℕ). tabulate 0 n g ++ (g k ∷ [])) (zero-add n) in
      some_below_lem _ _ (g n) (omega arith)
      (and_both _ _
      (le-leb (low n) (g n) here.0)
      (some_within_lem n (λ xs. f (xs ++ (g n ∷ []))) g (λ i l. range i (omega arith)) (sym (ap f last) ∙ h)))
