-- The first place at which a test holds: none so far, one place more, found, no further than the last, no later than any. Nothing here depends on
-- what the test is. Assumes nothing.
use Prim.Native.Nat.{ℕ, zero, suc, ◌+◌, ◌≤◌, ◌<◌}
use mathlib.Core.Bool.{Bool, true, false}
use mathlib.Core.Path.{◌≡◌, refl}
use native.Mathlib.Numerals.{add-one}
use native.Mathlib.Omega.{arith}
use lib.Dec.{ltb}
use borrow.Author.Tests.{ltb-true, lt-ltb, le-ltb}
use Rattle.laws.specs.Words.{first_below}
use Rattle.laws.proofs.Tests.{by_test, by_last, by_order, by_equal, both_ways}

module _ (f : ℕ → Bool) where
  pub first_none : (n : ℕ) → ((i : ℕ) → i < n → f i ≡ false) → first_below n f ≡ n
  unfolding first_below
  first_none zero h = refl
  first_none (suc n) h = rw (first_none n (λ i l. h i (omega arith)), le-ltb n n (omega arith), h n (omega arith))

  pub first_next : (n : ℕ) → first_below n f ≡ n → f n ≡ false → first_below (n + 1) f ≡ n + 1
  unfolding first_below
  first_next n e fails = rw add-one (rw (e, le-ltb n n (omega arith), fails) refl)

  pub first_found : (m n : ℕ) → first_below n f ≡ n → f n ≡ true → n < m → first_below m f ≡ n
  unfolding first_below
  first_found zero n e holds l = absurd (omega arith)
  first_found (suc m) n e holds l =
      by_last n m l
      (λ last. rw (← last) (rw (e, le-ltb n n (omega arith), holds) refl))
      (λ before. rw (first_found m n e holds before, lt-ltb n m before) refl)

  pub first_within : (n : ℕ) → first_below n f ≤ n
  unfolding first_below
  first_within zero = omega arith
  first_within (suc n) =
      by_test (ltb (first_below n f) n)
      (λ t. rw t (omega (arith, ltb-true (first_below n f) n t)))
      (λ t. rw t (by_test (f n) (λ q. rw q (omega arith)) (λ q. rw q (omega arith))))

  first_stays : (n : ℕ) → first_below n f < n → first_below (suc n) f ≡ first_below n f
  unfolding first_below
  first_stays n l = rw (lt-ltb (first_below n f) n l)

  first_here : (n : ℕ) → n ≤ first_below n f → f n ≡ true → first_below (suc n) f ≡ n
  unfolding first_below
  first_here n l e = rw (le-ltb (first_below n f) n l, e)

  first_not_here : (n : ℕ) → n ≤ first_below n f → f n ≡ false → first_below (suc n) f ≡ suc n
  unfolding first_below
  first_not_here n l e = rw (le-ltb (first_below n f) n l, e)

  pub first_before : (n i : ℕ) → i < first_below n f → f i ≡ false
  first_before zero i l = absurd (omega (arith, first_within 0))
  first_before (suc n) i l =
      by_order n (first_below n f)
      (λ all.
      by_test (f n)
      (λ e. first_before n i (omega (arith, first_here n all e)))
      (λ e. by_equal i n (λ q. rw q e) (λ ne. first_before n i (omega (arith, first_not_here n all e)))))
      (λ found. first_before n i (omega (arith, first_stays n found)))

  pub first_holds : (n : ℕ) → first_below n f < n → f (first_below n f) ≡ true
  first_holds zero l = absurd (omega arith)
  first_holds (suc n) l =
      by_order n (first_below n f)
      (λ all.
      by_test (f n)
      (λ e. rw (first_here n all e) e)
      (λ e. absurd (omega (arith, first_not_here n all e))))
      (λ found. rw (first_stays n found) (first_holds n found))

  -- a place at which the test holds is no earlier
  pub first_least : (n i : ℕ) → f i ≡ true → first_below n f ≤ i
  first_least n i e = by_order (first_below n f) i (λ l. l) (λ l. absurd (both_ways e (first_before n i l)))

  pub first_is : (n i : ℕ) → i < n → f i ≡ true → ((u : ℕ) → u < i → f u ≡ false) → first_below n f ≡ i
  first_is n i l e none = first_found n i (first_none i none) e l

pub first_ext : (f g : ℕ → Bool) (n : ℕ) → ((u : ℕ) → u < n → f u ≡ g u) → first_below n f ≡ first_below n g
unfolding first_below
first_ext f g zero h = refl
first_ext f g (suc n) h = rw (first_ext f g n (λ u l. h u (omega arith)), h n (omega arith))
