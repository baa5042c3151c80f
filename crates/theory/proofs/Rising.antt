-- Maps that rise, and sums over what they reach. Assumes nothing.
use Prim.Native.Nat.{ℕ, zero, suc, ◌+◌, ◌-◌, ◌≤◌, ◌<◌}
use mathlib.Core.Path.{◌≡◌, ap, subst}
use mathlib.Core.Logic.{◌≢◌}
use native.Mathlib.Omega.{arith}
use native.Mathlib.Nat.{add-zero, add-suc}
use Rattle.laws.specs.Words.{sum_below}
use Rattle.laws.proofs.Tests.{by_order, by_equal, by_last}

module _ (f : ℕ → ℕ) (n : ℕ) (rises : (i : ℕ) → suc i < n → f i < f (suc i)) where
  rise_add : (i d : ℕ) → i + suc d < n → f i < f (i + suc d)
  rise_add i zero l = rw (add-suc i 0, add-zero i) (rises i (omega arith))
  rise_add i (suc d) l = rw (add-suc i (suc d)) (omega (arith, rise_add i d (omega arith), rises (i + suc d) (omega arith)))

  pub rise_lt : (i j : ℕ) → i < j → j < n → f i < f j
  rise_lt i j l m =
      let e : i + suc (j - suc i) ≡ j = omega arith in
      subst (λ (z : ℕ). f i < f z) e (rise_add i (j - suc i) (omega arith))

  pub rise_le : (i j : ℕ) → i ≤ j → j < n → f i ≤ f j
  rise_le i j l m = by_equal i j (λ e. rw e (omega arith)) (λ ne. omega (arith, rise_lt i j (omega arith) m))

  pub rise_back : (i j : ℕ) → i < n → f i < f j → i < j
  rise_back i j il l = by_order j i (λ ji. absurd (omega (arith, rise_le j i ji il))) (λ ij. ij)

-- a map that rises everywhere
module _ (f : ℕ → ℕ) (up : (x : ℕ) → f x < f (suc x)) where
  pub up_lt : (x y : ℕ) → x < y → f x < f y
  up_lt x y l = rise_lt f (suc y) (λ i il. up i) x y l (omega arith)

  pub up_le : (x y : ℕ) → x ≤ y → f x ≤ f y
  up_le x y l = rise_le f (suc y) (λ i il. up i) x y l (omega arith)

  pub up_back : (x y : ℕ) → f x ≤ f y → x ≤ y
  up_back x y l = by_order x y (λ le. le) (λ gt. absurd (omega (arith, up_lt y x gt)))

  pub up_same : (x y : ℕ) → f x ≡ f y → x ≡ y
  up_same x y e = omega (arith, up_back x y (omega arith), up_back y x (omega arith))

  up_below : (n m : ℕ) → f n < suc m → f n ≢ m → (x : ℕ) → x < suc n → f x < m
  up_below n m top ne x l = omega (arith, up_le x n (omega arith))

  -- the places reached add up to no more than all, and to as much where the others are 0
  pub sum_part : (g : ℕ → ℕ) (m n : ℕ) → ((x : ℕ) → x < n → f x < m) → sum_below n (λ x. g (f x)) ≤ sum_below m g
  unfolding sum_below
  sum_part g zero zero h = omega arith
  sum_part g zero (suc n) h = absurd (omega (arith, h n (omega arith)))
  sum_part g (suc m) zero h = omega arith
  sum_part g (suc m) (suc n) h =
      by_equal (f n) m
      (λ e. omega (arith, sum_part g m n (λ x l. omega (arith, up_lt x n l)), ap g e))
      (λ ne. omega (arith, sum_part g m (suc n) (up_below n m (h n (omega arith)) ne)))

  pub sum_whole : (g : ℕ → ℕ) (m n : ℕ) → ((x : ℕ) → x < n → f x < m) → ((y : ℕ) → y < m → ((x : ℕ) → x < n → f x ≢ y) → g y ≡ 0)
      → sum_below m g ≤ sum_below n (λ x. g (f x))
  unfolding sum_below
  sum_whole g zero n h z = omega arith
  sum_whole g (suc m) zero h z =
      omega (arith, sum_whole g m 0 (λ x l. absurd (omega arith)) (λ y l v. z y (omega arith) v), z m (omega arith) (λ x l. absurd (omega arith)))
  sum_whole g (suc m) (suc n) h z =
      by_equal (f n) m
      (λ e.
      omega (
        arith,
        sum_whole
            g
            m
            n
            (λ x l. omega (arith, up_lt x n l))
            (λ y l v. z y (omega arith) (λ x xl w. by_last x n xl (λ q. omega (arith, ap f q)) (λ b. v x b w))),
        ap g e,
      ))
      (λ ne.
      let low : (x : ℕ) → x < suc n → f x < m = up_below n m (h n (omega arith)) ne in
      omega (arith, sum_whole g m (suc n) low (λ y l v. z y (omega arith) v), z m (omega arith) (λ x xl w. omega (arith, low x xl))))
