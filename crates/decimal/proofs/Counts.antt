-- How many digits a number has: the fewest that hold it. Nothing here depends on a word's size.
-- Assumes nothing.
use Prim.Native.Nat.{ℕ, zero, suc, ◌*◌, ◌^◌, ◌-◌, ◌/◌, ◌≤◌, ◌<◌}
use mathlib.Core.Path.{◌≡◌}
use native.Mathlib.Omega.{arith}
use native.Mathlib.Numerals.{add-one}
use native.Mathlib.Nat.{pow-suc, pow-le-pow_right}
use lib.Dec.{ltb, leb}
use borrow.Author.Tests.{ltb-true, ltb-false, leb-true, leb-false}
use Rattle.laws.proofs.Tests.{by_test}
use Rattle.decimal.specs.Digits.{digit_count}
use Rattle.decimal.proofs.Digits.{by_digits, count_one, count_more}

pub count_some : (n : ℕ) → 0 < digit_count n
count_some =
    by_digits (λ n. 0 < digit_count n)
    (λ n h. omega (arith, count_one n h))
    (λ n h p. omega (arith, count_more n h))

-- a number is below ten to the power of its count
pub count_holds : (n : ℕ) → n < 10 ^ digit_count n
count_holds =
    by_digits (λ n. n < 10 ^ digit_count n)
    (λ n h. rw (count_one n h) h)
    (λ n h p. rw (count_more n h, add-one, pow-suc) (omega arith))

-- a number below a power of ten has at most that many digits
pub count_within : (k n : ℕ) → n < 10 ^ suc k → digit_count n ≤ suc k
count_within zero n h = omega (arith, count_one n (omega arith))
count_within (suc k) n h =
    by_test (ltb n 10)
    (λ t. omega (arith, count_one n (ltb-true n 10 t)))
    (λ t.
    let l : n < 10 ^ suc k * 10 = rw pow-suc at h in
    omega (arith, count_more n (ltb-false n 10 t), count_within k (n / 10) (omega arith)))

pub ten_within : {n m : ℕ} → n ≤ m → 10 ^ n ≤ 10 ^ m
ten_within h = pow-le-pow_right (omega arith) h

-- a number from a power of ten on has more digits than that
pub count_beyond : (k n : ℕ) → 10 ^ k ≤ n → k < digit_count n
count_beyond k n h =
    by_test (leb (digit_count n) k)
    (λ t.
    let p : 10 ^ digit_count n ≤ 10 ^ k = ten_within (leb-true (digit_count n) k t) in
    absurd (omega (arith, count_holds n)))
    (λ t. leb-false (digit_count n) k t)

-- a number from a power of ten on, below the next, has one digit more than the power says
pub count_between : (k : ℕ) {n : ℕ} → 10 ^ k ≤ n → n < 10 ^ suc k → suc k ≡ digit_count n
count_between k {n} low high = omega (arith, count_beyond k n low, count_within k n high)

-- no fewer digits hold a number
pub count_fewest : (n : ℕ) → 10 ≤ n → 10 ^ (digit_count n - 1) ≤ n
count_fewest =
    by_digits (λ n. 10 ≤ n → 10 ^ (digit_count n - 1) ≤ n)
    (λ n h l. absurd (omega arith))
    (λ n h p l. fewest_step n l p)
  where
    fewest_step : (n : ℕ) → 10 ≤ n → (10 ≤ n / 10 → 10 ^ (digit_count (n / 10) - 1) ≤ n / 10) → 10 ^ (digit_count n - 1) ≤ n
    fewest_step n l p =
        let k = digit_count (n / 10) in
        let e : digit_count n - 1 ≡ k = omega (arith, count_more n l) in
        rw e
        (by_test (ltb (n / 10) 10)
        (λ t. rw (count_one (n / 10) (ltb-true (n / 10) 10 t)) l)
        (λ t.
        let g : k ≡ suc (k - 1) = omega (arith, count_some (n / 10)) in
        rw (g, pow-suc) (omega (arith, p (ltb-false (n / 10) 10 t)))))
