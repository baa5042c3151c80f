-- The digits of a number: below ten one, else the last after the others; and induction by them. Nothing here depends on a word's size.
-- Assumes nothing.
use Prim.Native.Nat.{ℕ, zero, suc, ◌+◌, ◌/◌, ◌%◌, ◌≤◌, ◌<◌}
use mathlib.Core.Path.{◌≡◌, ap, ◌∙◌}
use mathlib.Core.List.{List, [], ◌∷◌, ◌++◌}
use native.Mathlib.Omega.{arith}
use native.Mathlib.Numerals.{add-one}
use lib.Dec.{ltb}
use lib.ListN.{length, length-append}
use borrow.Author.Tests.{lt-ltb, le-ltb, ltb-true, ltb-false}
use Rattle.laws.proofs.Tests.{by_test}
use Rattle.laws.proofs.Digits.{last_digits}
use Rattle.decimal.specs.Digits.{digits_up_to, decimal, digit_count}

-- the limit of the recursion does not matter where it is large enough
digits_same : (f g n : ℕ) → n < f → n < g → digits_up_to f n ≡ digits_up_to g n
unfolding digits_up_to
digits_same zero g n h k = absurd (omega arith)
digits_same (suc f) zero n h k = absurd (omega arith)
digits_same (suc f) (suc g) n h k =
    by_test (ltb n 10)
    (λ t. simp t)
    (λ t.
    let l = ltb-false n 10 t in
    simp t (ap (λ (s : List ℕ). s ++ ((48 + n % 10) ∷ [])) (digits_same f g (n / 10) (omega arith) (omega arith))))

pub decimal_one : (n : ℕ) → n < 10 → decimal n ≡ (48 + n) ∷ []
unfolding decimal digits_up_to
decimal_one n h = rw (add-one, lt-ltb n 10 h) (ap (λ (d : ℕ). (48 + d) ∷ []) (omega arith))

pub decimal_more : (n : ℕ) → 10 ≤ n → decimal n ≡ decimal (n / 10) ++ ((48 + n % 10) ∷ [])
unfolding decimal digits_up_to
decimal_more n h =
    rw (add-one, le-ltb n 10 h)
    (ap (λ (s : List ℕ). s ++ ((48 + n % 10) ∷ [])) (digits_same n (n / 10 + 1) (n / 10) (omega arith) (omega arith)))

-- and so one digit, or one more than without the last
pub count_one : (n : ℕ) → n < 10 → digit_count n ≡ 1
count_one n h = ap length (decimal_one n h)

pub count_more : (n : ℕ) → 10 ≤ n → digit_count n ≡ digit_count (n / 10) + 1
count_more n h = ap length (decimal_more n h) ∙ length-append (decimal (n / 10)) ((48 + n % 10) ∷ [])

-- induction on a number by its digits: below ten, and from a number without its last digit
pub by_digits : (P : ℕ → Type 0) → ((n : ℕ) → n < 10 → P n) → ((n : ℕ) → 10 ≤ n → P (n / 10) → P n) → (n : ℕ) → P n
by_digits P one more n = below (suc n) n (omega arith)
  where
    below : (f m : ℕ) → m < f → P m
    below zero m h = absurd (omega arith)
    below (suc f) m h =
        by_test (ltb m 10)
        (λ t. one m (ltb-true m 10 t))
        (λ t. let l = ltb-false m 10 t in more m l (below f (m / 10) (omega arith)))

-- the digits of a number are its last ones, as many as it has
pub decimal-last : (n : ℕ) → decimal n ≡ last_digits (digit_count n) n
decimal-last =
    by_digits (λ n. decimal n ≡ last_digits (digit_count n) n)
    (λ n h. rw (count_one n h) (decimal_one n h ∙ last_one n h))
    (λ n h p. rw (count_more n h, add-one) (decimal_more n h ∙ last_step n p))
  where
    last_one : (n : ℕ) → n < 10 → (48 + n) ∷ [] ≡ last_digits 1 n
    last_one n h = unfold last_digits in ap (λ (d : ℕ). (48 + d) ∷ []) (omega arith)

    last_step : (n : ℕ) → decimal (n / 10) ≡ last_digits (digit_count (n / 10)) (n / 10) → decimal (n / 10) ++ ((48 + n % 10) ∷ []) ≡ last_digits (suc (digit_count (n / 10))) n
    last_step n p = unfold last_digits in ap (λ (s : List ℕ). s ++ ((48 + n % 10) ∷ [])) p
