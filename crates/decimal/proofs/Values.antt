-- The digits of a number: how many at most, what they spell, and the first of them. Nothing here depends on a word's size.
-- Assumes nothing.
use Prim.Native.Nat.{ℕ, zero, suc, ◌+◌, ◌*◌, ◌^◌, ◌-◌, ◌/◌, ◌%◌, ◌≤◌, ◌<◌}
use mathlib.Core.Path.{◌≡◌, refl, ◌∙◌}
use mathlib.Core.Bool.{false, and-false}
use mathlib.Core.List.{List, [], ◌∷◌, ◌++◌}
use native.Mathlib.Omega.{arith}
use lib.IntN.{ℤ, pos, negsuc, nat_abs}
use lib.ListN.{length, get_or, get_or-append}
use lib.Dec.{ltb}
use borrow.Author.Tests.{ne_eqb}
use Rattle.decimal.specs.Digits.{decimal, signed, value_from}
use Rattle.decimal.specs.Fields.{leading_zero}
use Rattle.decimal.proofs.Digits.{decimal_one, decimal_more, by_digits}
use Rattle.decimal.proofs.Counts.{count_some, count_within}

-- a number below a power of ten, and an integer of such a size with its sign
pub decimal-within : (k n : ℕ) → n < 10 ^ suc k → length (decimal n) ≤ suc k
decimal-within k n h = count_within k n h

pub signed-within : (k : ℕ) (z : ℤ) → nat_abs z < 10 ^ suc k → length (signed z) ≤ suc k + 1
unfolding signed
signed-within k (pos n) h = omega (arith, decimal-within k n h)
signed-within k (negsuc n) h = omega (arith, decimal-within k (suc n) h)

pub decimal_some : (n : ℕ) → 0 < length (decimal n)
decimal_some n = count_some n

value_snoc : (s : List ℕ) (a d : ℕ) → value_from a (s ++ (d ∷ [])) ≡ value_from a s * 10 + (d - 48)
unfolding value_from
value_snoc [] a d = refl
value_snoc (x ∷ s) a d = value_snoc s (a * 10 + (x - 48)) d

-- the digits of a number spell it
pub value_decimal : (n : ℕ) → value_from 0 (decimal n) ≡ n
value_decimal =
    by_digits (λ n. value_from 0 (decimal n) ≡ n)
    (λ n h. rw (decimal_one n h) (value_one n))
    (λ n h p. rw (decimal_more n h) (value_snoc (decimal (n / 10)) 0 (48 + n % 10) ∙ omega arith))
  where
    value_one : (n : ℕ) → value_from 0 ((48 + n) ∷ []) ≡ n
    value_one n = unfold value_from in omega arith

-- the first digit of a number is no 0, except in 0 itself
pub first_decimal : (n : ℕ) → 0 < n → 48 < get_or (decimal n) 0 0
first_decimal =
    by_digits (λ n. 0 < n → 48 < get_or (decimal n) 0 0)
    (λ n h l. rw (decimal_one n h) (omega arith))
    (λ n h p l.
    rw (decimal_more n h, get_or-append (decimal (n / 10)) ((48 + n % 10) ∷ []) 0 0 (decimal_some (n / 10)))
    (p (omega arith)))

leading_other : (s : List ℕ) → 48 < get_or s 0 0 → leading_zero s ≡ false
unfolding leading_zero
leading_other s h = rw (ne_eqb (get_or s 0 0) 48 (λ e. omega arith)) (and-false (ltb 1 (length s)))

-- no number has a leading zero; the digits of 0 are a single 0
pub no_leading_zero : (n : ℕ) → leading_zero (decimal n) ≡ false
no_leading_zero zero = rw (decimal_one 0 (omega arith)) (unfold leading_zero in refl)
no_leading_zero (suc n) = leading_other (decimal (suc n)) (first_decimal (suc n) (omega arith))
