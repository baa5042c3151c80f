-- The round trip: reading a number's digits gives the number back. Nothing here depends on a word's size.
-- Assumes nothing.
use Prim.Native.Nat.{ℕ, ◌+◌, ◌/◌, ◌%◌, ◌≤◌}
use mathlib.Core.Bool.{true}
use mathlib.Core.List.{List, [], ◌∷◌, ◌++◌, append_assoc, append-nil}
use mathlib.Core.Path.{◌≡◌, refl, ap, ◌∙◌}
use native.Mathlib.Omega.{arith}
use borrow.Author.Tests.{le-leb}
use Rattle.decimal.specs.Digits.{digit_count, decimal}
use Rattle.decimal.specs.Fields.{digit_run, max_digits, is_numeral, number, field_of}
use Rattle.decimal.proofs.Digits.{decimal_one, decimal_more, by_digits}
use Rattle.decimal.proofs.Counts.{count_some}
use Rattle.decimal.proofs.Values.{value_decimal, no_leading_zero}
use Rattle.decimal.proofs.Fields.{digit_in}

-- a number's digits are digits, whatever follows them
run_digits : (n : ℕ) (rest : List ℕ) → digit_run (decimal n ++ rest) ≡ decimal n ++ digit_run rest
run_digits =
    by_digits (λ n. (rest : List ℕ) → digit_run (decimal n ++ rest) ≡ decimal n ++ digit_run rest)
    (λ n h rest. rw (decimal_one n h) (run_digit (48 + n) rest (omega arith) (omega arith)))
    (λ n h p rest.
    rw (decimal_more n h, append_assoc (decimal (n / 10)) ((48 + n % 10) ∷ []) rest, append_assoc (decimal (n / 10)) ((48 + n % 10) ∷ []) (digit_run rest))
    (p ((48 + n % 10) ∷ rest) ∙ ap (λ (s : List ℕ). decimal (n / 10) ++ s) (run_digit (48 + n % 10) rest (omega arith) (omega arith))))
  where
    run_digit : (b : ℕ) (rest : List ℕ) → 48 ≤ b → b ≤ 57 → digit_run (b ∷ rest) ≡ b ∷ digit_run rest
    run_digit b rest h k = unfold digit_run in simp (digit_in b h k)

pub run-decimal : (n : ℕ) (rest : List ℕ) → digit_run rest ≡ [] → digit_run (decimal n ++ rest) ≡ decimal n
run-decimal n rest e = run_digits n rest ∙ rw e (append-nil (decimal n))

-- a number's digits are a numeral where they are few enough
pub numeral_decimal : (n : ℕ) → digit_count n ≤ max_digits → is_numeral (decimal n) ≡ true
unfolding is_numeral
numeral_decimal n h =
    rw (le-leb 1 (digit_count n) (count_some n), le-leb (digit_count n) max_digits h, no_leading_zero n) refl

pub round_trip : (n : ℕ) (rest : List ℕ) → digit_count n ≤ max_digits → digit_run rest ≡ [] → field_of (decimal n ++ rest) ≡ number n (digit_count n)
unfolding field_of
round_trip n rest h e =
    rw (run-decimal n rest e, numeral_decimal n h, value_decimal n) refl
