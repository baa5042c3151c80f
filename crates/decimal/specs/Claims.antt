-- What is proved of decimal digits, for numbers of any size; proofs/Claims.antt has the proof of all. Assumes nothing.
use Rattle.std.specs.Prelude.{ℕ, suc, ◌-◌, ◌^◌, ◌≤◌, ◌<◌, ◌≡◌, false, List, [], ◌++◌}
use Rattle.decimal.specs.{Digits.digit_count, Digits.decimal, Digits.value_from, Fields.max_digits, Fields.digit_run, Fields.leading_zero, Fields.number, Fields.field_of}

-- One field for each theorem on digits, counts and reading back.
pub record Claims : Type 0 where
  -- The digits of a number spell it.
  pub value_decimal : (n : ℕ) → value_from 0 (decimal n) ≡ n
  -- A number is below ten to the power of its count.
  pub count_holds : (n : ℕ) → n < 10 ^ digit_count n
  -- No fewer digits hold it.
  pub count_fewest : (n : ℕ) → 10 ≤ n → 10 ^ (digit_count n - 1) ≤ n
  -- A number below a power of ten has at most that many digits.
  pub count_within : (k n : ℕ) → n < 10 ^ suc k → digit_count n ≤ suc k
  -- No number has a leading zero; the digits of 0 are a single 0.
  pub no_leading_zero : (n : ℕ) → leading_zero (decimal n) ≡ false
  -- Reading a number's digits, with no digit after them, gives the number and its length back.
  pub round_trip : (n : ℕ) (rest : List ℕ) → digit_count n ≤ max_digits → digit_run rest ≡ [] → field_of (decimal n ++ rest) ≡ number n (digit_count n)
