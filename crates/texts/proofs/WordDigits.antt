-- The digits of a word: at most 20 of them, so that an array of 20 bytes holds them all. Assumes nothing.
use Prim.Native.Nat.{ℕ, ◌^◌, ◌≤◌, ◌<◌}
use mathlib.Core.List.{List}
use mathlib.Core.Path.{◌≡◌, sym, ap, ◌∙◌}
use native.Mathlib.Omega.{arith}
use lib.ListN.{length, take, drop}
use lib.Seq.{take_at}
use Rattle.decimal.specs.Digits.{digit_count, decimal}
use Rattle.decimal.proofs.Counts.{count_within}
use Rattle.decimal.proofs.Writing.{Writes, length_fits, written_fits}

pub word_digits : (value : ℕ) → value < 2 ^ 64 → digit_count value ≤ 20
word_digits value h = count_within 19 value (omega arith)

-- an array that the digits were written into: how many there are, and its first places
module _ (value : ℕ) (array : List ℕ) (word : value < 2 ^ 64) (places : length array ≡ 20) {count : ℕ} {after : List ℕ} (w : Writes (decimal value) array count after) where
  fits : length (decimal value) ≤ length array
  fits = omega (arith, word_digits value word)

  pub digits_count : count ≡ length (decimal value)
  digits_count = w.0 ∙ length_fits (decimal value) array fits

  pub digits_first : take count after ≡ decimal value
  digits_first =
      ap (take count) (w.1 ∙ written_fits (decimal value) array fits)
      ∙ take_at (decimal value) (drop (length (decimal value)) array) count (sym digits_count)
