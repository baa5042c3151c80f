-- Putting a number's digits into a buffer: one digit before the others, from the last to the first, and all of them by their count.
-- Nothing here depends on a word's size. Assumes nothing.
use Prim.Native.Nat.{ℕ, zero, suc, ◌+◌, ◌-◌, ◌/◌, ◌%◌, ◌≤◌, ◌<◌}
use mathlib.Core.Path.{◌≡◌, refl, sym, ap, ◌∙◌}
use mathlib.Core.List.{List, ◌∷◌, ◌++◌}
use native.Mathlib.Omega.{arith}
use lib.ListN.{length, drop, set, length-set}
use lib.Seq.{drop-cons, drop-set-lt, get_or-set_same}
use Rattle.laws.proofs.Digits.{last_digits, last_more}
use Rattle.decimal.specs.Digits.{decimal, digit_count}
use Rattle.decimal.proofs.Digits.{decimal-last}
use Rattle.decimal.proofs.Writing.{Writes, writes_fits, writes_short}

set_front : (l : List ℕ) (i d : ℕ) → i < length l → drop i (set l i d) ≡ d ∷ drop (suc i) l
set_front l i d h =
    drop-cons (set l i d) i 0 (rw length-set h) ∙
    rw (get_or-set_same l i d 0 h, drop-set-lt (suc i) l i d (omega arith))

-- the digit before the digits that stand
put_digit : (l : List ℕ) (i n : ℕ) → 0 < i → i ≤ length l → last_digits (i - 1) (n / 10) ++ drop (i - 1) (set l (i - 1) (48 + n % 10)) ≡ last_digits i n ++ drop i l
put_digit l zero n h k = absurd (omega arith)
put_digit l (suc i) n h k =
    let e : suc i - 1 ≡ i = omega arith in
    rw (e, set_front l i (48 + n % 10) k) (sym (last_more i n (drop (suc i) l)))

-- what is done when `place` digits, those of `left`, are still to be put before the others
pub record DigitsPut (value count : ℕ) (before : List ℕ) (place left : ℕ) (rest : List ℕ) : Type 0 where
  pub within : place ≤ count
  pub smaller : left ≤ value
  pub same_length : length rest ≡ length before
  pub complete : last_digits place left ++ drop place rest ≡ last_digits count value ++ drop count before

pub put_none : (value count : ℕ) (before : List ℕ) → DigitsPut value count before count value before
put_none value count before = record { within = omega arith; smaller = omega arith; same_length = refl; complete = refl }

module _ {value count place left : ℕ} {before rest : List ℕ} (p : DigitsPut value count before place left rest) where
  pub put_next : count ≤ length before → 0 < place → DigitsPut value count before (place - 1) (left / 10) (set rest (place - 1) (48 + left % 10))
  put_next room h =
      record {
        within = omega (arith, p.within);
        smaller = omega (arith, p.smaller);
        same_length = length-set rest (place - 1) (48 + left % 10) ∙ p.same_length;
        complete = put_digit rest place left h (omega (arith, p.within, p.same_length)) ∙ p.complete;
      }

  pub put_all : place ≤ 0 → rest ≡ last_digits count value ++ drop count before
  unfolding last_digits
  put_all h = let z : place ≡ 0 = omega arith in rw z at p.complete

-- what the writer of digits does, by its count
module _ (value : ℕ) (b : List ℕ) {count : ℕ} (counted : count ≡ digit_count value) where
  pub digits_short : length b < count → Writes (decimal value) b 0 b
  digits_short h = writes_short (decimal value) b (omega (arith, counted))

  pub digits_fit : {after : List ℕ} → count ≤ length b → after ≡ last_digits count value ++ drop count b → Writes (decimal value) b count after
  digits_fit h e =
      writes_fits (decimal value) b (omega (arith, counted)) counted
      (e ∙ ap (λ (k : ℕ). last_digits k value ++ drop k b) counted ∙ ap (λ (s : List ℕ). s ++ drop (digit_count value) b) (sym (decimal-last value)))
