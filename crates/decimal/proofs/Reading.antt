-- Reading: the field at the start of a text, found digit by digit. Nothing here depends on a word's size.
-- Assumes nothing.
use Prim.Native.Nat.{ℕ, suc, ◌+◌, ◌-◌, ◌*◌, ◌^◌, ◌≤◌, ◌<◌}
use mathlib.Core.Bool.{Bool, true, false, cond, and-true, and-false, true≢false}
use mathlib.Core.List.{List, [], ◌∷◌}
use mathlib.Core.Path.{◌≡◌, refl, sym, ap, ◌∙◌}
use native.Mathlib.Omega.{arith}
use native.Mathlib.Nat.{add-zero, pow-succ'}
use native.Mathlib.Numerals.{add-one}
use lib.Dec.{leb, eqb}
use lib.ListN.{length, get_or, drop, drop_of_length-le}
use lib.Seq.{drop-cons}
use borrow.Author.Tests.{le-leb, lt-leb, lt-ltb, eq-eqb, ne_eqb, eqb-true, eqb-false}
use Rattle.laws.proofs.Tests.{by_test}
use Rattle.decimal.specs.declared.field.Field.{Field}
use Rattle.std.specs.Prelude.{Option, None}
use Rattle.decimal.specs.Digits.{value_from}
use Rattle.decimal.specs.Fields.{is_digit, digit_run, max_digits, leading_zero, is_numeral, number, field_of}
use Rattle.decimal.proofs.Counts.{ten_within}
use Rattle.decimal.proofs.Fields.{digit_least, digit_greatest}

-- no further digit may follow n digits of value v
abbrev pub ends : ℕ → ℕ → Bool
ends v n = cond (eqb n max_digits) true (cond (eqb n 0) false (eqb v 0))

-- the answer where no digit follows n digits of value v
abbrev pub ended : ℕ → ℕ → Option Field
ended v n = cond (eqb n 0) None (number v n)

-- the answer after n digits of value v, with a text still to be read
unfoldable pub field_from : ℕ → ℕ → List ℕ → Option Field
field_from v n [] = ended v n
field_from v n (b ∷ text) =
    let more = field_from (v * 10 + (b - 48)) (n + 1) text in
    cond (is_digit b) (cond (ends v n) None more) (ended v n)

-- the same by the run of digits still to be read
abbrev longer : ℕ → ℕ → List ℕ → Option Field
longer v n run = cond (leb (n + length run) max_digits) (number (value_from v run) (n + length run)) None

longer_none : (v n : ℕ) → 0 < n → n ≤ max_digits → ended v n ≡ longer v n []
unfolding value_from
longer_none v n p h = simp (ne_eqb n 0 (λ e. omega arith), add-zero, le-leb n max_digits h)

-- a further digit is too many
longer_full : (b v n : ℕ) (text : List ℕ) → is_digit b ≡ true → eqb n max_digits ≡ true → field_from v n (b ∷ text) ≡ longer v n (digit_run (b ∷ text))
unfolding field_from digit_run
longer_full b v n text d t =
    simp (d, t, lt-leb (n + suc (length (digit_run text))) max_digits (omega (arith, eqb-true n max_digits t)))

-- a further digit belongs to the number
longer_more : (b v n : ℕ) (text : List ℕ) → 0 < v → 0 < n → is_digit b ≡ true → eqb n max_digits ≡ false
    → field_from (v * 10 + (b - 48)) (n + 1) text ≡ longer (v * 10 + (b - 48)) (n + 1) (digit_run text) → field_from v n (b ∷ text) ≡ longer v n (digit_run (b ∷ text))
unfolding field_from digit_run value_from
longer_more b v n text pv pn d f r =
    let more = digit_run text in
    let e : n + 1 + length more ≡ n + suc (length more) = omega arith in
    simp (d, f, ne_eqb n 0 (λ z. omega arith), ne_eqb v 0 (λ z. omega arith))
    (r ∙ ap (λ (k : ℕ). cond (leb k max_digits) (number (value_from (v * 10 + (b - 48)) more) k) None) e)

from_longer : (text : List ℕ) (v n : ℕ) → 0 < v → 0 < n → n ≤ max_digits → field_from v n text ≡ longer v n (digit_run text)
unfolding field_from digit_run
from_longer [] v n pv pn h = longer_none v n pn h
from_longer (b ∷ text) v n pv pn h =
    by_test (is_digit b)
    (λ d.
    by_test (eqb n max_digits) (λ t. longer_full b v n text d t)
    (λ f.
    longer_more b v n text pv pn d f
    (from_longer text (v * 10 + (b - 48)) (n + 1) (omega arith) (omega arith) (omega (arith, eqb-false n max_digits f)))))
    (λ d. simp d (longer_none v n pn h))

-- a run of two digits or more is a numeral by its first digit and its length
numeral_zero : (b c : ℕ) (run : List ℕ) → eqb b 48 ≡ true → is_numeral (b ∷ c ∷ run) ≡ false
unfolding is_numeral leading_zero
numeral_zero b c run z = simp (z, lt-ltb 1 (length (b ∷ c ∷ run)) (omega arith), and-false)

numeral_longer : (b c : ℕ) (run : List ℕ) → eqb b 48 ≡ false → is_numeral (b ∷ c ∷ run) ≡ leb (length (b ∷ c ∷ run)) max_digits
unfolding is_numeral leading_zero
numeral_longer b c run z = rw (z, le-leb 1 (length (b ∷ c ∷ run)) (omega arith), lt-ltb 1 (length (b ∷ c ∷ run)) (omega arith)) (and-true (leb (length (b ∷ c ∷ run)) max_digits))

-- after the first digit: a second one after a 0, a second one after another, and none
second_zero : (b c : ℕ) (text : List ℕ) → is_digit b ≡ true → is_digit c ≡ true → eqb b 48 ≡ true → field_from (0 * 10 + (b - 48)) (0 + 1) (c ∷ text) ≡ field_of (b ∷ c ∷ text)
unfolding field_from field_of digit_run
second_zero b c text d e z =
    simp (d, e, numeral_zero b c (digit_run text) z, eq-eqb (0 + (b - 48)) 0 (omega (arith, eqb-true b 48 z)))

second_other : (b c : ℕ) (text : List ℕ) → is_digit b ≡ true → is_digit c ≡ true → eqb b 48 ≡ false → field_from (0 * 10 + (b - 48)) (0 + 1) (c ∷ text) ≡ field_of (b ∷ c ∷ text)
unfolding field_from field_of digit_run value_from
second_other b c text d e f =
    let v = 0 + (b - 48) in
    let p : 0 < v = omega (arith, eqb-false b 48 f, digit_least b d) in
    let w = v * 10 + (c - 48) in
    let q : 2 + length (digit_run text) ≡ suc (suc (length (digit_run text))) = omega arith in
    simp (d, e, numeral_longer b c (digit_run text) f, ne_eqb v 0 (λ z. omega arith))
    (from_longer text w 2 (omega arith) (omega arith) (omega arith) ∙
    ap (λ (k : ℕ). cond (leb k max_digits) (number (value_from w (digit_run text)) k) None) q)

one_digit : (b : ℕ) (text : List ℕ) → is_digit b ≡ true → field_from (0 * 10 + (b - 48)) (0 + 1) text ≡ field_of (b ∷ text)
unfolding field_from field_of digit_run value_from is_numeral leading_zero
one_digit b [] d = simp d
one_digit b (c ∷ text) d =
    by_test (is_digit c)
    (λ e. by_test (eqb b 48) (second_zero b c text d e) (second_other b c text d e))
    (λ e. simp (d, e))

first_digit : (b : ℕ) (text : List ℕ) → is_digit b ≡ true → field_from 0 0 (b ∷ text) ≡ field_from (0 * 10 + (b - 48)) (0 + 1) text
unfolding field_from
first_digit b text d = simp d

-- before the first digit
pub from_start : (text : List ℕ) → field_from 0 0 text ≡ field_of text
unfolding field_from field_of digit_run is_numeral leading_zero
from_start [] = refl
from_start (b ∷ text) = by_test (is_digit b) (λ d. first_digit b text d ∙ one_digit b text d) (λ d. simp d)

-- a further digit may follow only where there are fewer than the most
ends_few : (v n : ℕ) → ends v n ≡ false → n ≡ max_digits → ⊥
ends_few v n e q = true≢false (sym (rw (eq-eqb n max_digits q) refl) ∙ e)

-- the first n bytes of a text are digits of value v, and what follows them decides the field
pub record DigitsRead (text : List ℕ) (v n : ℕ) : Type 0 where
  pub few : n ≤ max_digits
  pub below : v < 10 ^ n
  pub follows : field_from v n (drop n text) ≡ field_of text

pub read_none : (text : List ℕ) → DigitsRead text 0 0
read_none text = record { few = omega arith; below = omega arith; follows = from_start text }

-- what the reader finds after n digits
module _ {text : List ℕ} {v n : ℕ} (r : DigitsRead text v n) where
  pub read_small : v < 10 ^ max_digits
  read_small = omega (arith, r.below, ten_within r.few)

  read_end : length text ≤ n → ended v n ≡ field_of text
  unfolding field_from
  read_end h = rw (drop_of_length-le text h) at r.follows

  pub read_all : n ≤ length text → length text ≤ n → ended v (length text) ≡ field_of text
  read_all g h = let e : length text ≡ n = omega arith in ap (ended v) e ∙ read_end h

  pub read_other : n < length text → is_digit (get_or text n 0) ≡ false → ended v n ≡ field_of text
  unfolding field_from
  read_other h d = rw (drop-cons text n 0 h, d) at r.follows

  pub read_last : n < length text → is_digit (get_or text n 0) ≡ true → ends v n ≡ true → None ≡ field_of text
  unfolding field_from
  read_last h d e = rw (drop-cons text n 0 h, d, e) at r.follows

  read_next : n < length text → is_digit (get_or text n 0) ≡ true → ends v n ≡ false → field_from (v * 10 + (get_or text n 0 - 48)) (n + 1) (drop (suc n) text) ≡ field_of text
  unfolding field_from
  read_next h d e = rw (drop-cons text n 0 h, d, e) at r.follows

  pub read_digit : n < length text → is_digit (get_or text n 0) ≡ true → ends v n ≡ false → DigitsRead text (v * 10 + (get_or text n 0 - 48)) (n + 1)
  read_digit h d e =
      let power : 10 ^ (n + 1) ≡ 10 * 10 ^ n = rw add-one (pow-succ' 10 n) in
      record {
        few = omega (arith, r.few, ends_few v n e);
        below = omega (arith, r.below, power, digit_least (get_or text n 0) d, digit_greatest (get_or text n 0) d);
        follows = ap (λ (k : ℕ). field_from (v * 10 + (get_or text n 0 - 48)) (n + 1) (drop k text)) (add-one n) ∙ read_next h d e;
      }
