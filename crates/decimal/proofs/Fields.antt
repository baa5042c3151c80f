-- Fields: what a digit's code is, where a run of digits ends, and how many bytes a number takes. Nothing here depends on a word's size.
-- Assumes nothing.
use Prim.Native.Nat.{ℕ, ◌≤◌, ◌<◌}
use mathlib.Core.Bool.{Bool, true, false, ◌&&◌, not}
use mathlib.Core.List.{List, [], ◌∷◌, ◌++◌}
use mathlib.Core.Path.{◌≡◌, sym, ap, ◌∙◌}
use native.Mathlib.Omega.{arith}
use lib.Dec.{leb}
use lib.ListN.{length}
use borrow.Author.Tests.{le-leb, lt-leb, leb-true}
use Rattle.laws.proofs.Tests.{by_test, and_left, and_right}
use Rattle.std.specs.Prelude.{Some}
use Rattle.std.specs.Char.{is_ascii_digit}
use Rattle.decimal.specs.declared.field.Field.{Field}
use Rattle.decimal.specs.Fields.{is_digit, digit_run, max_digits, leading_zero, is_numeral, field_of}

-- the code of a digit is from 48 to 57
pub digit_low : (b : ℕ) → b < 48 → is_digit b ≡ false
unfolding is_digit
digit_low b h = simp (lt-leb 48 b h)

pub digit_from : (b : ℕ) → 48 ≤ b → is_digit b ≡ leb b 57
unfolding is_digit
digit_from b h = simp (le-leb 48 b h)

pub digit_in : (b : ℕ) → 48 ≤ b → b ≤ 57 → is_digit b ≡ true
digit_in b g h = digit_from b g ∙ le-leb b 57 h

pub digit_least : (b : ℕ) → is_digit b ≡ true → 48 ≤ b
unfolding is_digit
digit_least b e = leb-true 48 b (and_left (leb 48 b) (leb b 57) e)

pub digit_greatest : (b : ℕ) → is_digit b ≡ true → b ≤ 57
unfolding is_digit
digit_greatest b e = leb-true b 57 (and_right (leb 48 b) (leb b 57) e)

-- what the library's test answers
pub digit_by : (b : ℕ) {r answer : Bool} → r ≡ is_ascii_digit b → r ≡ answer → is_digit b ≡ answer
unfolding is_digit
digit_by b e f = sym e ∙ f

-- the run ends where what follows a text begins with no digit
pub run-append : (text rest : List ℕ) → digit_run rest ≡ [] → digit_run (text ++ rest) ≡ digit_run text
unfolding digit_run
run-append [] rest e = e
run-append (b ∷ text) rest e =
    by_test (is_digit b) (λ d. simp d (ap (λ (run : List ℕ). b ∷ run) (run-append text rest e))) (λ d. simp d)

pub field_append : (text rest : List ℕ) → digit_run rest ≡ [] → field_of (text ++ rest) ≡ field_of text
unfolding field_of
field_append text rest e = rw (run-append text rest e)

pub run-within : (text : List ℕ) → length (digit_run text) ≤ length text
unfolding digit_run
run-within [] = omega arith
run-within (b ∷ text) = by_test (is_digit b) (λ d. simp d (omega (arith, run-within text))) (λ d. simp d (omega arith))

-- a number is the run of digits, which is a numeral
field_run : (text : List ℕ) (f : Field) → field_of text ≡ Some f → (is_numeral (digit_run text) ≡ true) × (length (digit_run text) ≡ f.length)
unfolding field_of
field_run text f e =
    by_test (is_numeral (digit_run text))
    (λ t. (t, cc (simp t at e)))
    (λ t. let z : ◌≡◌ {A = ℕ} 0 1 = cc (simp t at e) in absurd (omega arith))

-- a number takes at least one byte, and no more than there are
pub field_within : (text : List ℕ) (f : Field) → field_of text ≡ Some f → f.length ≤ length text
field_within text f e = omega (arith, run-within text, (field_run text f e).1)

pub field_some : (text : List ℕ) (f : Field) → field_of text ≡ Some f → 0 < f.length
unfolding is_numeral
field_some text f e =
    let run = digit_run text in
    let long = leb 1 (length run) in
    let short = leb (length run) max_digits in
    let r = field_run text f e in
    omega (arith, r.1, leb-true 1 (length run) (and_left long short (and_left (long && short) (not (leading_zero run)) r.0)))

-- and no more than the most digits
pub field_few : (text : List ℕ) (f : Field) → field_of text ≡ Some f → f.length ≤ max_digits
unfolding is_numeral
field_few text f e =
    let run = digit_run text in
    let long = leb 1 (length run) in
    let short = leb (length run) max_digits in
    let r = field_run text f e in
    omega (arith, r.1, leb-true (length run) max_digits (and_right long short (and_left (long && short) (not (leading_zero run)) r.0)))
