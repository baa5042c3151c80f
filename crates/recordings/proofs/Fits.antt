-- The lengths of the lines, and that 64 bytes are enough for the text: the longest lines of the two recordings take 15 and 16 bytes, that of a
-- difference at a tick of 20 digits 33. Assumes nothing.
use Prim.Native.Nat.{ℕ, ◌+◌, ◌^◌, ◌≤◌, ◌<◌}
use mathlib.Core.Bool.{Bool, true, false}
use mathlib.Core.List.{List, ◌++◌}
use mathlib.Core.Path.{◌≡◌, refl}
use native.Mathlib.Omega.{arith}
use lib.ListN.{length, length-append}
use Rattle.laws.specs.Words.{ascii}
use Rattle.decimal.specs.Digits.{decimal}
use Rattle.texts.proofs.WordDigits.{word_digits}
use Rattle.std.specs.Prelude.{Option, None, Some, IfSome}
use Rattle.recordings.specs.Texts.{legal_line, difference_line, compared_text, ComparedFits}

legal-within : (name : List ℕ) (legal : Bool) → length (legal_line name legal) ≤ length name + 10
legal-within name true = omega (arith, length-append name (ascii ",legal\r\n"))
legal-within name false = omega (arith, length-append name (ascii ",illegal\r\n"))

-- the length of the line that has a tick
pub tick_length : (difference : Option ℕ) (tick : ℕ) → difference ≡ Some tick → length (difference_line difference) ≡ length (decimal tick) + 13
tick_length difference tick e =
    rw e (omega (arith, length-append (ascii "difference," ++ decimal tick) (ascii "\r\n"), length-append (ascii "difference,") (decimal tick)))

difference_within : (difference : Option ℕ) → IfSome difference (λ tick. tick < 2 ^ 64) → length (difference_line difference) ≤ 33
difference_within (Some tick) h = omega (arith, tick_length (Some tick) tick refl, word_digits tick h)
difference_within None h = omega arith

pub compared_fits : ComparedFits
unfolding compared_text
compared_fits compared h =
    let first = legal_line (ascii "first") compared.first in
    let second = legal_line (ascii "second") compared.second in
    let difference = difference_line compared.difference in
    omega (
      arith,
      length-append (first ++ second) difference,
      length-append first second,
      legal-within (ascii "first") compared.first,
      legal-within (ascii "second") compared.second,
      difference_within compared.difference h,
    )
