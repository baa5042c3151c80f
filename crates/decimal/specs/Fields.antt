-- A field of a table: a decimal number at the start of a text. Document 01, "A job table". Assumes nothing.
use Rattle.std.specs.Prelude.{Option, None, Some, ℕ, Bool, cond, not, ◌&&◌, List, [], ◌∷◌, leb, ltb, eqb, length, get_or}
use Rattle.decimal.specs.{Digits.value_from, declared.field.Field.Field}

-- Whether a byte is the code of a digit, 48 for 0 to 57 for 9.
unfoldable pub is_digit : ℕ → Bool
is_digit b = leb 48 b && leb b 57

-- The digits that a text starts with, up to the first byte that is no digit.
unfoldable pub digit_run : List ℕ → List ℕ
digit_run [] = []
digit_run (b ∷ text) = let run = digit_run text in cond (is_digit b) (b ∷ run) []

-- The most digits of a field's number.
abbrev pub max_digits : ℕ
max_digits = 10

-- Whether digits are a 0 with another digit after it.
unfoldable pub leading_zero : List ℕ → Bool
leading_zero digits = ltb 1 (length digits) && eqb (get_or digits 0 0) 48

-- Whether these are 1 to max_digits digits, with no leading zero except in 0 itself.
unfoldable pub is_numeral : List ℕ → Bool
is_numeral digits = leb 1 (length digits) && leb (length digits) max_digits && not (leading_zero digits)

-- A number that takes so many bytes.
abbrev pub number : ℕ → ℕ → Option Field
number value n = Some (record { value = value; length = n })

-- The number that the whole run of digits at the start of a text spells and how many bytes it takes, or no number.
unfoldable pub field_of : List ℕ → Option Field
field_of text = let run = digit_run text in cond (is_numeral run) (number (value_from 0 run) (length run)) None
