-- Examples, each by computation: numbers, their texts, and texts that are a number or none. Assumes nothing.
use mathlib.Core.List.{[], ◌∷◌}
use mathlib.Core.Path.{◌≡◌, refl}
use lib.IntN.{pos, negsuc}
use Rattle.laws.specs.Words.{patched, written}
use Rattle.std.specs.Prelude.{None}
use Rattle.decimal.specs.Digits.{digits_up_to, digit_count, decimal, value_from, signed}
use Rattle.decimal.specs.Fields.{is_digit, digit_run, leading_zero, is_numeral, number, field_of}

count_4000000000 : digit_count 4000000000 ≡ 10
unfolding digits_up_to decimal
count_4000000000 = refl

-- 0, 305 and -5
text_0 : decimal 0 ≡ 48 ∷ []
unfolding digits_up_to decimal
text_0 = refl

text_305 : signed (pos 305) ≡ 51 ∷ 48 ∷ 53 ∷ []
unfolding digits_up_to decimal signed
text_305 = refl

text_minus_5 : signed (negsuc 4) ≡ 45 ∷ 53 ∷ []
unfolding digits_up_to decimal signed
text_minus_5 = refl

-- 305 in four bytes, and in two
room_for_305 : written (decimal 305) (7 ∷ 7 ∷ 7 ∷ 7 ∷ []) ≡ 51 ∷ 48 ∷ 53 ∷ 7 ∷ []
unfolding digits_up_to decimal patched written
room_for_305 = refl

no_room_for_305 : written (decimal 305) (7 ∷ 7 ∷ []) ≡ 7 ∷ 7 ∷ []
unfolding digits_up_to decimal written
no_room_for_305 = refl

-- "0,1", "12", "012", "00", ",1" and the empty text
field_0 : field_of (48 ∷ 44 ∷ 49 ∷ []) ≡ number 0 1
unfolding is_digit digit_run leading_zero is_numeral value_from field_of
field_0 = refl

field_12 : field_of (49 ∷ 50 ∷ []) ≡ number 12 2
unfolding is_digit digit_run leading_zero is_numeral value_from field_of
field_12 = refl

field_012 : field_of (48 ∷ 49 ∷ 50 ∷ []) ≡ None
unfolding is_digit digit_run leading_zero is_numeral value_from field_of
field_012 = refl

field_00 : field_of (48 ∷ 48 ∷ []) ≡ None
unfolding is_digit digit_run leading_zero is_numeral value_from field_of
field_00 = refl

field_comma : field_of (44 ∷ 49 ∷ []) ≡ None
unfolding is_digit digit_run leading_zero is_numeral value_from field_of
field_comma = refl

field_empty : field_of [] ≡ None
unfolding is_digit digit_run leading_zero is_numeral value_from field_of
field_empty = refl

-- ten digits, and eleven
field_10_digits : field_of (57 ∷ 57 ∷ 57 ∷ 57 ∷ 57 ∷ 57 ∷ 57 ∷ 57 ∷ 57 ∷ 57 ∷ []) ≡ number 9999999999 10
unfolding is_digit digit_run leading_zero is_numeral value_from field_of
field_10_digits = refl

field_11_digits : field_of (57 ∷ 57 ∷ 57 ∷ 57 ∷ 57 ∷ 57 ∷ 57 ∷ 57 ∷ 57 ∷ 57 ∷ 57 ∷ []) ≡ None
unfolding is_digit digit_run leading_zero is_numeral value_from field_of
field_11_digits = refl
