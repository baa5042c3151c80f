-- Decimal digits of numbers of any size, as ASCII codes; Claims.antt has what is proved of them. Assumes nothing.
use Rattle.std.specs.Prelude.{ℕ, zero, suc, ◌+◌, ◌-◌, ◌*◌, ◌/◌, ◌%◌, cond, List, [], ◌∷◌, ◌++◌, ltb, length, ℤ, pos, negsuc}

-- The digits of n, for any f above n: those of n / 10, where n is not below ten, and the last, coded as 48 plus it; f only ends the recursion.
unfoldable pub digits_up_to : ℕ → ℕ → List ℕ
digits_up_to zero n = []
digits_up_to (suc f) n = let others = digits_up_to f (n / 10) in cond (ltb n 10) [] others ++ ((48 + n % 10) ∷ [])

-- The digits of n, the most significant first.
unfoldable pub decimal : ℕ → List ℕ
decimal n = digits_up_to (n + 1) n

-- How many digits n has.
abbrev pub digit_count : ℕ → ℕ
digit_count n = length (decimal n)

-- The number that digits spell after the number a, which is 0 for the digits alone.
unfoldable pub value_from : ℕ → List ℕ → ℕ
value_from a [] = a
value_from a (digit ∷ text) = value_from (a * 10 + (digit - 48)) text

-- The digits of an integer, after a minus sign, code 45, where it is below zero; `negsuc n` is the one of size n + 1.
unfoldable pub signed : ℤ → List ℕ
signed (pos n) = decimal n
signed (negsuc n) = 45 ∷ decimal (suc n)
