-- The last digits of a number, as many as are asked for. Nothing here depends on a word's size. Assumes nothing.
use Prim.Native.Nat.{ℕ, zero, suc, ◌+◌, ◌/◌, ◌%◌}
use mathlib.Core.List.{List, [], ◌∷◌, ◌++◌, append_assoc}
use mathlib.Core.Path.{◌≡◌}

-- the last k digits of n, with zeros in front where n has fewer; the code of a digit is 48 plus its value
unfoldable pub last_digits : ℕ → ℕ → List ℕ
last_digits zero n = []
last_digits (suc k) n = last_digits k (n / 10) ++ ((48 + n % 10) ∷ [])

-- the last digit, in front of what follows the digits
pub last_more : (k n : ℕ) (s : List ℕ) → last_digits (suc k) n ++ s ≡ last_digits k (n / 10) ++ ((48 + n % 10) ∷ s)
unfolding last_digits
last_more k n s = append_assoc (last_digits k (n / 10)) ((48 + n % 10) ∷ []) s
