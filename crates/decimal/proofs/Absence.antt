-- A byte that a text lacks: in texts one after another, and in the digits of a number. Assumes nothing.
--   lacks   whether no byte of a text has this code
use Prim.Native.Nat.{ℕ, ◌+◌, ◌/◌, ◌%◌, ◌<◌}
use mathlib.Core.Path.{◌≡◌, refl}
use mathlib.Core.Bool.{Bool, true, false, not, ◌&&◌}
use mathlib.Core.Logic.{◌≢◌}
use mathlib.Core.List.{List, [], ◌∷◌, ◌++◌}
use native.Mathlib.Omega.{arith}
use lib.Dec.{eqb}
use borrow.Author.Tests.{ne_eqb, not-true}
use Rattle.laws.proofs.Tests.{and_left, and_right}
use Rattle.decimal.specs.Digits.{decimal}
use Rattle.decimal.proofs.Digits.{by_digits, decimal_one, decimal_more}

unfoldable pub lacks : ℕ → List ℕ → Bool
lacks code [] = true
lacks code (b ∷ text) = not (eqb b code) && lacks code text

pub lacks_none : (code : ℕ) → lacks code [] ≡ true
unfolding lacks
lacks_none code = refl

pub lacks-cons : (code b : ℕ) (text : List ℕ) → b ≢ code → lacks code text ≡ true → lacks code (b ∷ text) ≡ true
unfolding lacks
lacks-cons code b text ne h = rw (ne_eqb b code ne, h)

-- of a text with a byte in front
module _ (code b : ℕ) (text : List ℕ) (h : lacks code (b ∷ text) ≡ true) where
  pub lacks_first : eqb b code ≡ false
  unfolding lacks
  lacks_first = not-true (eqb b code) (and_left (not (eqb b code)) (lacks code text) h)

  pub lacks_rest : lacks code text ≡ true
  unfolding lacks
  lacks_rest = and_right (not (eqb b code)) (lacks code text) h

pub lacks-append : (code : ℕ) (x y : List ℕ) → lacks code x ≡ true → lacks code y ≡ true → lacks code (x ++ y) ≡ true
unfolding lacks
lacks-append code [] y h k = k
lacks-append code (b ∷ x) y h k = rw (lacks_first code b x h) (lacks-append code x y (lacks_rest code b x h) k)

-- no code below 48 is a digit's
pub lacks-decimal : (code n : ℕ) → code < 48 → lacks code (decimal n) ≡ true
lacks-decimal code n l =
    by_digits (λ n. lacks code (decimal n) ≡ true)
    (λ n h. rw (decimal_one n h) (digit n))
    (λ n h p. rw (decimal_more n h) (lacks-append code (decimal (n / 10)) ((48 + n % 10) ∷ []) p (digit (n % 10))))
    n
  where
    digit : (d : ℕ) → lacks code ((48 + d) ∷ []) ≡ true
    digit d = lacks-cons code (48 + d) [] (λ e. omega arith) (lacks_none code)
