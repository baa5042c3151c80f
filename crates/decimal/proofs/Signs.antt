-- Integers at 64 bits: the code's steps from a number below zero to its size, and the text by the sign.
-- Only the steps depend on a word's size. Assumes nothing.
use Prim.Native.Nat.{ℕ, zero, suc, ◌+◌, ◌^◌, ◌<◌}
use mathlib.Core.Path.{◌≡◌, refl, sym, ap, ◌∙◌}
use mathlib.Core.Bool.{Bool, true, false, true≢false}
use mathlib.Core.List.{◌∷◌}
use native.Mathlib.Omega.{arith}
use native.Mathlib.Nat.{zero-add}
use lib.IntN.{ℤ, pos, negsuc, nat_abs, ◌+ℤ◌, ◌-ℤ◌, +ℤ_one}
use lib.ListN.{length}
use lib.Signed.{mag, lt_z, non_neg}
use lib.Dec.{T}
use mir.Syntax.{w64}
use mir.Val.{SFits, to_z, of_z}
use mir.Facts.{to_z-of_z, sfits_lit}
use borrow.Author.Tests.{ltb-true}
use Rattle.decimal.specs.Digits.{digit_count, decimal, signed}

next_fits : (n : ℕ) → n < 2 ^ 63 → SFits w64 (negsuc n +ℤ pos 1)
next_fits zero h = sfits_lit tt
next_fits (suc n) h = rw (+ℤ_one (negsuc (suc n))) (record { sfits = omega arith })

flipped : (n : ℕ) → pos 0 -ℤ (negsuc n +ℤ pos 1) ≡ pos n
flipped zero = refl
flipped (suc n) = rw (+ℤ_one (negsuc (suc n))) (ap pos (zero-add (suc n)))

not_below : (n : ℕ) → lt_z (pos n) (pos 0) ≡ true → ⊥
not_below n e = omega (arith, ltb-true n 0 e)

-- the code's steps from z below zero: one more, then the sign flipped
pub step_next : (z : ℤ) → SFits w64 z → lt_z z (pos 0) ≡ true → SFits w64 (to_z w64 (of_z w64 z) +ℤ pos 1)
step_next (pos n) f e = absurd (not_below n e)
step_next (negsuc n) f e = rw (to_z-of_z f) (next_fits n f.sfits)

pub step_flip : (z : ℤ) → SFits w64 z → lt_z z (pos 0) ≡ true → SFits w64 (pos 0 -ℤ to_z w64 (of_z w64 (to_z w64 (of_z w64 z) +ℤ pos 1)))
step_flip (pos n) f e = absurd (not_below n e)
step_flip (negsuc n) f e = rw (to_z-of_z f, to_z-of_z (next_fits n f.sfits), flipped n) (record { sfits = f.sfits })

pub step_all : (z : ℤ) → SFits w64 z → lt_z z (pos 0) ≡ true → to_z w64 (of_z w64 (pos 0 -ℤ to_z w64 (of_z w64 (to_z w64 (of_z w64 z) +ℤ pos 1)))) ≡ pos (mag z)
step_all (pos n) f e = absurd (not_below n e)
step_all (negsuc n) f e =
    rw (to_z-of_z f, to_z-of_z (next_fits n f.sfits), flipped n)
    (to_z-of_z {w = w64} {z = pos n} (record { sfits = f.sfits }))

pub size_below : (z : ℤ) → lt_z z (pos 0) ≡ true → nat_abs z ≡ mag z + 1
size_below (pos n) e = absurd (not_below n e)
size_below (negsuc n) e = omega arith

pub not_negative : (z : ℤ) → lt_z z (pos 0) ≡ false → T (non_neg z)
not_negative (pos n) e = tt
not_negative (negsuc n) e = absurd (true≢false e)

-- the text of an integer, by its sign
signed_below : (z : ℤ) → lt_z z (pos 0) ≡ true → signed z ≡ 45 ∷ decimal (nat_abs z)
unfolding signed
signed_below (pos n) e = absurd (not_below n e)
signed_below (negsuc n) e = refl

signed_else : (z : ℤ) → lt_z z (pos 0) ≡ false → signed z ≡ decimal (nat_abs z)
unfolding signed
signed_else (pos n) e = refl
signed_else (negsuc n) e = absurd (true≢false e)

-- the same from what `is_negative` and `magnitude` promise
module _ {z : ℤ} {negative : Bool} {size : ℕ} (f : SFits w64 z) (n : negative ≡ lt_z (to_z w64 (of_z w64 z)) (pos 0)) (s : size ≡ nat_abs (to_z w64 (of_z w64 z))) where
  pub text_below : negative ≡ true → signed z ≡ 45 ∷ decimal size
  text_below t =
      signed_below z (rw (to_z-of_z f) at (sym n ∙ t)) ∙
      ap (λ (k : ℕ). 45 ∷ decimal k) (sym (s ∙ ap nat_abs (to_z-of_z f)))

  pub text_else : negative ≡ false → signed z ≡ decimal size
  text_else t = signed_else z (rw (to_z-of_z f) at (sym n ∙ t)) ∙ ap decimal (sym (s ∙ ap nat_abs (to_z-of_z f)))

  pub length_below : {count : ℕ} → count ≡ digit_count size → negative ≡ true → count + 1 ≡ length (signed z)
  length_below e t = omega (arith, e, ap length (text_below t))

  pub length_else : {count : ℕ} → count ≡ digit_count size → negative ≡ false → count ≡ length (signed z)
  length_else e t = omega (arith, e, ap length (text_else t))
