-- A small number negated fits 64 bits, and what fits is answered as it is. Assumes nothing.
use Prim.Native.Nat.{ℕ, zero, suc, ◌≤◌}
use mathlib.Core.Path.{◌≡◌, ◌∙◌}
use native.Mathlib.Omega.{arith}
use lib.IntN.{ℤ, pos, neg_ℤ}
use mir.Syntax.{w64}
use mir.Val.{SFits, to_z, of_z}
use mir.Facts.{sfits_lit, to_z-of_z}

pub neg_fits : (n : ℕ) → n ≤ 255 → SFits w64 (neg_ℤ (pos n))
neg_fits zero h = sfits_lit tt
neg_fits (suc n) h = record { sfits = omega arith }

-- what a function answered, handed on
pub handed_on : {r z : ℤ} → SFits w64 r → r ≡ z → to_z w64 (of_z w64 r) ≡ z
handed_on fits e = to_z-of_z fits ∙ e
