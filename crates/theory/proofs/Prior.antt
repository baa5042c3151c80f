-- What a loop over places keeps of the place before the one that it is at.
--   prior   a figure of the place before, 0 where there is none
-- Assumes nothing.
use Prim.Native.Nat.{ℕ, zero, suc, ◌+◌}
use mathlib.Core.Path.{◌≡◌, refl}
use native.Mathlib.Numerals.{add-one}

unfoldable pub prior : (ℕ → ℕ) → ℕ → ℕ
prior f zero = 0
prior f (suc i) = f i

pub prior_none : (f : ℕ → ℕ) → prior f 0 ≡ 0
unfolding prior
prior_none f = refl

pub prior-next : (f : ℕ → ℕ) (i : ℕ) → prior f (i + 1) ≡ f i
unfolding prior
prior-next f i = rw add-one
