-- A difference of two small numbers at 64 bits, on both sides of zero. Assumes nothing.
use Prim.Native.Nat.{ℕ, zero, suc, ◌≤◌}
use mathlib.Core.Path.{◌≡◌, refl}
use native.Mathlib.Omega.{arith}
use lib.Dec.{ltb}
use lib.IntN.{ℤ, pos, ◌-ℤ◌}
use mir.Syntax.{w64}
use mir.Val.{SFits, to_z, of_z}
use mir.Facts.{to_z_pos, to_z-of_z}
use Rattle.laws.proofs.Tests.{by_test}
use Rattle.theory.specs.Bounds.{bound_limit}

pub difference_fits : (d b : ℕ) → d ≤ bound_limit → b ≤ bound_limit → SFits w64 (pos d -ℤ pos b)
difference_fits d zero h k = record { sfits = omega arith }
difference_fits d (suc b) h k =
    by_test (ltb d (suc b)) (λ t. record { sfits = simp t (omega arith) }) (λ t. record { sfits = simp t (omega arith) })

-- a difference is stored and read back as it is
pub difference_kept : (d b : ℕ) (z : ℤ) → d ≤ bound_limit → b ≤ bound_limit → z ≡ pos d -ℤ pos b → to_z w64 (of_z w64 z) ≡ pos d -ℤ pos b
difference_kept d b z h k e = rw e (to_z-of_z (difference_fits d b h k))

-- two words as integers, stored and read back
pub words_fit : (d b : ℕ) → d ≤ bound_limit → b ≤ bound_limit → SFits w64 (to_z w64 d -ℤ to_z w64 b)
words_fit d b h k = rw (to_z_pos w64 {n = d} (omega arith), to_z_pos w64 {n = b} (omega arith)) (difference_fits d b h k)

pub words_differ : (d b : ℕ) → d ≤ bound_limit → b ≤ bound_limit → to_z w64 (of_z w64 (to_z w64 d -ℤ to_z w64 b)) ≡ pos d -ℤ pos b
words_differ d b h k =
    rw (to_z_pos w64 {n = d} (omega arith), to_z_pos w64 {n = b} (omega arith)) (difference_kept d b (pos d -ℤ pos b) h k refl)
