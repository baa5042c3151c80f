-- `negated` answers the number negated. Assumes nothing.
use Rattle.cudlomer.proofs.Negation.{neg_fits}
use lib.IntN.{pos, neg_ℤ, ◌+ℤ◌, +ℤ_idl}
use mir.Facts.{to_z_pos, to_z-of_z}
use mir.Syntax.{w64}
use mir.Val.{SFits}
use native.Mathlib.Omega.{arith}
use Rattle.cudlomer.proofs.codes.negated.Goals as goal

pub overflow_sub-result : goal.overflow_sub-result
overflow_sub-result c =
    let fits : SFits w64 (pos 0 +ℤ neg_ℤ (pos c.number.result)) = rw +ℤ_idl (neg_fits c.number.result (omega arith)) in
    rw (to_z_pos w64 {n = c.number.result} (omega arith)) fits

pub returns : goal.returns
returns c = rw (to_z_pos w64 {n = c.number.result} (omega arith), +ℤ_idl, ← c.number.ensures) (to_z-of_z (neg_fits c.number.result (omega arith)))
