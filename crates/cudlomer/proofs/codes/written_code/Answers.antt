-- `written_code` answers `written_code`. Assumes nothing.
use Rattle.cudlomer.specs.Codes.{written_code}
use mathlib.Core.Path.{sym, ap, ◌∙◌}
use mir.Facts.{to_z_pos, to_z-of_z}
use mir.Syntax.{w64}
use native.Mathlib.Omega.{arith}
use Rattle.cudlomer.proofs.codes.written_code.Goals as goal

pub returns-in-Ok : goal.returns-in-Ok
returns-in-Ok c = to_z_pos w64 {n = c.in-Ok.bytes} (omega arith) ∙ ap written_code (sym c.in-Ok.is)

pub returns-in-Err : goal.returns-in-Err
returns-in-Err c =
    to_z-of_z {w = w64} {z = c.negated.result} (record { sfits = c.negated.type_inv }) ∙ c.negated.ensures ∙ ap written_code (sym c.in-Err.is)
