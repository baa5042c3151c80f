-- `traced_code` answers `traced_code`. Assumes nothing.
use Rattle.cudlomer.proofs.Negation.{handed_on}
use Rattle.cudlomer.specs.Codes.{traced_code}
use mathlib.Core.Path.{sym, ap, ◌∙◌}
use mir.Facts.{to_z_pos}
use mir.Syntax.{w64}
use native.Mathlib.Omega.{arith}
use Rattle.cudlomer.proofs.codes.traced_code.Goals as goal

pub overflow_cast-result : goal.overflow_cast-result
overflow_cast-result c = record { sfits = omega (arith, c.requires _ c.in-Ok.is) }

pub returns-in-Ok : goal.returns-in-Ok
returns-in-Ok c = to_z_pos w64 {n = c.in-Ok.traced.entries} (omega (arith, c.requires _ c.in-Ok.is)) ∙ ap traced_code (sym c.in-Ok.is)

pub returns-in-Err : goal.returns-in-Err
returns-in-Err c = handed_on (record { sfits = c.negated.type_inv }) c.negated.ensures ∙ ap traced_code (sym c.in-Err.is)
