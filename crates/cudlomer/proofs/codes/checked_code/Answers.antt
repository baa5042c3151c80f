-- `checked_code` answers `checked_code`. Assumes nothing.
use Rattle.cudlomer.proofs.Negation.{handed_on}
use Rattle.cudlomer.specs.Codes.{checked_code}
use Rattle.std.specs.Prelude.{Result, ⊤}
use mathlib.Core.Path.{sym, ap, ◌∙◌}
use mir.Facts.{to_z_pos}
use mir.Syntax.{w64}
use native.Mathlib.Omega.{arith}
use Rattle.cudlomer.proofs.codes.checked_code.Goals as goal
use Rattle.jobs.specs.declared.refusal.Refusal.{Refusal}

pub overflow_cast-result : goal.overflow_cast-result
overflow_cast-result c = record { sfits = omega (arith, c.requires) }

pub returns-in-Ok : goal.returns-in-Ok
returns-in-Ok c = to_z_pos w64 {n = c.args.number} (omega (arith, c.requires)) ∙ ap (λ (k : Result ⊤ Refusal). checked_code k c.args.number) (sym c.in-Ok.is)

pub returns-in-Err : goal.returns-in-Err
returns-in-Err c = handed_on (record { sfits = c.negated.type_inv }) c.negated.ensures ∙ ap (λ (k : Result ⊤ Refusal). checked_code k c.args.number) (sym c.in-Err.is)
