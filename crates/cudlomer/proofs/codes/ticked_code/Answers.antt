-- `ticked_code` answers `ticked_code`. Assumes nothing.
use Prim.Native.Nat.{◌+◌, ◌*◌}
use Rattle.cudlomer.proofs.Negation.{handed_on}
use Rattle.cudlomer.specs.Codes.{chain_step, ticked_code}
use Rattle.jobs.specs.declared.refusal.Refusal.{Refusal}
use Rattle.machine.specs.declared.step.Ticked.{Ticked}
use Rattle.std.specs.Prelude.{Result, Ok}
use mathlib.Core.Path.{◌≡◌, sym, ap, ◌∙◌}
use mir.Facts.{to_z_pos}
use mir.Syntax.{w64}
use native.Mathlib.Omega.{arith}
use Rattle.cudlomer.proofs.codes.ticked_code.Goals as goal

-- what a tick answers that is not refused
answers : {answer : Result Ticked Refusal} {ticked other : Ticked} → answer ≡ Ok ticked → ticked ≡ other → answer ≡ Ok other
answers e f = rw (← f) e

pub overflow_mul-result : goal.overflow_mul-result
overflow_mul-result c = let small = c.requires _ _ (answers c.in-Ok-Ran.is (rw c.in-Ok-Ran.is at c.in-Ok-Ran.field-0-is)) in omega (arith, small.0)

pub overflow_add-result : goal.overflow_add-result
overflow_add-result c = let small = c.requires _ _ (answers c.in-Ok-Ran.is (rw c.in-Ok-Ran.is at c.in-Ok-Ran.field-0-is)) in omega (arith, small.0, small.1)

pub overflow_cast-result : goal.overflow_cast-result
overflow_cast-result c = let small = c.requires _ _ (answers c.in-Ok-Ran.is (rw c.in-Ok-Ran.is at c.in-Ok-Ran.field-0-is)) in record { sfits = omega (arith, small.0, small.1) }

pub returns-in-Ok-Ran : goal.returns-in-Ok-Ran
returns-in-Ok-Ran c =
    let ran = answers c.in-Ok-Ran.is (rw c.in-Ok-Ran.is at c.in-Ok-Ran.field-0-is) in
    let small = c.requires _ _ ran in
    to_z_pos w64 {n = c.in-Ok-Ran.chain * chain_step + c.in-Ok-Ran.job} (omega (arith, small.0, small.1)) ∙ ap ticked_code (sym ran)

pub returns-in-Ok-Idle : goal.returns-in-Ok-Idle
returns-in-Ok-Idle c = ap ticked_code (sym (answers c.in-Ok-Idle.is (rw c.in-Ok-Idle.is at c.in-Ok-Idle.field-0-is)))

pub returns-in-Ok-Finished : goal.returns-in-Ok-Finished
returns-in-Ok-Finished c = ap ticked_code (sym (answers c.in-Ok-Finished.is (rw c.in-Ok-Finished.is at c.in-Ok-Finished.field-0-is)))

pub returns-in-Err : goal.returns-in-Err
returns-in-Err c = handed_on (record { sfits = c.negated.type_inv }) c.negated.ensures ∙ ap ticked_code (sym c.in-Err.is)
