-- `cudlomer_set_compare` answers `compare_code`, and leaves `compare_into`. Assumes nothing.
use Rattle.cudlomer.proofs.Comparing.{compare_refused, compare_done}
use Rattle.cudlomer.proofs.Negation.{handed_on}
use mathlib.Core.Path.{◌∙◌}
use native.Mathlib.Omega.{arith}
use Rattle.cudlomer.proofs.recordings.cudlomer_set_compare.Goals as goal

pub returns-in-Err : goal.returns-in-Err
returns-in-Err c =
    let refused = compare_refused _ _ _ _ c.compare.ensures _ _ c.in-Err.is in
    rw (← c.held_set.ensures) (record { value = handed_on (record { sfits = c.negated.type_inv }) c.negated.ensures ∙ refused.0; out_after = refused.1 })

pub checked_code-requires : goal.checked_code-requires
checked_code-requires c = omega arith

pub returns-in-Ok : goal.returns-in-Ok
returns-in-Ok c =
    let done = compare_done _ _ _ _ c.compare.ensures _ c.in-Ok.is _ _ _ _ c.numbers_of-numbers.ensures c.put.ensures in
    rw (← c.held_set.ensures) (record { value = handed_on (record { sfits = c.checked_code.type_inv }) c.checked_code.ensures ∙ done.0; out_after = done.1 })
