-- `cudlomer_set_admit` answers `admit_code`, and leaves `admit_into`. Assumes nothing.
use Rattle.cudlomer.proofs.Admitting.{admitted_few}
use Rattle.cudlomer.proofs.Negation.{handed_on}
use mathlib.Core.Path.{refl}
use Rattle.cudlomer.proofs.sets.cudlomer_set_admit.Goals as goal

pub put_set-requires : goal.put_set-requires
put_set-requires c = admitted_few _ _ _ _ c.admit-admission.ensures (rw c.in-Ok-true.field-0-test at c.in-Ok-true.is)

pub returns-in-Ok-true : goal.returns-in-Ok-true
returns-in-Ok-true c =
    let put = c.put_set in
    rw (← c.set_in-old.ensures, ← c.held_set.ensures, ← c.admit-admission.ensures, c.in-Ok-true.is, c.in-Ok-true.field-0-test)
    (handed_on (record { sfits = put.type_inv }) put.ensures.0, put.ensures.1)

pub returns-in-Ok-false : goal.returns-in-Ok-false
returns-in-Ok-false c =
    rw (← c.set_in-old.ensures, ← c.held_set.ensures, ← c.admit-admission.ensures, c.in-Ok-false.is, c.in-Ok-false.field-0-test) (refl, refl)

pub returns-in-Err : goal.returns-in-Err
returns-in-Err c =
    rw (← c.set_in-old.ensures, ← c.held_set.ensures, ← c.admit-admission.ensures, c.in-Err.is)
    (handed_on (record { sfits = c.negated.type_inv }) c.negated.ensures, refl)
