-- `rounds_of` answers `rounds_code`. Assumes nothing.
use Rattle.cudlomer.proofs.Bounding.{rounds_few, rounds_are, rounds_refused}
use Rattle.cudlomer.proofs.Negation.{handed_on}
use mathlib.Core.Path.{sym, ◌∙◌}
use native.Mathlib.Omega.{arith}
use Rattle.cudlomer.proofs.sets.rounds_of.Goals as goal

pub checked_code-requires : goal.checked_code-requires
checked_code-requires c = omega (arith, rounds_few _ _ (sym c.in-Ok.is ∙ c.itr_alone.ensures))

pub returns-in-Ok : goal.returns-in-Ok
returns-in-Ok c =
    handed_on (record { sfits = c.checked_code.type_inv }) c.checked_code.ensures ∙ rounds_are _ _ (sym c.in-Ok.is ∙ c.itr_alone.ensures)

pub returns-in-Err : goal.returns-in-Err
returns-in-Err c =
    handed_on (record { sfits = c.negated.type_inv }) c.negated.ensures ∙ rounds_refused _ _ (sym c.in-Err.is ∙ c.itr_alone.ensures)
