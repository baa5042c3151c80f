-- `cudlomer_set_steps` answers the steps of the run, as C sees them. Assumes nothing.
use Rattle.cudlomer.proofs.Negation.{handed_on}
use Rattle.cudlomer.proofs.Running.{steps_few}
use mathlib.Core.Path.{sym, ◌∙◌}
use Rattle.cudlomer.proofs.runs.cudlomer_set_steps.Goals as goal

pub checked_code-requires : goal.checked_code-requires
checked_code-requires c = steps_few _ _ _ c.run.ensures _ c.in-Ok.is

pub returns-in-Ok : goal.returns-in-Ok
returns-in-Ok c = rw (← c.held_set.ensures, sym c.run.ensures ∙ c.in-Ok.is) (handed_on (record { sfits = c.checked_code.type_inv }) c.checked_code.ensures)

pub returns-in-Err : goal.returns-in-Err
returns-in-Err c = rw (← c.held_set.ensures, sym c.run.ensures ∙ c.in-Err.is) (handed_on (record { sfits = c.checked_code-in-Err.type_inv }) c.checked_code-in-Err.ensures)
