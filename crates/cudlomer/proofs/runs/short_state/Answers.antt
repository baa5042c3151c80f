-- `short_state` answers the refusal before 9, or 9. Assumes nothing.
use Rattle.cudlomer.proofs.Negation.{handed_on}
use mathlib.Core.Path.{sym, ◌∙◌}
use Rattle.cudlomer.proofs.runs.short_state.Goals as goal

pub returns-in-Err : goal.returns-in-Err
returns-in-Err c = rw (sym c.check_times.ensures ∙ c.in-Err.is) (handed_on (record { sfits = c.negated.type_inv }) c.negated.ensures)

pub returns : goal.returns
returns c = rw (sym c.check_times.ensures ∙ c.in_default.is) (handed_on (record { sfits = c.negated-2.type_inv }) c.negated-2.ensures)
