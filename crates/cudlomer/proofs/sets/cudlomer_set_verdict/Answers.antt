-- `cudlomer_set_verdict` answers the verdict on the set in memory, as C sees it. Assumes nothing.
use Rattle.cudlomer.proofs.Negation.{handed_on}
use Rattle.cudlomer.specs.Codes.{verdict_code}
use mathlib.Core.Path.{ap, ◌∙◌}
use Rattle.cudlomer.proofs.sets.cudlomer_set_verdict.Goals as goal

pub returns : goal.returns
returns c = rw (← c.held_set.ensures) (handed_on (record { sfits = c.verdict_code.type_inv }) c.verdict_code.ensures ∙ ap verdict_code c.verdict.ensures)
