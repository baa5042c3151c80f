-- `cudlomer_set_rounds` answers the rounds of ITR on the set in memory, as C sees them. Assumes nothing.
use Rattle.cudlomer.proofs.Negation.{handed_on}
use Rattle.cudlomer.proofs.sets.cudlomer_set_rounds.Goals as goal

pub returns : goal.returns
returns c = rw (← c.held_set.ensures) (handed_on (record { sfits = c.rounds_of.type_inv }) c.rounds_of.ensures)
