-- `cudlomer_rounds` answers the rounds of ITR on the table, as C sees them. Assumes nothing.
use Rattle.cudlomer.proofs.Negation.{handed_on}
use Rattle.cudlomer.specs.Sets.{rounds_code}
use Rattle.cudlomer.specs.Tables.{rounds_of_table}
use Rattle.table.proofs.Accepting.{read_passed}
use mathlib.Core.Path.{sym, ◌∙◌}
use Rattle.cudlomer.proofs.tables.cudlomer_rounds.Goals as goal

pub returns-in-Err : goal.returns-in-Err
unfolding rounds_of_table
returns-in-Err c = rw (sym c.read.ensures ∙ c.in-Err.is) (handed_on (record { sfits = c.negated.type_inv }) c.negated.ensures)

pub returns-in-Ok : goal.returns-in-Ok
unfolding rounds_of_table rounds_code
returns-in-Ok c =
    let is = c.read.ensures in
    let told = c.in-Ok.is in
    rw (sym is ∙ told) (handed_on (record { sfits = c.rounds_of.type_inv }) c.rounds_of.ensures ∙ rw (read_passed _ _ is told))
