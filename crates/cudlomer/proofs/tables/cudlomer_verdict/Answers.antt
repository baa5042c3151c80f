-- `cudlomer_verdict` answers the verdict on the table, as C sees it. Assumes nothing.
use Rattle.analysis.proofs.Meeting.{verdict_passed}
use Rattle.cudlomer.proofs.Negation.{handed_on}
use Rattle.cudlomer.specs.Codes.{verdict_code}
use Rattle.cudlomer.specs.Tables.{verdict_of_table}
use Rattle.table.proofs.Accepting.{read_passed}
use mathlib.Core.Path.{sym, ap, ◌∙◌}
use Rattle.cudlomer.proofs.tables.cudlomer_verdict.Goals as goal

pub returns-in-Err : goal.returns-in-Err
unfolding verdict_of_table
returns-in-Err c = rw (sym c.read.ensures ∙ c.in-Err.is) (handed_on (record { sfits = c.negated.type_inv }) c.negated.ensures)

pub returns-in-Ok : goal.returns-in-Ok
unfolding verdict_of_table
returns-in-Ok c =
    let is = c.read.ensures in
    let told = c.in-Ok.is in
    rw (sym is ∙ told) (handed_on (record { sfits = c.verdict_code.type_inv }) c.verdict_code.ensures ∙ ap verdict_code (c.verdict.ensures ∙ verdict_passed _ _ (read_passed _ _ is told)))
