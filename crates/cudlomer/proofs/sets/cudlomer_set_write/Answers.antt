-- `cudlomer_set_write` answers what `table_text` does, as C sees it. Assumes nothing.
use Rattle.cudlomer.proofs.Negation.{handed_on}
use Rattle.cudlomer.specs.Codes.{written_code}
use mathlib.Core.Path.{ap, ◌∙◌}
use Rattle.cudlomer.proofs.sets.cudlomer_set_write.Goals as goal

pub returns : goal.returns
returns c =
    let table = c.table_text.ensures in
    rw (← c.held_set.ensures) (handed_on (record { sfits = c.written_code.type_inv }) c.written_code.ensures ∙ ap written_code table.0, table.1)
