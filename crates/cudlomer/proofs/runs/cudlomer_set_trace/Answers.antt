-- `cudlomer_set_trace` answers what `trace` does, as C sees it. Assumes nothing.
use Rattle.cudlomer.proofs.Negation.{handed_on}
use Rattle.cudlomer.proofs.Running.{entries_few}
use Rattle.cudlomer.specs.Codes.{traced_code}
use mathlib.Core.Path.{ap, ◌∙◌}
use Rattle.cudlomer.proofs.runs.cudlomer_set_trace.Goals as goal

pub traced_code-requires : goal.traced_code-requires
traced_code-requires c = entries_few _ _ _ _ c.trace.ensures.0

pub returns : goal.returns
returns c =
    let traced = c.trace.ensures in
    rw (← c.held_set.ensures) (handed_on (record { sfits = c.traced_code.type_inv }) c.traced_code.ensures ∙ ap traced_code traced.0, traced.1)
