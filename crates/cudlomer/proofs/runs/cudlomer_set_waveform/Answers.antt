-- `cudlomer_set_waveform` answers what `write_waveform` does, as C sees it. Assumes nothing.
use Rattle.cudlomer.proofs.Negation.{handed_on}
use Rattle.cudlomer.specs.Codes.{written_code}
use mathlib.Core.Path.{ap, ◌∙◌}
use Rattle.cudlomer.proofs.runs.cudlomer_set_waveform.Goals as goal

pub returns : goal.returns
returns c =
    let waveform = c.write_waveform.ensures in
    rw (← c.held_set.ensures) (record { value = handed_on (record { sfits = c.written_code.type_inv }) c.written_code.ensures ∙ ap written_code waveform.value; out_after = waveform.out_after })
