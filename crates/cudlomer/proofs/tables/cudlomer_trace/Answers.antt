-- `cudlomer_trace` answers what `trace_text` does, as C sees it. Assumes nothing.
use Rattle.cudlomer.specs.Codes.{written_code}
use mathlib.Core.Path.{ap, ◌∙◌}
use mir.Facts.{to_z-of_z}
use mir.Syntax.{w64}
use Rattle.cudlomer.proofs.tables.cudlomer_trace.Goals as goal

pub returns : goal.returns
returns c =
    (to_z-of_z {w = w64} {z = c.written_code.result} (record { sfits = c.written_code.type_inv }) ∙ c.written_code.ensures ∙ ap written_code c.trace_text.ensures.0, c.trace_text.ensures.1)
