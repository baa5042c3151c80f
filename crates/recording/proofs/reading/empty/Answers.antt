-- `empty` answers a recording of no row. Assumes nothing.
use Rattle.recording.specs.Reading.{max_rows}
use Rattle.recording.specs.declared.row.Row.{Row}
use lib.ListN.{replicate}
use mathlib.Core.Path.{ap}
use Rattle.recording.proofs.reading.empty.Goals as goal

pub returns : goal.returns
returns c = ap (λ (r : Row). record { rows = replicate max_rows r; count = 0 }) c.none-none.ensures
