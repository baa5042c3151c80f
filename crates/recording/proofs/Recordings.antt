-- Recordings as lists of rows: which rows one holds, and one more. Assumes nothing.
use Prim.Native.Nat.{ℕ, ◌+◌, ◌<◌}
use mathlib.Core.Path.{◌≡◌, sym, ap₂}
use mathlib.Core.List.{List, [], ◌∷◌, ◌++◌}
use lib.ListN.{length, set, replicate, length-append}
use lib.Seq.{take-append_seam}
use Rattle.std.specs.Prelude.{◌-◌}
use Rattle.laws.proofs.Lists.{padded_snoc}
use Rattle.recording.specs.declared.row.Row.{Row}
use Rattle.recording.specs.declared.reading.Recording.{Recording}
use Rattle.recording.specs.Rows.{no_row}
use Rattle.recording.specs.Reading.{max_rows, recording_with, rows_of}

-- a recording gives its rows back
pub rows_with : (rows : List Row) → rows_of (recording_with rows) ≡ rows
unfolding rows_of
rows_with rows = take-append_seam rows (replicate (max_rows - length rows) no_row)

abbrev made : List Row → ℕ → Recording
made rows n = record { rows = rows; count = n }

-- a recording with one row more, as the code stores it
abbrev pub grown : Recording → Row → Recording
grown recording r = made (set recording.rows recording.count r) (recording.count + 1)

pub with_grown : (rows : List Row) (r : Row) → length rows < max_rows → grown (recording_with rows) r ≡ recording_with (rows ++ (r ∷ []))
with_grown rows r h = ap₂ made (padded_snoc max_rows no_row rows r h) (sym (length-append rows (r ∷ [])))
