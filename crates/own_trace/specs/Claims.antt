-- What is proved of the machine's own trace as a recording; proofs/Claims.antt has the proof of all. Document 02, R-5. Assumes nothing.
use Rattle.std.specs.Prelude.{ℕ, ◌≤◌, ◌<◌, ◌≡◌, true, List, [], ◌∷◌, ◌++◌, length, get_or, Ok}
use Rattle.jobs.specs.{declared.job.Job.Job, Jobs.most_times, Checks.check_of}
use Rattle.theory.specs.Table.{table_of}
use Rattle.machine.specs.{declared.trace.Span.Span, Ticks.machine_check, Runs.traced}
use Rattle.recording.specs.{declared.row.Row.Row, Rows.row, Rows.no_row, Rows.in_order, Reading.max_rows, Reading.recording_with, Reading.recording_of}
use Rattle.legality.specs.Legality.{legal}
use Rattle.report.specs.Texts.{trace_text}

-- The spans of a trace, which has the latest first, as rows.
unfoldable pub rows_traced : List Span → List Row
rows_traced [] = []
rows_traced (s ∷ ss) = rows_traced ss ++ (row s.at s.from s.to ∷ [])

-- One field for each theorem on the machine's own trace.
pub record OwnTrace (js : List Job) (rows : List Row) : Type 0 where
  -- Its rows are in order, no more than a recording may have, and of jobs of the table: they are what a recording may hold.
  pub ordered : in_order rows ≡ true
  pub few : length rows ≤ max_rows
  pub inside : (i : ℕ) → i < length rows → (get_or rows i no_row).at < length js
  -- It is legal.
  pub is_legal : legal (table_of js) rows ≡ true

-- They hold of every set and running times that pass the checks 4 to 8.
abbrev pub EveryTrace : Type 0
EveryTrace = (js : List Job) (times : List ℕ) → machine_check js times ≡ Ok tt → OwnTrace js (rows_traced (traced js times))

-- `trace_reads`: the text that the program `trace` prints of an accepted set, read as a recording, gives the rows of that trace.
abbrev pub TraceReads : Type 0
TraceReads =
    (js : List Job) → check_of js ≡ Ok tt → recording_of js (trace_text js) ≡ Ok (recording_with (rows_traced (traced js (most_times js))))
