-- A whole recording. Document 02, R-5 and its numbers 15 and 16. Assumes nothing.
use Rattle.std.specs.Prelude.{None, Some, ℕ, Bool, cond, ◌&&◌, ◌||◌, List, [], ◌∷◌, ◌++◌, ltb, eqb, length, get_or, take, Result, Ok, Err}
use Rattle.laws.specs.Words.{last_of, padded, ascii}
use Rattle.jobs.specs.{declared.job.Job.Job, declared.refusal.Refusal.Refusal, Refusals.on_pass, Jobs.place_in, Checks.check_of}
use Rattle.table.specs.Lines.{lines_of, row_of, under}
use Rattle.recording.specs.{declared.row.Row.Row, declared.reading.Recording.Recording, Rows.row, Rows.no_row, Rows.follows}

-- The first line.
abbrev pub header : List ℕ
header = ascii "chain,job,from,to"

-- How many fields a row has.
abbrev pub columns : ℕ
columns = 4

-- The most rows of a recording.
abbrev pub max_rows : ℕ
max_rows = 256

-- The row that a line's values describe, in the order of the columns; its place is beyond the jobs where none has these numbers.
abbrev pub row_in : List Job → List ℕ → Row
row_in js values = let at = get_or values in row (place_in js (at 0 0) (at 1 0)) (at 2 0) (at 3 0)

-- Whether a row of a table of so many jobs may come after n others, the last of which is `last`: its job is in the table, it begins before it ends, and
-- it comes after the last.
unfoldable pub is_next_row : ℕ → ℕ → Row → Row → Bool
is_next_row jobs n last r = ltb r.at jobs && ltb r.from r.to && (eqb n 0 || follows last r)

-- The recording that holds these rows.
abbrev pub recording_with : List Row → Recording
recording_with rows = record { rows = padded max_rows no_row rows; count = length rows }

-- 16, before the line is read, and 15, line by line after the rows before, the first bad line deciding.
unfoldable pub rows_from : List Job → List Row → List (List ℕ) → Result Recording Refusal
rows_from js before [] = Ok (recording_with before)
rows_from js before (line ∷ lines) =
    cond (ltb (length before) max_rows)
    (elim (row_of columns line) [
      | None ↦ Err Refusal.MalformedRecording
      | Some values ↦
          let r = row_in js values in
          let rest = rows_from js (before ++ (r ∷ [])) lines in
          cond (is_next_row (length js) (length before) (last_of no_row before) r) rest (Err Refusal.MalformedRecording)
    ])
    (Err Refusal.TooManyRows)

-- 15, then the lines under the header.
abbrev pub under_header : List Job → List (List ℕ) → Result Recording Refusal
under_header js lines = under header lines (rows_from js []) (Err Refusal.MalformedRecording)

-- The answer to reading a recording against a set: the refusals of the set, then 15 and 16.
unfoldable pub recording_of : List Job → List ℕ → Result Recording Refusal
recording_of js text = on_pass (check_of js) Err (under_header js (lines_of text))

-- The rows that a recording holds.
unfoldable pub rows_of : Recording → List Row
rows_of recording = take recording.count recording.rows
