-- What is proved of reading; proofs/OwnNumbers.antt and proofs/Fronts.antt have the proofs. Document 02, R-5. Assumes nothing.
use Rattle.std.specs.Prelude.{ℕ, ◌+◌, ◌*◌, ◌≡◌, ◌⊎◌, List, length, take, Ok, Err}
use Rattle.decimal.specs.Fields.{max_digits}
use Rattle.jobs.specs.{declared.job.Job.Job, declared.refusal.Refusal.Refusal, Checks.check_of}
use Rattle.recording.specs.Reading.{header, columns, max_rows, recording_of}

-- `own_numbers`: a recording of an accepted set is refused with 15 or 16 and no other number.
abbrev pub OwnNumbers : Type 0
OwnNumbers =
    (js : List Job) → check_of js ≡ Ok tt → (text : List ℕ) (x : Refusal) → recording_of js text ≡ Err x
    → (x ≡ Refusal.MalformedRecording) ⊎ (x ≡ Refusal.TooManyRows)

-- The most bytes of a row with its line end: so many fields, each with a comma or the end of the line behind it, and the second byte of that.
abbrev pub row_bytes : ℕ
row_bytes = columns * (max_digits + 1) + 1

-- Those of the header and its line end, of the most rows, and one more.
abbrev pub deciding_bytes : ℕ
deciding_bytes = length header + 2 + max_rows * row_bytes + 1

-- `front_decides`: how a text is read is decided by its first bytes, however long it is, so that a program has to read no more of a file.
abbrev pub FrontDecides : Type 0
FrontDecides = (js : List Job) (text : List ℕ) → recording_of js (take deciding_bytes text) ≡ recording_of js text
