-- The comparison of two recordings of one set. Document 02, R-5. Assumes nothing.
use Rattle.std.specs.Prelude.{ℕ, List, Result, Ok, Err}
use Rattle.jobs.specs.declared.{job.Job.Job, refusal.Refusal.Refusal}
use Rattle.jobs.specs.Refusals.{on_ok}
use Rattle.theory.specs.Table.{table_of}
use Rattle.recording.specs.{declared.reading.Recording.Recording, Reading.recording_of, Reading.rows_of}
use Rattle.legality.specs.{Legality.legal, Differences.first_difference}
use Rattle.recorders.specs.declared.compare.Compared.{Compared}

-- What is said of two recordings that were read: whether each is legal, and where they differ, be they legal or not.
abbrev pub compared_with : List Job → Recording → Recording → Compared
compared_with js one other =
    record {
      first = legal (table_of js) (rows_of one);
      second = legal (table_of js) (rows_of other);
      difference = first_difference (rows_of one) (rows_of other);
    }

-- The answer to two recordings of a set's jobs: the refusals of the set, of the first and of the second; then what is said of them.
unfoldable pub compared_of : List Job → List ℕ → List ℕ → Result Compared Refusal
compared_of js first second = on_ok (recording_of js first) Err (λ one. on_ok (recording_of js second) Err (λ other. Ok (compared_with js one other)))
