-- The text of a table that lists jobs, what its writer answers, and that it is read back. Document 01, "A job table". Assumes nothing.
--   table_text     the header, and a line for each job
--   table_answer   how many bytes the text takes in a buffer, or the refusal
--   table_left     the buffer after it
use Rattle.std.specs.Prelude.{Result, Ok, Err, ℕ, ◌≤◌, ◌≡◌, List, [], ◌∷◌, ◌++◌, map, length, ℤ, pos}
use Rattle.laws.specs.Words.{ascii, written}
use Rattle.jobs.specs.declared.{job.Job.Job}
use Rattle.jobs.specs.{Refusals.on_pass, Jobs.set_of, Checks.check_of}
use Rattle.table.specs.Tables.{header, max_text, reading_of}
use Rattle.texts.specs.{Answers.answer_to}
use Rattle.texts.specs.Lines.{lines_text}
use Rattle.report.specs.Texts.{max_bytes}
use Rattle.jobs.specs.declared.refusal.Refusal.{Refusal}

-- The row of a job: its numbers and values in the order of the columns.
abbrev pub table_row : Job → List ℤ
table_row j = pos j.chain ∷ pos j.job ∷ pos j.release ∷ pos j.priority ∷ pos j.least ∷ pos j.most ∷ pos j.deadline ∷ []

-- The text of a table of these jobs: the header and a line for each job, in their order, each line with CR LF.
unfoldable pub table_text : List Job → List ℕ
table_text js = header ++ ascii "\r\n" ++ lines_text (map table_row js)

-- The answer to writing the text of a set's jobs into a buffer: the refusals of the set come first, then 9.
unfoldable pub table_answer : List Job → List ℕ → Result ℕ Refusal
table_answer js buffer = on_pass (check_of js) Err (answer_to (table_text js) buffer)

-- The buffer after it, as it was where there is a refusal.
unfoldable pub table_left : List Job → List ℕ → List ℕ
table_left js buffer = on_pass (check_of js) (λ refusal. buffer) (written (table_text js) buffer)

-- The text of jobs is read back as their set, and is too long neither for the reader nor for a buffer that the programs lend.
pub record Readable (js : List Job) : Type 0 where
  pub read_back : reading_of (table_text js) ≡ Ok (set_of js)
  pub short : length (table_text js) ≤ max_text
  pub fits : length (table_text js) ≤ max_bytes

-- `write_read`: so it is for every accepted set.
abbrev pub WriteRead : Type 0
WriteRead = (js : List Job) → check_of js ≡ Ok tt → Readable js
