-- A whole job table. Document 01, "A job table", and numbers 1 to 7; document 02, R-4. Assumes nothing.
use Rattle.std.specs.Prelude.{None, Some, ℕ, cond, List, [], ◌∷◌, ◌++◌, leb, length, get_or, Result, Ok, Err}
use Rattle.laws.specs.Words.{last_of, ascii}
use Rattle.jobs.specs.declared.{job.Job.Job, set.JobSet.JobSet, refusal.Refusal.Refusal}
use Rattle.jobs.specs.{Refusals.on_pass, Refusals.on_ok, Jobs.job, Jobs.no_job, Jobs.jobs_of, Jobs.set_of, Checks.record_check, Checks.any_record}
use Rattle.table.specs.{Lines.lines_of, Lines.max_columns, Lines.row_of, Lines.under}

-- The first line.
abbrev pub header : List ℕ
header = ascii "chain,job,release,priority,least,most,deadline"

-- The greatest length of a text.
abbrev pub max_text : ℕ
max_text = 4096

-- The job that a record's values describe, in the order of the columns.
abbrev pub job_of : List ℕ → Job
job_of values = let at = get_or values in job (at 0 0) (at 1 0) (at 2 0) (at 3 0) (at 4 0) (at 5 0) (at 6 0)

-- 3 and the check of the record, line by line after the records before, the first bad line deciding, then 7.
unfoldable pub records_from : List Job → List (List ℕ) → Result JobSet Refusal
records_from before [] = on_pass (any_record before) Err (Ok (set_of before))
records_from before (line ∷ lines) =
    elim (row_of max_columns line) [
      | None ↦ Err Refusal.MalformedLine
      | Some values ↦
          let j = job_of values in
          let rest = records_from (before ++ (j ∷ [])) lines in
          on_pass (record_check (length before) (last_of no_job before) j) Err rest
    ]

-- 2, then the lines under the header.
abbrev pub under_header : List (List ℕ) → Result JobSet Refusal
under_header lines = under header lines (records_from []) (Err Refusal.NotHeader)

-- The answer to reading a text: the set of its jobs, or the refusal; 1 comes first.
unfoldable pub reading_of : List ℕ → Result JobSet Refusal
reading_of text = cond (leb (length text) max_text) (under_header (lines_of text)) (Err Refusal.TextTooLong)

-- What is made of the jobs of a table, or of the refusal of reading it.
abbrev pub on_table : {A : Type 0} → List ℕ → (Refusal → A) → (List Job → A) → A
on_table text otherwise answer = on_ok (reading_of text) otherwise (λ set. answer (jobs_of set))
