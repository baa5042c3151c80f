-- What the functions that judge a recording ask of it and promise one another: figures of the jobs in columns, and tests on these. Only private
-- contracts cite this. Assumes nothing.
--   column_count  how many figures of a job stand in columns
--   Judged       a recording was read against an accepted set
--   Following    a row comes after a gap
--   course_of     columns of each job's work in all, begin and end
--   ready_in      the time from which a job is ready, by the given releases and the ends
--   fits_in       what is asked of a job
--   waiting_in    columns of the time from which each job is ready, its urgency and its end
--   held_up       a job waits in the gap before a row, or while the row of a less urgent job lasts
--   rows_fit_in    what is asked of the rows
use Rattle.std.specs.Prelude.{ℕ, length, ◌≤◌, ◌<◌, max, min, ◌≡◌, Bool, true, not, ◌&&◌, ◌||◌, List, [], ◌∷◌, leb, ltb, Ok}
use Rattle.laws.specs.Words.{tabulate, every_below}
use Rattle.jobs.specs.{declared.job.Job.Job, Limits.max_jobs, Jobs.job_at, Jobs.urgency_of, Checks.check_of}
use Rattle.theory.proofs.{Columns.figure, Columns.column, Prior.prior, Predecessors.not_before}
use Rattle.recording.specs.{declared.row.Row.Row, declared.reading.Recording.Recording}
use Rattle.recording.proofs.Readable.{Readable}
use Rattle.legality.specs.Procedure.{total, begin, done}

-- How many figures of a job stand in columns side by side.
abbrev pub column_count : ℕ
column_count = 3

-- What holds of a recording that was read against an accepted set.
pub record Judged (js : List Job) (recording : Recording) : Type 0 where
  pub passed : check_of js ≡ Ok tt
  pub readable : Readable (length js) recording

-- A row of a job that has a place, with a gap before it that begins at a time given.
pub record Following (gap : ℕ) (r : Row) : Type 0 where
  pub place : r.at < max_jobs
  pub after : gap ≤ r.from
  pub lasts : r.from < r.to

-- The columns of `course.rt`, in its order.
abbrev pub course_of : List Row → List (List ℕ)
course_of rows = tabulate 0 max_jobs (total rows) ∷ tabulate 0 max_jobs (begin rows) ∷ tabulate 0 max_jobs (done rows) ∷ []

-- The time from which the job at place n is ready: its given release or its predecessor's end, whichever is later.
unfoldable pub ready_in : List Job → List (List ℕ) → ℕ → ℕ
ready_in js course n =
    let j = job_at js n in
    not_before (prior (λ v. (job_at js v).chain) n) j.chain j.release (prior (figure course 2) n)

-- A job's work is in the range of its running time, and it begins when it is ready or later; `ready` is the time from which it is.
unfoldable pub job_fits_in : List (List ℕ) → ℕ → Job → ℕ → Bool
job_fits_in course ready j n = leb j.least (figure course 0 n) && leb (figure course 0 n) j.most && leb ready (figure course 1 n)

-- The same of the job at place n.
abbrev pub fits_in : List Job → List (List ℕ) → ℕ → Bool
fits_in js course n = job_fits_in course (ready_in js course n) (job_at js n) n

-- The columns of `waiting.rt`, in its order.
abbrev pub waiting_in : List Job → List (List ℕ) → List (List ℕ)
waiting_in js course =
    column (length js) (ready_in js course) ∷ column (length js) (λ u. urgency_of (job_at js u)) ∷ column (length js) (figure course 2) ∷ []

-- Whether the time from `ready` up to `done` shares a tick with that from `from` up to `to`.
abbrev pub meeting : ℕ → ℕ → ℕ → ℕ → Bool
meeting from to ready done = ltb (max from ready) (min to done)

-- Job v waits in the gap, which goes from `gap` to the row, or waits while the row lasts and is more urgent than the row's job.
unfoldable pub held_up : List (List ℕ) → ℕ → Row → ℕ → Bool
held_up waiting gap r v =
    meeting gap r.from (figure waiting 0 v) (figure waiting 2 v)
    || (meeting r.from r.to (figure waiting 0 v) (figure waiting 2 v) && ltb (figure waiting 1 r.at) (figure waiting 1 v))

-- A row and the gap before it hold up none of the first `count` jobs.
abbrev pub row_fits_in : List (List ℕ) → ℕ → ℕ → Row → Bool
row_fits_in waiting count gap r = every_below count (λ v. not (held_up waiting gap r v))

-- Each of some rows fits, where the gap before the first begins at a time given.
unfoldable pub rows_fit_in : List (List ℕ) → ℕ → ℕ → List Row → Bool
rows_fit_in waiting count gap [] = true
rows_fit_in waiting count gap (r ∷ rs) = row_fits_in waiting count gap r && rows_fit_in waiting count r.to rs
