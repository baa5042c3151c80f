-- How legality is decided: row by row and job by job, with no loop over ticks. No promise cites this. Assumes nothing.
--   total, begin, done    a job's work in all, the begin of its first row and the end of its last
--   ready_from             the time from which a job is ready: it is then ready up to `done`
--   waits                 a job is ready at some tick of a stretch of time
--   job_fits               what is asked of a job
--   row_fits               what is asked of a row and of the gap before it
--   recording_fits         all of it
use Rattle.std.specs.Prelude.{ℕ, zero, suc, ◌+◌, ◌-◌, max, min, Bool, true, cond, not, ◌&&◌, ◌||◌, List, [], ◌∷◌, leb, ltb, eqb}
use Rattle.laws.specs.Words.{every_below}
use Rattle.theory.specs.{Table.Table, Table.joined}
use Rattle.recording.specs.declared.row.Row.{Row}

-- A job's work in all its rows.
unfoldable pub total : List Row → ℕ → ℕ
total [] u = 0
total (r ∷ rs) u = cond (eqb r.at u) (r.to - r.from) 0 + total rs u

-- The begin of a job's first row, 0 where it has none.
unfoldable pub begin : List Row → ℕ → ℕ
begin [] u = 0
begin (r ∷ rs) u =
    let later = begin rs u in
    cond (eqb r.at u) r.from later

-- The end of a job's last row, the latest of its rows' ends, 0 where it has none.
unfoldable pub done : List Row → ℕ → ℕ
done [] u = 0
done (r ∷ rs) u = max (cond (eqb r.at u) r.to 0) (done rs u)

-- The end of its predecessor's last row, 0 where it has no predecessor.
unfoldable pub predecessor_done : Table → List Row → ℕ → ℕ
predecessor_done t rows zero = 0
predecessor_done t rows (suc v) = cond (joined t v) (done rows v) 0

-- The latest release that lets a job begin when it does: whatever an earlier one allows, this one allows.
unfoldable pub release_of : Table → List Row → ℕ → ℕ
release_of t rows u = min (t.latest u) (begin rows u)

-- The time from which a job is ready.
unfoldable pub ready_from : Table → List Row → ℕ → ℕ
ready_from t rows u = max (release_of t rows u) (predecessor_done t rows u)

-- Whether a job is ready at some tick from `from` up to `to`.
unfoldable pub waits : Table → List Row → ℕ → ℕ → ℕ → Bool
waits t rows from to u = ltb (max from (ready_from t rows u)) (min to (done rows u))

-- A job's work is in the range of its running time, and it begins neither before its earliest release nor before it is ready.
unfoldable pub job_fits : Table → List Row → ℕ → Bool
job_fits t rows u =
    leb (t.least u) (total rows u)
    && leb (total rows u) (t.most u)
    && leb (t.earliest u) (begin rows u)
    && leb (ready_from t rows u) (begin rows u)

-- A row is of a job of the table, in the gap before it no job waits, and while it lasts no job of higher priority does.
unfoldable pub row_fits : Table → List Row → ℕ → Row → Bool
row_fits t rows gap r =
    ltb r.at t.count
    && every_below t.count (λ v. not (waits t rows gap r.from v))
    && every_below t.count (λ v. not (waits t rows r.from r.to v) || leb (t.urgency v) (t.urgency r.at))

-- Each of some rows fits, where the gap before the first begins at a time given.
unfoldable pub rows_fit : Table → List Row → ℕ → List Row → Bool
rows_fit t rows gap [] = true
rows_fit t rows gap (r ∷ rs) = row_fits t rows gap r && rows_fit t rows r.to rs

-- Each job and each row fits.
unfoldable pub recording_fits : Table → List Row → Bool
recording_fits t rows = every_below t.count (job_fits t rows) && rows_fit t rows 0 rows
