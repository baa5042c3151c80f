-- The texts that are printed. Document 01, "Programs and the C side". Assumes nothing.
use Rattle.std.specs.Prelude.{ℕ, ◌*◌, ◌≤◌, ◌≡◌, List, [], ◌∷◌, ◌++◌, map, length, get_or, take, drop, ℤ, pos, Ok}
use Rattle.laws.specs.Words.{tabulate, ascii}
use Rattle.jobs.specs.declared.{job.Job.Job}
use Rattle.jobs.specs.{Limits.max_jobs, Jobs.job_at, Jobs.most_times, Checks.check_of}
use Rattle.theory.specs.{Table.table_of, Bounds.ert, Bounds.cja, Bounds.itr, Bounds.slacks}
use Rattle.machine.specs.Runs.{rows, traced}
use Rattle.texts.specs.Lines.{lines_text}

-- The first line of the bounds text.
abbrev pub bounds_header : List ℕ
bounds_header = ascii "chain,job,ert,cja,itr,slack\r\n"

-- The row of job i in it: chain, job, the three bounds and the slack.
abbrev pub bounds_row : List Job → List ℕ → List ℕ → List ℕ → List ℤ → ℕ → List ℤ
bounds_row js by_ert by_cja by_itr slack i =
    pos (job_at js i).chain ∷ pos (job_at js i).job ∷ pos (get_or by_ert i 0) ∷ pos (get_or by_cja i 0) ∷ pos (get_or by_itr i 0) ∷ get_or slack i (pos 0) ∷ []

-- The bounds text of a list of jobs: a row for each, in table order.
unfoldable pub bounds_text : List Job → List ℕ
bounds_text js =
    let t = table_of js in
    bounds_header ++ lines_text (tabulate 0 (length js) (bounds_row js (ert t) (cja t) (itr t).bounds (slacks js)))

-- The first line of the trace text.
abbrev pub trace_header : List ℕ
trace_header = ascii "chain,job,from,to\r\n"

-- The row of entry n in it, of the numbers of a trace, four for each entry.
abbrev pub entry_row : List ℕ → ℕ → List ℤ
entry_row numbers n = map pos (take 4 (drop (4 * n) numbers))

-- The trace text of a list of jobs: a row for each entry of the run with all most times.
unfoldable pub trace_text : List Job → List ℕ
trace_text js =
    let spans = traced js (most_times js) in
    trace_header ++ lines_text (tabulate 0 (length spans) (entry_row (rows js spans)))

-- The length of the buffers that the programs lend.
abbrev pub max_bytes : ℕ
max_bytes = 64 * max_jobs

-- `texts_fit`: such a buffer has room for both texts of an accepted set, so that none is refused with 9.
abbrev pub TextsFit : Type 0
TextsFit = (js : List Job) → check_of js ≡ Ok tt → (length (bounds_text js) ≤ max_bytes) × (length (trace_text js) ≤ max_bytes)
