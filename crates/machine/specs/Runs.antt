-- The run from time 0, its steps from event to event, and its trace. Document 01, "The machine", and number 9; document 02, R-7. Assumes nothing.
use Rattle.std.specs.Prelude.{Result, Ok, Err, ℕ, zero, suc, ◌*◌, cond, ◌&&◌, List, [], ◌∷◌, ◌++◌, leb, eqb, length, ⊤}
use Rattle.laws.specs.Words.{tabulate, patched}
use Rattle.jobs.specs.declared.{job.Job.Job, refusal.Refusal.Refusal}
use Rattle.jobs.specs.{Limits.max_jobs, Refusals.on_pass, Refusals.unless, Refusals.and_then, Jobs.job_at}
use Rattle.theory.specs.{Table.Table, Table.table_of, Runs.Entry, Runs.names, Runs.idle, Runs.runs}
use Rattle.machine.specs.declared.{state.State.State, run.Completed.Completed, trace.Span.Span, trace.Traced.Traced}
use Rattle.machine.specs.{Ticks.last_time, Ticks.start, Ticks.machine_check, Ticks.pick, Ticks.next, Events.events}

-- The state after n ticks.
unfoldable pub after : Table → List ℕ → ℕ → State
after t times zero = start
after t times (suc n) = next t times (after t times n)

-- What tick n runs, which covers the time from n to n + 1.
unfoldable pub entry : Table → List ℕ → ℕ → Entry
entry t times n = pick t times (after t times n)

-- The end of the last of the first n ticks that ran a job, 0 where none did.
unfoldable pub completion : Table → List ℕ → ℕ → ℕ → ℕ
completion t times u zero = 0
completion t times u (suc n) =
    let before = completion t times u n in
    cond (names (entry t times n) u) (suc n) before

-- The state that the run comes to before the limit on times: a finished machine stays as it is.
abbrev pub finish : Table → List ℕ → State
finish t times = after t times last_time

-- Each job's completion time, and 0 in the places beyond the jobs.
unfoldable pub completions : Table → List ℕ → List ℕ
completions t times = tabulate 0 max_jobs (λ u. completion t times u last_time)

-- The steps of a run from event to event: one for each different time after 0 at which a job is released or completes.
abbrev pub steps_of : Table → List ℕ → ℕ
steps_of t times = events t (λ u. completion t times u last_time) last_time

-- The answer of a run: each job's completion, the time at which all are complete and the steps from event to event, or the refusal.
unfoldable pub run_of : List Job → List ℕ → Result Completed Refusal
run_of js times =
    on_pass (machine_check js times) Err
    (Ok (record { completions = completions (table_of js) times; end = (finish (table_of js) times).time; steps = steps_of (table_of js) times }))

-- Spans, the latest first, after tick n: the job that ran lengthens the latest where that is its own and ends at n, or begins a new one.
unfoldable pub noted : List Span → ℕ → Entry → List Span
noted ss n idle = ss
noted [] n (runs u) = record { at = u; from = n; to = suc n } ∷ []
noted (s ∷ ss) n (runs u) =
    cond (eqb s.at u && eqb s.to n)
    (record { at = s.at; from = s.from; to = suc n } ∷ ss)
    (record { at = u; from = n; to = suc n } ∷ s ∷ ss)

-- The spans of the first n ticks: each longest run of one job, the latest first.
unfoldable pub spans : Table → List ℕ → ℕ → List Span
spans t times zero = []
spans t times (suc n) = noted (spans t times n) n (entry t times n)

-- A span as four numbers: chain, job, from, to.
abbrev pub row : List Job → Span → List ℕ
row js s = (job_at js s.at).chain ∷ (job_at js s.at).job ∷ s.from ∷ s.to ∷ []

-- The rows of spans, the earliest first.
unfoldable pub rows : List Job → List Span → List ℕ
rows js [] = []
rows js (s ∷ ss) = rows js ss ++ row js s

-- Numbers 4 to 8, then 9: a buffer has to hold twice as many entries as there are jobs, of four numbers each.
unfoldable pub trace_check : List Job → List ℕ → ℕ → Result ⊤ Refusal
trace_check js times room = and_then (machine_check js times) (unless (leb (8 * length js) room) Refusal.ShortBuffer (Ok tt))

-- The spans of the whole run.
abbrev pub traced : List Job → List ℕ → List Span
traced js times = spans (table_of js) times last_time

-- The answer of a trace: how many entries it has and the steps of its run, or the refusal.
unfoldable pub trace_of : List Job → List ℕ → ℕ → Result Traced Refusal
trace_of js times room = on_pass (trace_check js times room) Err (Ok (record { entries = length (traced js times); steps = steps_of (table_of js) times }))

-- What a trace leaves in the lent buffer: its rows from the start on and what it held beyond, or on a refusal all as it was.
unfoldable pub traced_in : List Job → List ℕ → List ℕ → List ℕ
traced_in js times buffer = on_pass (trace_check js times (length buffer)) (λ refusal. buffer) (patched buffer 0 (rows js (traced js times)))
