-- The trace of a run as a value change dump of IEEE 1364. Document 02, R-1. Assumes nothing.
--   header_lines   the definitions: how long a tick is, and a wire for each job
--   start_lines    the values of all wires at time 0
--   change_lines   the later changes, each under its time
--   dump_of        the dump of spans, the latest first
--   waveform_of    the dump of a run
use Rattle.std.specs.Prelude.{ℕ, suc, Bool, true, false, cond, ◌&&◌, ◌||◌, List, [], ◌∷◌, ◌++◌, eqb, length}
use Rattle.laws.specs.Words.{tabulate, ascii}
use Rattle.decimal.specs.Digits.{decimal}
use Rattle.jobs.specs.{declared.job.Job.Job, Jobs.job_at, Jobs.most_times}
use Rattle.machine.specs.{declared.trace.Span.Span, Runs.traced}
use Rattle.dumps.specs.Identifiers.{identifier_of}

-- The text of lines: each ends in LF, code 10.
unfoldable pub lines_text : List (List ℕ) → List ℕ
lines_text [] = []
lines_text (line ∷ lines) = line ++ 10 ∷ lines_text lines

-- The name of a job's wire, such as `c1j1`.
abbrev pub name_of : ℕ → ℕ → List ℕ
name_of chain number = ascii "c" ++ decimal chain ++ ascii "j" ++ decimal number

-- The line that declares the wire of the job at a place.
unfoldable pub declares : ℕ → ℕ → ℕ → List ℕ
declares u chain number = ascii "$var wire 1 " ++ identifier_of (suc u) ++ ascii " " ++ name_of chain number ++ ascii " $end"

abbrev pub wire_line : List Job → ℕ → List ℕ
wire_line js u = declares u (job_at js u).chain (job_at js u).job

-- The lines before the first time: a tick is 100 µs.
unfoldable pub header_lines : List Job → List (List ℕ)
header_lines js =
    (ascii "$timescale 100 us $end" ∷ ascii "$scope module core $end" ∷ [])
    ++ tabulate 0 (length js) (wire_line js)
    ++ (ascii "$upscope $end" ∷ ascii "$enddefinitions $end" ∷ [])

-- A time, after `#`, code 35.
abbrev pub time_line : ℕ → List ℕ
time_line t = 35 ∷ decimal t

-- The wire of the job at a place is 1, code 49, or 0, code 48.
abbrev pub value_line : Bool → ℕ → List ℕ
value_line value u = cond value 49 48 ∷ identifier_of (suc u)

-- Whether the job at a place runs from time 0 on.
unfoldable pub runs_first : List Span → ℕ → Bool
runs_first [] u = false
runs_first (s ∷ ss) u = let others = runs_first ss u in (eqb s.at u && eqb s.from 0) || others

-- The values of all wires at time 0, in table order.
unfoldable pub start_lines : ℕ → List Span → List (List ℕ)
start_lines n ss = (time_line 0 ∷ ascii "$dumpvars" ∷ []) ++ tabulate 0 n (λ u. value_line (runs_first ss u) u) ++ (ascii "$end" ∷ [])

-- The last time at which spans, the latest first, have a change.
abbrev pub last_change : List Span → ℕ
last_change [] = 0
last_change (s ∷ ss) = s.to

-- The time of a change, where the last time written is another.
abbrev pub time_after : ℕ → ℕ → List (List ℕ)
time_after last t = cond (eqb t last) [] (time_line t ∷ [])

-- A span begins: at time 0 its wire has its value already.
abbrev pub rise_after : ℕ → Span → List (List ℕ)
rise_after last s = cond (eqb s.from 0) [] (time_after last s.from ++ (value_line true s.at ∷ []))

-- The changes of a span: it begins, and it ends.
abbrev pub span_lines : ℕ → Span → List (List ℕ)
span_lines last s = rise_after last s ++ (time_line s.to ∷ value_line false s.at ∷ [])

-- The changes of spans, the earliest first: where one begins as another ends, the fall comes before the rise, under one time.
unfoldable pub change_lines : List Span → List (List ℕ)
change_lines [] = []
change_lines (s ∷ ss) = change_lines ss ++ span_lines (last_change ss) s

unfoldable pub dump_of : List Job → List Span → List ℕ
dump_of js ss = lines_text (header_lines js ++ start_lines (length js) ss ++ change_lines ss)

unfoldable pub waveform_of : List Job → List ℕ → List ℕ
waveform_of js times = dump_of js (traced js times)

-- The dump of the run with all most times.
unfoldable pub most_waveform : List Job → List ℕ
most_waveform js = waveform_of js (most_times js)
