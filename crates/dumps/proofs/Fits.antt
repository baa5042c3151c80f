-- A buffer of 128 bytes for each job that a set can hold has room for every dump of a run. A job has at most 28 bytes of the definitions and 4 of the
-- values at time 0, a span has at most 32 of changes, and there are at most two spans for each job. Assumes nothing.
--   bytes   how many bytes lines take
use Prim.Native.Nat.{ℕ, zero, suc, ◌+◌, ◌*◌, ◌≤◌, ◌<◌}
use mathlib.Core.Path.{◌≡◌, refl, ◌∙◌}
use mathlib.Core.Bool.{Bool, true, false, cond}
use mathlib.Core.List.{List, [], ◌∷◌, ◌++◌}
use native.Mathlib.Omega.{arith}
use native.Mathlib.Nat.{mul-suc}
use lib.Dec.{eqb}
use lib.ListN.{length, length-append}
use Rattle.laws.specs.Words.{tabulate, ascii}
use Rattle.decimal.specs.Digits.{decimal}
use Rattle.jobs.specs.declared.job.Job.{Job}
use Rattle.jobs.specs.Jobs.{job_at}
use Rattle.jobs.proofs.Accepted.{Accepted}
use Rattle.machine.specs.declared.trace.Span.{Span}
use Rattle.machine.specs.Ticks.{last_time}
use Rattle.machine.proofs.SpanTimes.{EndedBy}
use Rattle.dumps.specs.Identifiers.{identifier_of}
use Rattle.dumps.specs.Dumps.{lines_text, name_of, declares, wire_line, header_lines, time_line, value_line, runs_first, start_lines, dump_of}
use Rattle.dumps.specs.Dumps.{last_change, time_after, rise_after, span_lines, change_lines}
use Rattle.dumps.specs.Claims.{max_waveform}
use Rattle.dumps.proofs.Identifiers.{identifier_short}
use Rattle.dumps.proofs.Numbers.{time_narrow, chain_narrow, job_narrow}

-- ---- lines
abbrev bytes : List (List ℕ) → ℕ
bytes lines = length (lines_text lines)

bytes_none : bytes [] ≡ 0
unfolding lines_text
bytes_none = refl

bytes-cons : (line : List ℕ) (lines : List (List ℕ)) → bytes (line ∷ lines) ≡ length line + 1 + bytes lines
unfolding lines_text
bytes-cons line lines = length-append line (10 ∷ lines_text lines) ∙ omega arith

bytes_one : (line : List ℕ) → bytes (line ∷ []) ≡ length line + 1
bytes_one line = omega (arith, bytes-cons line [], bytes_none)

bytes-append : (a b : List (List ℕ)) → bytes (a ++ b) ≡ bytes a + bytes b
bytes-append [] b = omega (arith, bytes_none)
bytes-append (line ∷ a) b = omega (arith, bytes-cons line (a ++ b), bytes-cons line a, bytes-append a b)

bytes_when : (b : Bool) (lines : List (List ℕ)) → bytes (cond b [] lines) ≤ bytes lines
bytes_when true lines = omega (arith, bytes_none)
bytes_when false lines = omega arith

bytes-tabulate : (f : ℕ → List ℕ) (most i n : ℕ) → ((k : ℕ) → k < i + n → length (f k) + 1 ≤ most) → bytes (tabulate i n f) ≤ most * n
unfolding tabulate
bytes-tabulate f most i zero h = omega (arith, bytes_none)
bytes-tabulate f most i (suc n) h =
    omega (
      arith,
      bytes-cons (f i) (tabulate (suc i) n f),
      h i (omega arith),
      bytes-tabulate f most (suc i) n (λ k l. h k (omega arith)),
      mul-suc most n,
    )

-- ---- changes
value_most : (value : Bool) (u : ℕ) → length (value_line value u) ≤ 3
value_most value u = omega (arith, identifier_short (suc u))

rise_most : (last : ℕ) (s : Span) → s.from ≤ last_time → bytes (rise_after last s) ≤ 16
rise_most last s l =
    let time = time_after last s.from in
    let rise = value_line true s.at in
    omega (
      arith,
      bytes_when (eqb s.from 0) (time ++ (rise ∷ [])),
      bytes-append time (rise ∷ []),
      bytes_when (eqb s.from last) (time_line s.from ∷ []),
      bytes_one (time_line s.from),
      time_narrow s.from l,
      bytes_one rise,
      value_most true s.at,
    )

changes_most : (ss : List Span) → EndedBy last_time ss → bytes (change_lines ss) ≤ 32 * length ss
unfolding change_lines
changes_most [] h = omega (arith, bytes_none)
changes_most (s ∷ ss) h =
    let rise = rise_after (last_change ss) s in
    let fall = value_line false s.at in
    omega (
      arith,
      bytes-append (change_lines ss) (span_lines (last_change ss) s),
      changes_most ss h.2,
      bytes-append rise (time_line s.to ∷ fall ∷ []),
      rise_most (last_change ss) s h.0,
      bytes-cons (time_line s.to) (fall ∷ []),
      time_narrow s.to h.1,
      bytes_one fall,
      value_most false s.at,
    )

-- ---- values at time 0
start_most : (n : ℕ) (ss : List Span) → bytes (start_lines n ss) ≤ 27 + 4 * n
unfolding start_lines
start_most n ss =
    let line : ℕ → List ℕ = λ u. value_line (runs_first ss u) u in
    let values = tabulate 0 n line in
    omega (
      arith,
      bytes-cons (time_line 0) (ascii "$dumpvars" ∷ (values ++ (ascii "$end" ∷ []))),
      time_narrow 0 (omega arith),
      bytes-cons (ascii "$dumpvars") (values ++ (ascii "$end" ∷ [])),
      bytes-append values (ascii "$end" ∷ []),
      bytes-tabulate line 4 0 n (λ u l. omega (arith, value_most (runs_first ss u) u)),
      bytes_one (ascii "$end"),
    )

module _ (js : List Job) (ok : Accepted js) where
  -- ---- definitions
  wire_most : (u : ℕ) → u < length js → length (wire_line js u) + 1 ≤ 28
  unfolding declares
  wire_most u l =
      let chain = (job_at js u).chain in
      let number = (job_at js u).job in
      let identifier = identifier_of (suc u) in
      omega (
        arith,
        length-append (identifier ++ ascii " " ++ name_of chain number) (ascii " $end"),
        length-append (identifier ++ ascii " ") (name_of chain number),
        length-append identifier (ascii " "),
        identifier_short (suc u),
        length-append (decimal chain ++ ascii "j") (decimal number),
        length-append (decimal chain) (ascii "j"),
        chain_narrow js ok u l,
        job_narrow js ok u l,
      )

  header_most : bytes (header_lines js) ≤ 82 + 28 * length js
  unfolding header_lines
  header_most =
      let wires = tabulate 0 (length js) (wire_line js) in
      let last = ascii "$upscope $end" ∷ ascii "$enddefinitions $end" ∷ [] in
      omega (
        arith,
        bytes-cons (ascii "$timescale 100 us $end") (ascii "$scope module core $end" ∷ (wires ++ last)),
        bytes-cons (ascii "$scope module core $end") (wires ++ last),
        bytes-append wires last,
        bytes-tabulate (wire_line js) 28 0 (length js) (λ u l. wire_most u (omega arith)),
        bytes-cons (ascii "$upscope $end") (ascii "$enddefinitions $end" ∷ []),
        bytes_one (ascii "$enddefinitions $end"),
      )

  pub dump_fits : (ss : List Span) → EndedBy last_time ss → length ss ≤ 2 * length js → length (dump_of js ss) ≤ max_waveform
  unfolding dump_of
  dump_fits ss h few =
      omega (
        arith,
        bytes-append (header_lines js ++ start_lines (length js) ss) (change_lines ss),
        bytes-append (header_lines js) (start_lines (length js) ss),
        header_most,
        start_most (length js) ss,
        changes_most ss h,
        ok.few,
      )
