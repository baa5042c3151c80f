-- The trace text: the numbers that the machine leaves for the most times of an accepted set, read as rows. Assumes nothing.
use Rattle.std.specs.Prelude.{Result, Ok, Err}
use Prim.Native.Nat.{ℕ, ◌*◌, ◌≤◌}
use mathlib.Core.List.{List, [], ◌∷◌, ◌++◌, map, append_assoc, append-nil}
use mathlib.Core.Path.{◌≡◌, refl, sym, ap, ap₂, ◌∙◌}
use native.Mathlib.Omega.{arith}
use lib.ListN.{length, take, drop}
use lib.IntN.{pos}
use lib.Seq.{drop_at}
use Rattle.laws.specs.Words.{tabulate, patched}
use Rattle.jobs.specs.declared.job.Job.{Job}
use Rattle.jobs.specs.declared.refusal.Refusal.{Refusal}
use Rattle.jobs.specs.Limits.{max_jobs}
use Rattle.jobs.specs.Jobs.{most_times}
use Rattle.jobs.specs.Checks.{check_of}
use Rattle.jobs.proofs.Accepted.{accepted}
use Rattle.theory.specs.Table.{table_of}
use Rattle.machine.specs.declared.trace.Span.{Span}
use Rattle.machine.specs.declared.trace.Traced.{Traced}
use Rattle.machine.specs.Runs.{steps_of, row, rows, traced, trace_of, traced_in}
use Rattle.machine.proofs.Tracing.{rows-length, trace_written, traced-length}
use Rattle.machine.proofs.MostTimes.{most_passed}
use Rattle.machine.proofs.Claims.{claims}
use Rattle.texts.proofs.Wholes.{patched-start}
use Rattle.texts.specs.Lines.{lines_text}
use Rattle.report.specs.Texts.{trace_header, entry_row, trace_text}
use Rattle.texts.proofs.Lines.{line_text, lines_more}
use Rattle.report.proofs.EntryTexts.{entry_text, entries_text}

-- ---- rows
-- the row of a span
abbrev pub span_text : List Job → Span → List ℕ
span_text js s = line_text (map pos (row js s))

-- the rows of spans, the earliest first, which stands last in the list
unfoldable pub spans_text : List Job → List Span → List ℕ
spans_text js [] = []
spans_text js (s ∷ ss) = spans_text js ss ++ span_text js s

entry_span : (js : List Job) (s : Span) (before rest : List ℕ) (n : ℕ) → length before ≡ 4 * n → entry_text (before ++ (row js s ++ rest)) n ≡ span_text js s
entry_span js s before rest n e =
    ap (λ (l : List ℕ). line_text (map pos (take 4 l))) (drop_at before (row js s ++ rest) (4 * n) e)

entries_spans : (js : List Job) (ss : List Span) (rest : List ℕ) → entries_text (rows js ss ++ rest) (length ss) ≡ spans_text js ss
unfolding lines_text tabulate spans_text rows
entries_spans js [] rest = refl
entries_spans js (s ∷ ss) rest =
    rw (append_assoc (rows js ss) (row js s) rest)
    (lines_more (entry_row (rows js ss ++ (row js s ++ rest))) (length ss)
    ∙ ap₂ (λ (a b : List ℕ). a ++ b) (entries_spans js ss (row js s ++ rest)) (entry_span js s (rows js ss) rest (length ss) (rows-length js ss)))

pub rows-spans : (js : List Job) (ss : List Span) → entries_text (rows js ss) (length ss) ≡ spans_text js ss
rows-spans js ss = rw (← append-nil (rows js ss)) (entries_spans js ss [])

-- a buffer that begins with the rows of spans
rows_text : (js : List Job) (ss : List Span) (buffer : List ℕ) → entries_text (patched buffer 0 (rows js ss)) (length ss) ≡ entries_text (rows js ss) (length ss)
rows_text js ss buffer = rw (patched-start buffer (rows js ss)) (entries_spans js ss (drop (length (rows js ss)) buffer)) ∙ sym (rows-spans js ss)

-- ---- the machine's answer
abbrev count_of : Result Traced Refusal → ℕ
count_of (Ok traced) = traced.entries
count_of (Err r) = 0

-- the machine has left the trace of the run with all most times
pub record Ran (js : List Job) (answer : Result Traced Refusal) (numbers : List ℕ) : Type 0 where
  pub count : answer ≡ Ok (record { entries = length (traced js (most_times js)); steps = steps_of (table_of js) (most_times js) })
  pub few : length (traced js (most_times js)) ≤ 2 * max_jobs
  pub room : 4 * length (traced js (most_times js)) ≤ length numbers
  pub text : entries_text numbers (length (traced js (most_times js))) ≡ entries_text (rows js (traced js (most_times js))) (length (traced js (most_times js)))

-- the most times of an accepted set, and a buffer with room for every trace
pub most_ran : (js : List Job) → check_of js ≡ Ok tt → (times : List ℕ) → times ≡ most_times js → (buffer : List ℕ) → 8 * max_jobs ≤ length buffer
    → {answer : Result Traced Refusal} {numbers : List ℕ} → (answer ≡ trace_of js times (length buffer)) × (numbers ≡ traced_in js times buffer) → Ran js answer numbers
most_ran js accepts times is buffer room v =
    let most = most_times js in
    let passed = most_passed js accepts in
    let large : 8 * length js ≤ length buffer = omega (arith, (accepted js accepts).few) in
    let w = trace_written js most buffer passed large in
    let numbers_are = v.1 ∙ ap (λ (l : List ℕ). traced_in js l buffer) is ∙ w.1 in
    let twice = (claims js most passed).trace_within_twice in
    record {
      count = v.0 ∙ ap (λ (l : List ℕ). trace_of js l (length buffer)) is ∙ w.0;
      few = omega (arith, twice, (accepted js accepts).few);
      room = omega (arith, twice, ap length numbers_are, traced-length js most buffer passed large);
      text = ap (λ (l : List ℕ). entries_text l (length (traced js most))) numbers_are ∙ rows_text js (traced js most) buffer;
    }

module _ {js : List Job} {answer : Result Traced Refusal} {numbers : List ℕ} (ran : Ran js answer numbers) where
  pub ran_not_refused : (r : Refusal) → answer ≡ Err r → ⊥
  ran_not_refused r e = entries_not (sym ran.count ∙ e)
    where
      entries_not : {t : Traced} → ◌≡◌ {A = Result Traced Refusal} (Ok t) (Err r) → ⊥
      entries_not q = let z : ◌≡◌ {A = ℕ} 0 1 = cc in omega arith

  module _ (t : Traced) (e : answer ≡ Ok t) where
    count_is : t.entries ≡ length (traced js (most_times js))
    count_is = ap count_of (sym e ∙ ran.count)

    pub ran_fits : (4 * t.entries ≤ length numbers) × (t.entries ≤ 2 * max_jobs)
    ran_fits = rw count_is (ran.room, ran.few)

    pub ran_text : trace_header ++ entries_text numbers t.entries ≡ trace_text js
    unfolding trace_text
    ran_text = rw count_is (ap (λ (l : List ℕ). trace_header ++ l) ran.text)
