-- The first bytes of a text decide how it is read: a row and the header take few bytes, and a line that is cut off is too long for either.
-- Assumes nothing.
use Rattle.std.specs.Prelude.{Option, None, Some, Result, Err}
use Prim.Native.Nat.{ℕ, zero, suc, ◌+◌, ◌-◌, ◌*◌, ◌≤◌, ◌<◌}
use mathlib.Core.Bool.{Bool, true, cond}
use mathlib.Core.List.{List, [], ◌∷◌, ◌++◌}
use mathlib.Core.Path.{◌≡◌, refl, sym, ap, ap₂, ◌∙◌}
use native.Mathlib.Omega.{arith}
use lib.ListN.{length, take, length-take, length-append}
use borrow.Author.Tests.{eqb-true, le-ltb, lt-ltb}
use Rattle.laws.specs.Words.{last_of}
use Rattle.laws.proofs.Tests.{by_test, by_order, and_parts, never_true}
use Rattle.laws.proofs.Lines.{first_line, after_line, line_length, line_within}
use Rattle.laws.proofs.Fronts.{front, cut, line_length_lem}
use Rattle.decimal.proofs.Absence.{lacks}
use Rattle.jobs.specs.declared.job.Job.{Job}
use Rattle.jobs.specs.declared.refusal.Refusal.{Refusal}
use Rattle.jobs.specs.declared.refusal.Refusal.TheVariants.{MalformedRecording, TooManyRows}
use Rattle.jobs.specs.Refusals.{on_pass}
use Rattle.jobs.specs.Checks.{check_of}
use Rattle.table.specs.Lines.{lines_of, row_of, is_line}
use Rattle.table.proofs.Lines.{lines_cons}
use Rattle.table.proofs.Headers.{under_first}
use Rattle.table.proofs.RowLengths.{row_short}
use Rattle.recording.specs.declared.row.Row.{Row}
use Rattle.recording.specs.declared.reading.Recording.{Recording}
use Rattle.recording.specs.Rows.{no_row}
use Rattle.recording.specs.Reading.{header, columns, max_rows, row_in, is_next_row, rows_from, under_header, recording_of}
use Rattle.recording.specs.Claims.{row_bytes, deciding_bytes, FrontDecides}

-- ---- a line that is no row
line_long : (line : List ℕ) (r : Option (List ℕ)) → row_of columns line ≡ r → row_bytes ≤ length line + 1 → r ≡ None
line_long line None e h = refl
line_long line (Some values) e h = absurd (omega (arith, row_short columns line values e))

-- ---- the rows
module _ (js : List Job) where
  -- one line, by its row; the rows behind it may be read from another text
  abbrev then_row : List Row → Option (List ℕ) → List (List ℕ) → Result Recording Refusal
  then_row before r lines =
      elim r [
        | None ↦ Err MalformedRecording
        | Some values ↦
            let row = row_in js values in
            let rest = rows_from js (before ++ (row ∷ [])) lines in
            cond (is_next_row (length js) (length before) (last_of no_row before) row) rest (Err MalformedRecording)
      ]

  rows_line : (before : List Row) (b : ℕ) (text : List ℕ) → length before < max_rows
      → rows_from js before (lines_of (b ∷ text)) ≡ then_row before (row_of columns (first_line (b ∷ text))) (lines_of (after_line (b ∷ text)))
  unfolding rows_from
  rows_line before b text room = rw (lines_cons b text, lt-ltb (length before) max_rows room)

  rows_full : (before : List Row) (b : ℕ) (text : List ℕ) → max_rows ≤ length before → rows_from js before (lines_of (b ∷ text)) ≡ Err TooManyRows
  unfolding rows_from
  rows_full before b text full = rw (lines_cons b text, le-ltb (length before) max_rows full)

  then_same : (before : List Row) (r : Option (List ℕ)) (a b : List (List ℕ))
      → ((values : List ℕ) → r ≡ Some values → rows_from js (before ++ (row_in js values ∷ [])) a ≡ rows_from js (before ++ (row_in js values ∷ [])) b)
      → then_row before r a ≡ then_row before r b
  then_same before None a b h = refl
  then_same before (Some values) a b h =
      ap (λ (rest : Result Recording Refusal). cond (is_next_row (length js) (length before) (last_of no_row before) (row_in js values)) rest (Err MalformedRecording)) (h values refl)

  then_none : (before : List Row) (r : Option (List ℕ)) (lines : List (List ℕ)) → r ≡ None → then_row before r lines ≡ Err MalformedRecording
  then_none before r lines e = ap (λ (x : Option (List ℕ)). then_row before x lines) e

  -- where k rows may still come, the bytes of so many and one more decide
  abbrev Decided : ℕ → Type 0
  Decided k =
      (before : List Row) (m : ℕ) (rest : List ℕ) → length before + k ≡ max_rows → k * row_bytes < m
      → rows_from js before (lines_of (take m rest)) ≡ rows_from js before (lines_of rest)

  none_more : Decided 0
  none_more before zero rest e h = absurd (omega arith)
  none_more before (suc m) [] e h = refl
  none_more before (suc m) (b ∷ text) e h = rows_full before b (take m text) (omega arith) ∙ sym (rows_full before b text (omega arith))

  one_more : (k : ℕ) → Decided k → Decided (suc k)
  one_more k later before zero rest e h = absurd (omega arith)
  one_more k later before (suc m) [] e h = refl
  one_more k later before (suc m) (b ∷ text) e h =
      let whole = b ∷ text in
      let room : length before < max_rows = omega arith in
      by_order (line_length whole) (suc m)
      (λ fits.
      let f = front (suc m) whole fits in
      rows_line before b (take m text) room
      ∙ ap₂ (λ (line after : List ℕ). then_row before (row_of columns line) (lines_of after)) f.first f.after
      ∙ then_same before (row_of columns (first_line whole)) (lines_of (take (suc m - line_length whole) (after_line whole))) (lines_of (after_line whole))
      (λ values q.
      let row = row_in js values in
      later (before ++ (row ∷ [])) (suc m - line_length whole) (after_line whole)
      (omega (arith, length-append before (row ∷ [])))
      (omega (arith, row_short columns (first_line whole) values q, line_length_lem whole)))
      ∙ sym (rows_line before b text room))
      (λ longer.
      let front_none : row_of columns (first_line (b ∷ take m text)) ≡ None =
      line_long (first_line (b ∷ take m text)) _ refl (omega (arith, ap length (cut (suc m) whole longer), length-take (suc m) whole, line_within whole)) in
      let whole_none : row_of columns (first_line whole) ≡ None = line_long (first_line whole) _ refl (omega (arith, line_length_lem whole)) in
      rows_line before b (take m text) room
      ∙ then_none before _ _ front_none
      ∙ sym (then_none before _ _ whole_none)
      ∙ sym (rows_line before b text room))

  rows_front : (k : ℕ) → Decided k
  rows_front zero = none_more
  rows_front (suc k) = one_more k (rows_front k)

  -- ---- the header
  is_header : List ℕ → Bool
  is_header text = is_line header (first_line text)

  header_short : (text : List ℕ) → is_header text ≡ true → length (first_line text) ≡ length header
  unfolding is_header
  header_short text e = eqb-true (length (first_line text)) (length header) (and_parts e).0

  under_by : (text : List ℕ) → under_header js (lines_of text) ≡ cond (is_header text) (rows_from js [] (lines_of (after_line text))) (Err MalformedRecording)
  unfolding is_header lacks
  under_by text = under_first header (omega arith) refl (rows_from js []) (Err MalformedRecording) text

  under_none : (text : List ℕ) → length header < length (first_line text) → under_header js (lines_of text) ≡ Err MalformedRecording
  under_none text l =
      under_by text
      ∙ ap (λ (b : Bool). cond b (rows_from js [] (lines_of (after_line text))) (Err MalformedRecording)) (never_true (is_header text) (λ t. omega (arith, header_short text t)))

  under_front : (text : List ℕ) → under_header js (lines_of (take deciding_bytes text)) ≡ under_header js (lines_of text)
  unfolding is_header
  under_front text =
      by_order (line_length text) deciding_bytes
      (λ fits.
      let f = front deciding_bytes text fits in
      under_by (take deciding_bytes text)
      ∙ ap₂ (λ (line after : List ℕ). cond (is_line header line) (rows_from js [] (lines_of after)) (Err MalformedRecording)) f.first f.after
      ∙ by_test (is_header text)
      (λ t.
      let rows = rows_front max_rows [] (deciding_bytes - line_length text) (after_line text) (omega arith) (omega (arith, header_short text t, line_length_lem text)) in
      ap (λ (rest : Result Recording Refusal). cond (is_header text) rest (Err MalformedRecording)) rows)
      (λ t. rw t)
      ∙ sym (under_by text))
      (λ longer.
      under_none (take deciding_bytes text) (omega (arith, ap length (cut deciding_bytes text longer), length-take deciding_bytes text, line_within text))
      ∙ sym (under_none text (omega (arith, line_length_lem text))))

pub front_decides : FrontDecides
unfolding recording_of
front_decides js text = ap (on_pass (check_of js) Err) (under_front js text)
