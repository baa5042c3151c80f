-- The lines of rows, read as a recording, give these rows back: rows in order, no more than a recording may have, of jobs of the table, and with times
-- of no more than ten digits. Assumes an accepted set.
use Rattle.std.specs.Prelude.{Option, None, Some, Result, Ok, Err}
use Prim.Native.Nat.{ℕ, suc, ◌+◌, ◌≤◌, ◌<◌}
use mathlib.Core.Bool.{Bool, true, cond}
use mathlib.Core.List.{List, [], ◌∷◌, ◌++◌, map, append_assoc, append-nil}
use mathlib.Core.Path.{◌≡◌, refl, sym, ap, ◌∙◌}
use native.Mathlib.Omega.{arith}
use lib.IntN.{pos}
use lib.ListN.{length, get_or, length-append}
use borrow.Author.Tests.{lt-ltb, eq-eqb, ne_eqb}
use Rattle.laws.specs.Words.{last_of, same_up_to, every_below}
use Rattle.laws.proofs.Tests.{by_equal, and_both}
use Rattle.laws.proofs.Lists.{last_snoc}
use Rattle.decimal.specs.Digits.{signed}
use Rattle.decimal.proofs.Values.{decimal-within}
use Rattle.jobs.specs.declared.job.Job.{Job}
use Rattle.jobs.specs.declared.refusal.Refusal.{Refusal}
use Rattle.jobs.specs.declared.refusal.Refusal.TheVariants.{MalformedRecording, TooManyRows}
use Rattle.jobs.proofs.Accepted.{Accepted}
use Rattle.jobs.proofs.Places.{place_found}
use Rattle.table.specs.Lines.{row_of}
use Rattle.machine.specs.Ticks.{last_time}
use Rattle.texts.specs.Lines.{after_commas}
use Rattle.texts.proofs.Lines.{Narrow}
use Rattle.texts.proofs.Numbers.{numbered_at}
use Rattle.recording.specs.declared.row.Row.{Row}
use Rattle.recording.specs.declared.reading.Recording.{Recording}
use Rattle.recording.specs.Rows.{row, no_row, follows, next_follows, in_order}
use Rattle.recording.specs.Reading.{header, columns, max_rows, row_in, is_next_row, recording_with, rows_from, under_header}
use Rattle.recording.proofs.Order.{order_parts}
use Rattle.report.proofs.RowsRead.{fields_back}
use Rattle.own_trace.proofs.TextLines.{numbers_of, row_line}
use Rattle.own_trace.proofs.TracedRows.{Told}

-- the digits of a row's numbers
abbrev widths : List ℕ
widths = 2 ∷ 3 ∷ 10 ∷ 10 ∷ []

module _ (js : List Job) (ok : Accepted js) where
  row_narrow : (r : Row) → r.from ≤ last_time → r.to ≤ last_time → Narrow (map pos (numbers_of js r)) widths
  unfolding signed
  row_narrow r from to =
      let numbers = numbered_at js ok r.at in
      (numbers.chain, (numbers.job, (decimal-within 9 r.from (omega arith), (decimal-within 9 r.to (omega arith), tt))))

  -- a line gives its numbers back, and these the row
  numbers_back : (r : Row) → r.from ≤ last_time → r.to ≤ last_time → row_of columns (row_line js r) ≡ Some (numbers_of js r)
  unfolding after_commas
  numbers_back r from to = fields_back (numbers_of js r) widths [] (row_narrow r from to) (omega arith)

  row_back : (r : Row) → r.at < length js → row_in js (numbers_of js r) ≡ r
  row_back r l = ap (λ (u : ℕ). row u r.from r.to) (place_found js ok r.at l)

  -- a row that may come next
  is_next : (before : List Row) (r : Row) → r.at < length js → r.from < r.to → (0 < length before → follows (last_of no_row before) r ≡ true)
      → is_next_row (length js) (length before) (last_of no_row before) r ≡ true
  unfolding is_next_row
  is_next before r at long behind =
      and_both _ _ (and_both _ _ (lt-ltb r.at (length js) at) (lt-ltb r.from r.to long))
      (by_equal (length before) 0
      (λ e. rw (eq-eqb (length before) 0 e) refl)
      (λ ne. rw (ne_eqb (length before) 0 ne) (behind (omega arith))))

  -- what follows a line that is four fields; any other is refused
  abbrev then_row : Option (List ℕ) → (List ℕ → Result Recording Refusal) → Result Recording Refusal
  then_row fields rest = elim fields [ None ↦ Err MalformedRecording | Some values ↦ rest values ]

  -- what follows the row, where it may come next
  abbrev onward : List Row → List (List ℕ) → Bool → Row → Result Recording Refusal
  onward before lines next r = cond next (rows_from js (before ++ (r ∷ [])) lines) (Err MalformedRecording)

  line_read : (before : List Row) (r : Row) (lines : List (List ℕ)) → length before < max_rows → Told (length js) last_time r
      → is_next_row (length js) (length before) (last_of no_row before) r ≡ true → rows_from js before (row_line js r ∷ lines) ≡ rows_from js (before ++ (r ∷ [])) lines
  unfolding rows_from
  line_read before r lines room told next =
      let test = is_next_row (length js) (length before) (last_of no_row before) in
      let rest : List ℕ → Result Recording Refusal = λ values. onward before lines (test (row_in js values)) (row_in js values) in
      ap (λ (b : Bool). cond b (then_row (row_of columns (row_line js r)) rest) (Err TooManyRows)) (lt-ltb (length before) max_rows room)
      ∙ ap (λ (fields : Option (List ℕ)). then_row fields rest) (numbers_back r told.from told.to)
      ∙ ap (λ (x : Row). onward before lines (test x) x) (row_back r told.at)
      ∙ ap (λ (b : Bool). onward before lines b r) next

  -- ---- all lines, after the rows before
  pub lines_read : (before rs : List Row) → length before + length rs ≤ max_rows → ((i : ℕ) → i < length rs → Told (length js) last_time (get_or rs i no_row))
      → in_order rs ≡ true → (0 < length before → next_follows (last_of no_row before) rs ≡ true)
      → rows_from js before (map (row_line js) rs) ≡ Ok (recording_with (before ++ rs))
  unfolding rows_from next_follows
  lines_read before [] few told order behind = ap (λ (rows : List Row). Ok (recording_with rows)) (sym (append-nil before))
  lines_read before (r ∷ rs) few told order behind =
      let parts = order_parts r rs order in
      let first = told 0 (omega arith) in
      line_read before r (map (row_line js) rs) (omega arith) first (is_next before r first.at parts.0 behind)
      ∙ lines_read (before ++ (r ∷ [])) rs (omega (arith, length-append before (r ∷ []))) (λ i l. told (suc i) (omega arith)) parts.2
      (λ Some. rw (last_snoc before no_row r) parts.1)
      ∙ ap (λ (rows : List Row). Ok (recording_with rows)) (append_assoc before (r ∷ []) rs)

-- ---- the lines under the header
pub header_read : (js : List Job) (lines : List (List ℕ)) → under_header js (header ∷ lines) ≡ rows_from js [] lines
unfolding same_up_to every_below
header_read js lines = refl
