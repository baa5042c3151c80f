-- The rows of a recording read line by line are those of its lines. Assumes nothing.
--   RowsRead   the lines so far are rows of the recording, and what follows them decides
use Rattle.std.specs.Prelude.{Option, None, Some, Result, Ok, Err}
use Prim.Native.Nat.{ℕ, ◌+◌, ◌≤◌, ◌<◌}
use mathlib.Core.Bool.{Bool, true, false, cond}
use mathlib.Core.List.{List, [], ◌∷◌, ◌++◌}
use mathlib.Core.Path.{◌≡◌, sym, ap, ap₂, ◌∙◌}
use native.Mathlib.Omega.{arith}
use lib.ListN.{length, drop, drop_of_length-le}
use lib.Dec.{ltb}
use borrow.Author.Tests.{le-ltb, lt-ltb}
use Rattle.laws.specs.Words.{last_of, padded}
use Rattle.laws.proofs.Lists.{last_snoc, get_d_padded}
use Rattle.laws.proofs.Lines.{first_line, after_line}
use Rattle.jobs.specs.declared.job.Job.{Job}
use Rattle.jobs.specs.declared.refusal.Refusal.{Refusal}
use Rattle.jobs.specs.declared.refusal.Refusal.TheVariants.{MalformedRecording, TooManyRows}
use Rattle.table.specs.declared.line.Line.{Line}
use Rattle.table.specs.Lines.{lines_of, max_columns, row_of, line_of}
use Rattle.table.proofs.NextLine.{FieldsOf, lines_here, line_forward, line_inside, line_behind, line_read, line_refused}
use Rattle.recording.specs.declared.row.Row.{Row}
use Rattle.recording.specs.declared.reading.Recording.{Recording}
use Rattle.recording.specs.Rows.{no_row}
use Rattle.recording.specs.Reading.{columns, max_rows, row_in, is_next_row, recording_with, rows_from, rows_of}
use Rattle.recording.proofs.Recordings.{rows_with, grown, with_grown}

row-padded : (js : List Job) (values : List ℕ) → row_in js (padded max_columns 0 values) ≡ row_in js values
row-padded js values = simp (get_d_padded max_columns 0 values)

-- what follows a line that is four fields; any other is refused
abbrev then_row : Option (List ℕ) → (List ℕ → Result Recording Refusal) → Result Recording Refusal
then_row r rest = elim r [ None ↦ Err MalformedRecording | Some values ↦ rest values ]

pub record RowsRead (js : List Job) (rest : List ℕ) (recording : Recording) (last : Row) (at : ℕ) : Type 0 where
  pub inside : at ≤ length rest
  pub holds : recording ≡ recording_with (rows_of recording)
  pub before : last ≡ last_of no_row (rows_of recording)
  pub follows : rows_from js (rows_of recording) (lines_of (drop at rest)) ≡ rows_from js [] (lines_of rest)

pub rows_none : (js : List Job) (rest : List ℕ) (recording : Recording) (last : Row) → recording ≡ recording_with [] → last ≡ no_row → RowsRead js rest recording last 0
rows_none js rest recording last e f =
    let empty : rows_of recording ≡ [] = ap rows_of e ∙ rows_with [] in
    record {
      inside = omega arith;
      holds = rw empty e;
      before = rw empty (unfold last_of in f);
      follows = rw empty;
    }

module _ {js : List Job} {rest : List ℕ} {recording : Recording} {last : Row} {at : ℕ} (r : RowsRead js rest recording last at) where
  abbrev rows : List Row
  rows = rows_of recording

  pub rows_count : length rows ≡ recording.count
  rows_count = sym (ap (λ (x : Recording). x.count) r.holds)

  -- ---- no line is left
  pub rows_end : length rest ≤ at → Ok recording ≡ rows_from js [] (lines_of rest)
  unfolding lines_of rows_from
  rows_end h = ap Ok r.holds ∙ ap (λ (t : List ℕ). rows_from js rows (lines_of t)) (sym (drop_of_length-le rest h)) ∙ r.follows

  -- ---- the next line
  module _ (here : at < length rest) where
    abbrev behind : List (List ℕ)
    behind = lines_of (after_line (drop at rest))

    -- what follows the line, where it is four fields
    onward : List ℕ → Result Recording Refusal
    onward values =
        let row = row_in js values in
        let next = rows_from js (rows ++ (row ∷ [])) behind in
        cond (is_next_row (length js) (length rows) (last_of no_row rows) row) next (Err MalformedRecording)

    from_here : cond (ltb (length rows) max_rows) (then_row (row_of columns (first_line (drop at rest))) onward) (Err TooManyRows) ≡ rows_from js [] (lines_of rest)
    unfolding rows_from onward
    from_here = ap (rows_from js rows) (sym (lines_here rest at here)) ∙ r.follows

    pub rows_many : max_rows ≤ recording.count → Err TooManyRows ≡ rows_from js [] (lines_of rest)
    rows_many h =
        let full : ltb (length rows) max_rows ≡ false = le-ltb (length rows) max_rows (omega (arith, rows_count)) in
        sym (ap (λ (b : Bool). cond b (then_row (row_of columns (first_line (drop at rest))) onward) (Err TooManyRows)) full) ∙ from_here

    module _ (room : recording.count < max_rows) where
      from_line : then_row (row_of columns (first_line (drop at rest))) onward ≡ rows_from js [] (lines_of rest)
      from_line =
          let some : ltb (length rows) max_rows ≡ true = lt-ltb (length rows) max_rows (omega (arith, rows_count)) in
          sym (ap (λ (b : Bool). cond b (then_row (row_of columns (first_line (drop at rest))) onward) (Err TooManyRows)) some) ∙ from_here

      module _ {answer : Result Line Refusal} (is-line : answer ≡ line_of columns (drop at rest)) where
        pub rows_malformed : (x : Refusal) → answer ≡ Err x → Err MalformedRecording ≡ rows_from js [] (lines_of rest)
        rows_malformed x e =
            sym (ap (λ (row : Option (List ℕ)). then_row row onward) (line_refused columns (omega arith) (drop at rest) is-line x e).0) ∙ from_line

        module _ {line : Line} (told : answer ≡ Ok line) where
          is_found : FieldsOf columns line (drop at rest)
          is_found = line_read columns (omega arith) (drop at rest) is-line line told

          pub rows_forward : 0 < line.length
          rows_forward = rw is_found.taken (line_forward rest at here)

          pub rows-within : at + line.length ≤ length rest
          rows-within = omega (arith, is_found.taken, line_inside rest at here)

          module _ (row : Row) (is_row : row ≡ row_in js line.values) where
            same_row : row ≡ row_in js is_found.fields
            same_row = is_row ∙ ap (row_in js) is_found.padding ∙ row-padded js is_found.fields

            -- whether the row may come next decides how the reading goes on
            from_row : (b : Bool) → is_next_row (length js) recording.count last row ≡ b
                → cond b (rows_from js (rows ++ (row ∷ [])) behind) (Err MalformedRecording) ≡ rows_from js [] (lines_of rest)
            unfolding onward
            from_row b e =
                let test : is_next_row (length js) (length rows) (last_of no_row rows) (row_in js is_found.fields) ≡ b =
                sym (ap (λ (n : ℕ). is_next_row (length js) n last row) (sym rows_count) ∙ ap₂ (is_next_row (length js) (length rows)) r.before same_row) ∙ e in
                let on : onward is_found.fields ≡ cond b (rows_from js (rows ++ (row ∷ [])) behind) (Err MalformedRecording) =
                ap₂ (λ (t : Bool) (x : Row). cond t (rows_from js (rows ++ (x ∷ [])) behind) (Err MalformedRecording)) test (sym same_row) in
                sym on ∙ sym (ap (λ (o : Option (List ℕ)). then_row o onward) is_found.row) ∙ from_line

            pub rows_refused : is_next_row (length js) recording.count last row ≡ false → Err MalformedRecording ≡ rows_from js [] (lines_of rest)
            rows_refused e = from_row false e

            pub rows_next : is_next_row (length js) recording.count last row ≡ true → RowsRead js rest (grown recording row) row (at + line.length)
            rows_next e =
                let g : grown recording row ≡ recording_with (rows ++ (row ∷ [])) =
                ap (λ (x : Recording). grown x row) r.holds ∙ with_grown rows row (omega (arith, rows_count)) in
                let more : rows_of (grown recording row) ≡ rows ++ (row ∷ []) = ap rows_of g ∙ rows_with (rows ++ (row ∷ [])) in
                let after : drop (at + line.length) rest ≡ after_line (drop at rest) = ap (λ (n : ℕ). drop (at + n) rest) is_found.taken ∙ line_behind rest at here in
                record {
                  inside = rows-within;
                  holds = g ∙ ap (recording_with) (sym more);
                  before = sym (ap (last_of no_row) more ∙ last_snoc rows no_row row);
                  follows = ap₂ (λ (rs : List Row) (t : List ℕ). rows_from js rs (lines_of t)) more after ∙ from_row true e;
                }
