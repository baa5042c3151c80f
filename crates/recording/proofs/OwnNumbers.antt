-- Of an accepted set a recording is refused with 15 or 16 alone. Assumes nothing.
--   Own   a recording that is refused has one of these numbers
use Rattle.std.specs.Prelude.{Option, None, Some, Result, Ok, Err}
use Prim.Native.Nat.{ℕ}
use mathlib.Core.Path.{◌≡◌}
use mathlib.Core.Bool.{Bool, true, false, cond}
use mathlib.Core.Logic.{◌⊎◌, inl, inr}
use mathlib.Core.List.{List, [], ◌∷◌, ◌++◌}
use native.Mathlib.Omega.{arith}
use lib.Dec.{ltb}
use lib.ListN.{length}
use Rattle.laws.specs.Words.{last_of}
use Rattle.jobs.specs.declared.job.Job.{Job}
use Rattle.jobs.specs.declared.refusal.Refusal.{Refusal}
use Rattle.jobs.specs.declared.refusal.Refusal.TheVariants.{MalformedRecording, TooManyRows}
use Rattle.table.specs.Lines.{lines_of, row_of, is_line}
use Rattle.recording.specs.declared.row.Row.{Row}
use Rattle.recording.specs.declared.reading.Recording.{Recording}
use Rattle.recording.specs.Rows.{no_row}
use Rattle.recording.specs.Reading.{header, columns, max_rows, row_in, is_next_row, recording_with, rows_from, under_header, recording_of}
use Rattle.recording.specs.Claims.{OwnNumbers}

abbrev Own : Result Recording Refusal → Type 0
Own recording = (x : Refusal) → recording ≡ Err x → (x ≡ MalformedRecording) ⊎ (x ≡ TooManyRows)

own_passed : (rows : List Row) → Own (Ok (recording_with rows))
own_passed rows x e = let z : ◌≡◌ {A = ℕ} 0 1 = cc in absurd (omega arith)

own_malformed : Own (Err MalformedRecording)
own_malformed x e = inl cc

own_many : Own (Err TooManyRows)
own_many x e = inr cc

own_either : (b : Bool) (one other : Result Recording Refusal) → Own one → Own other → Own (cond b one other)
own_either true one other f g = f
own_either false one other f g = g

own_row : (r : Option (List ℕ)) (rest : List ℕ → Result Recording Refusal) → ((values : List ℕ) → Own (rest values))
    → Own (elim r [ None ↦ Err MalformedRecording | Some values ↦ rest values ])
own_row (Some values) rest f = f values
own_row None rest f = own_malformed

module _ (js : List Job) where
  own_rows : (before : List Row) (lines : List (List ℕ)) → Own (rows_from js before lines)
  unfolding rows_from
  own_rows before [] = own_passed before
  own_rows before (line ∷ lines) =
      own_either (ltb (length before) max_rows) _ (Err TooManyRows)
      (own_row (row_of columns line) _
      (λ values. own_either (is_next_row (length js) (length before) (last_of no_row before) (row_in js values)) _ (Err MalformedRecording)
      (own_rows (before ++ (row_in js values ∷ [])) lines) own_malformed))
      own_many

  own_under : (lines : List (List ℕ)) → Own (under_header js lines)
  own_under [] = own_malformed
  own_under (line ∷ lines) = own_either (is_line header line) (rows_from js [] lines) (Err MalformedRecording) (own_rows [] lines) own_malformed

pub own_numbers : OwnNumbers
unfolding recording_of
own_numbers js passed text = rw passed (own_under js (lines_of text))
