-- What the writer answers and leaves: where the table is refused, where a recording is, and where the text is written. Assumes nothing.
use Rattle.std.specs.Prelude.{Result, Ok, Err}
use Prim.Native.Nat.{ℕ}
use mathlib.Core.List.{List}
use mathlib.Core.Path.{◌≡◌, refl, sym, ◌∙◌}
use Rattle.laws.specs.Words.{written}
use Rattle.jobs.specs.declared.refusal.Refusal.{Refusal}
use Rattle.jobs.specs.declared.set.JobSet.{JobSet}
use Rattle.jobs.specs.Jobs.{jobs_of}
use Rattle.table.specs.Tables.{reading_of}
use Rattle.texts.specs.Answers.{answer_to}
use Rattle.recorders.specs.declared.compare.Compared.{Compared}
use Rattle.recorders.specs.Comparing.{compared_of}
use Rattle.recordings.specs.Texts.{compared_text, comparison_answer, comparison_left}

module _ (table first second buffer : List ℕ) {reading : Result JobSet Refusal} (is : reading ≡ reading_of table) where
  -- an answer, and what the buffer holds after it
  abbrev pub Answers : Result ℕ Refusal → List ℕ → Type 0
  Answers answer after = (answer ≡ comparison_answer table first second buffer) × (after ≡ comparison_left table first second buffer)

  pub table_refused : {refusal : Refusal} → reading ≡ Err refusal → Answers (Err refusal) buffer
  unfolding comparison_answer comparison_left
  table_refused e = let told = sym is ∙ e in (rw told refl, rw told refl)

  module _ (set : JobSet) (passed : reading ≡ Ok set) {made : Result Compared Refusal} (is-made : made ≡ compared_of (jobs_of set) first second) where
    pub recording_refused : {refusal : Refusal} → made ≡ Err refusal → Answers (Err refusal) buffer
    unfolding comparison_answer comparison_left
    recording_refused e = let told = sym is ∙ passed in let why = sym is-made ∙ e in (rw (told, why) refl, rw (told, why) refl)

    pub text_written : (compared : Compared) → made ≡ Ok compared → {answer : Result ℕ Refusal} {after : List ℕ}
        → (answer ≡ answer_to (compared_text compared) buffer) × (after ≡ written (compared_text compared) buffer)
        → Answers answer after
    unfolding compared_text comparison_answer comparison_left
    text_written compared e done = let told = sym is ∙ passed in let what = sym is-made ∙ e in (rw (told, what) done.0, rw (told, what) done.1)
