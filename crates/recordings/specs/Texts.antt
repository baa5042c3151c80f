-- The text of a comparison of two recordings. Document 02, R-5. Assumes nothing.
--   legal_line          whether a recording is legal
--   difference_line     the first tick at which they differ
--   compared_text       the three lines
--   comparison_answer   what its writer answers
--   comparison_left     what the buffer holds after it
use Rattle.std.specs.Prelude.{Option, None, Some, IfSome, Result, Err, ℕ, ◌^◌, ◌≤◌, ◌<◌, Bool, cond, List, ◌++◌, length}
use Rattle.laws.specs.Words.{ascii, written}
use Rattle.decimal.specs.Digits.{decimal}
use Rattle.jobs.specs.Refusals.{on_ok}
use Rattle.table.specs.Tables.{on_table}
use Rattle.texts.specs.{Answers.answer_to}
use Rattle.recorders.specs.{declared.compare.Compared.Compared, Comparing.compared_of}
use Rattle.jobs.specs.declared.refusal.Refusal.{Refusal}

-- The line of a recording: its name, and `legal` or `illegal`.
abbrev pub legal_line : List ℕ → Bool → List ℕ
legal_line name legal = name ++ cond legal (ascii ",legal\r\n") (ascii ",illegal\r\n")

-- The tick of a difference, or `none`.
abbrev pub difference_word : Option ℕ → List ℕ
difference_word (Some tick) = decimal tick
difference_word None = ascii "none"

-- The line of the difference.
abbrev pub difference_line : Option ℕ → List ℕ
difference_line difference = ascii "difference," ++ difference_word difference ++ ascii "\r\n"

-- The text of a comparison.
unfoldable pub compared_text : Compared → List ℕ
compared_text compared =
    legal_line (ascii "first") compared.first ++ legal_line (ascii "second") compared.second ++ difference_line compared.difference

-- The answer to comparing two recordings of a table's jobs in a buffer: the refusals of reading the table, those of the recordings, then 9.
unfoldable pub comparison_answer : List ℕ → List ℕ → List ℕ → List ℕ → Result ℕ Refusal
comparison_answer table first second buffer =
    on_table table Err (λ js. on_ok (compared_of js first second) Err (λ compared. answer_to (compared_text compared) buffer))

-- The buffer after it, as it was where there is a refusal.
unfoldable pub comparison_left : List ℕ → List ℕ → List ℕ → List ℕ → List ℕ
comparison_left table first second buffer =
    on_table table (λ refusal. buffer) (λ js. on_ok (compared_of js first second) (λ refusal. buffer) (λ compared. written (compared_text compared) buffer))

-- The length of the buffer that the program lends.
abbrev pub max_compared_text : ℕ
max_compared_text = 64

-- `compared_fits`: such a buffer has room for the text of every comparison, whose tick, where there is one, is a word, so that none is refused with 9.
abbrev pub ComparedFits : Type 0
ComparedFits = (compared : Compared) → IfSome compared.difference (λ tick. tick < 2 ^ 64) → length (compared_text compared) ≤ max_compared_text
