-- A text in a lent buffer: what its writer answers, what a program prints. Document 01, "Programs and the C side", and number 9. Assumes nothing.
use Rattle.std.specs.Prelude.{Result, Ok, Err, ℕ, ◌≡◌, ◌<◌, ◌≤◌, ◌⊎◌, cond, List, [], ◌++◌, leb, length}
use Rattle.laws.specs.Words.{ascii, clipped, written, written_length}
use Rattle.decimal.specs.Digits.{decimal}
use Rattle.jobs.specs.{declared.job.Job.Job, declared.refusal.Refusal.Refusal, Refusals.number_of}
use Rattle.table.specs.Tables.{on_table}

-- A buffer and what is left of it where this text was put at its start as far as it has room, with the length of the text between them.
abbrev pub Puts : List ℕ → List ℕ → ℕ → List ℕ → Type 0
Puts text before n after = (n ≡ length text) × (after ≡ clipped before 0 text)

-- What is answered and left by what puts something: refusal 9 where a buffer has less room than is answered in a buffer of no bytes, and else what is put.
abbrev pub PutsIfRoom : (List ℕ → ℕ → List ℕ → Type 0) → List ℕ → Result ℕ Refusal → List ℕ → Type 0
PutsIfRoom puts before answer after =
    (n : ℕ) × puts [] n []
    × (((length before < n) × (answer ≡ Err Refusal.ShortBuffer) × (after ≡ before)) ⊎ ((n ≤ length before) × (answer ≡ Ok n) × ((m : ℕ) × puts before m after)))

-- This text is put each time.
abbrev pub PutsAlways : (List ℕ → ℕ → List ℕ → Type 0) → List ℕ → Type 0
PutsAlways puts text = (before : List ℕ) (n : ℕ) (after : List ℕ) → puts before n after → Puts text before n after

-- How many bytes a text takes in a buffer, or refusal 9.
unfoldable pub answer_to : List ℕ → List ℕ → Result ℕ Refusal
answer_to text buffer = cond (leb (length text) (length buffer)) (Ok (length text)) (Err Refusal.ShortBuffer)

-- The answer to writing a text of a table's jobs into a buffer: the refusals of reading come first, then 9.
unfoldable pub answer_for : (List Job → List ℕ) → List ℕ → List ℕ → Result ℕ Refusal
answer_for text_of table buffer = on_table table Err (λ js. answer_to (text_of js) buffer)

-- The buffer after it, as it was where there is a refusal.
unfoldable pub left_for : (List Job → List ℕ) → List ℕ → List ℕ → List ℕ
left_for text_of table buffer = on_table table (λ refusal. buffer) (λ js. written (text_of js) buffer)

-- The line that a refusal prints: `refused,` and the number.
unfoldable pub refused_text : Refusal → List ℕ
refused_text refusal = ascii "refused," ++ decimal (number_of refusal) ++ ascii "\r\n"

-- How many bytes of a buffer a program prints: the text in it, or the line of a refusal.
abbrev pub print_length : Result ℕ Refusal → List ℕ → ℕ
print_length (Ok n) buffer = n
print_length (Err refusal) buffer = written_length (refused_text refusal) buffer

-- The buffer that it prints them from.
abbrev pub print_left : Result ℕ Refusal → List ℕ → List ℕ
print_left (Ok n) buffer = buffer
print_left (Err refusal) buffer = written (refused_text refusal) buffer

-- The same for a text of a table's jobs: the buffer with this text at its start, or with the line of the refusal.
abbrev pub print_left_for : (List Job → List ℕ) → List ℕ → List ℕ → List ℕ
print_left_for text_of table buffer = print_left (answer_for text_of table buffer) (left_for text_of table buffer)

-- The same for what writes something of a table: what it leaves of this buffer at some table, or the line of its refusal there.
abbrev pub PrintsWritten : (List ℕ → List ℕ → Result ℕ Refusal → List ℕ → Type 0) → List ℕ → List ℕ → Type 0
PrintsWritten writes buffer left = (table : List ℕ) × (answer : Result ℕ Refusal) × (after : List ℕ) × writes table buffer answer after × (left ≡ print_left answer after)
