-- What is read back from a text that was written: the digits of a number as a field, lines that tell jobs as records, and what stands under the header.
-- Nothing here depends on how many columns or records there are. Assumes nothing.
use Prim.Native.Nat.{ℕ, suc, ◌≤◌, ◌<◌}
use mathlib.Core.Bool.{Bool, true, cond}
use mathlib.Core.List.{List, [], ◌∷◌, ◌++◌, map, append_assoc, append-nil}
use mathlib.Core.Path.{◌≡◌, refl, sym, ap, ◌∙◌}
use native.Mathlib.Omega.{arith}
use lib.ListN.{length}
use lib.Seq.{drop_at}
use borrow.Author.Tests.{le-leb, eq-eqb}
use Rattle.laws.specs.Words.{ascii}
use Rattle.laws.proofs.Tests.{and_both}
use Rattle.laws.proofs.Same.{same_refl}
use Rattle.decimal.specs.Digits.{digit_count, decimal}
use Rattle.decimal.specs.Fields.{max_digits, digit_run}
use Rattle.decimal.proofs.RoundTrip.{round_trip}
use Rattle.decimal.proofs.Absence.{lacks}
use Rattle.jobs.specs.declared.job.Job.{Job}
use Rattle.jobs.specs.declared.refusal.Refusal.TheVariants.{TextTooLong, NotHeader}
use Rattle.std.specs.Prelude.{Result, Ok, Err}
use Rattle.jobs.specs.Refusals.{on_pass}
use Rattle.jobs.specs.Jobs.{set_of, job_at}
use Rattle.jobs.specs.Checks.{records_check, any_record}
use Rattle.jobs.proofs.Checks.{then_first, then_second, next_check}
use Rattle.jobs.specs.declared.set.JobSet.{JobSet}
use Rattle.jobs.specs.declared.refusal.Refusal.{Refusal}
use Rattle.table.specs.Lines.{lines_of, max_columns, fields_in, row_of, is_line}
use Rattle.table.specs.Tables.{header, max_text, records_from, under_header, reading_of}
use Rattle.table.proofs.Records.{then_row}
use Rattle.table.proofs.PlainLines.{lines_plain}

-- a comma and a number, with no digit behind it
pub field_back : (k : ℕ) (before : List ℕ) (value : ℕ) (rest : List ℕ) → digit_count value ≤ max_digits → digit_run rest ≡ []
    → fields_in (suc k) before ((44 ∷ decimal value) ++ rest) ≡ fields_in k (before ++ (value ∷ [])) rest
unfolding fields_in
field_back k before value rest h e =
    rw (round_trip value rest h e, drop_at (decimal value) rest (digit_count value) refl)

-- ---- records
-- a line that is the record of a job
abbrev pub Tells : List ℕ → Job → Type 0
Tells line j = (rest : Job → Result JobSet Refusal) → then_row (row_of max_columns line) rest ≡ rest j

-- what follows the record of a job
abbrev following : List Job → List (List ℕ) → Job → Result JobSet Refusal
following before lines j = on_pass (next_check before j) Err (records_from (before ++ (j ∷ [])) lines)

-- what records that all passed are read as
abbrev read_as : List Job → Result JobSet Refusal
read_as js = on_pass (any_record js) Err (Ok (set_of js))

pub records_back : (line_of : Job → List ℕ) (before js : List Job) → ((i : ℕ) → i < length js → Tells (line_of (job_at js i)) (job_at js i)) → records_check before js ≡ Ok tt
    → records_from before (map line_of js) ≡ read_as (before ++ js)
unfolding records_from records_check
records_back line_of before [] h e = ap read_as (sym (append-nil before))
records_back line_of before (j ∷ js) h e =
    let now = next_check before j in
    let later = records_check (before ++ (j ∷ [])) js in
    h 0 (omega arith) (following before (map line_of js))
    ∙ rw (then_first now later e)
    (records_back line_of (before ++ (j ∷ [])) js (λ i l. h (suc i) (omega arith)) (then_second now later e)
    ∙ ap read_as (append_assoc before (j ∷ []) js))

-- ---- the header
same_line : (line : List ℕ) → is_line line line ≡ true
same_line line = and_both _ _ (eq-eqb (length line) (length line) refl) (same_refl (length line) line)

pub header_back : (rest : List ℕ) → length (header ++ ascii "\r\n" ++ rest) ≤ max_text → reading_of (header ++ ascii "\r\n" ++ rest) ≡ records_from [] (lines_of rest)
unfolding reading_of lacks
header_back rest short =
    let text = header ++ ascii "\r\n" ++ rest in
    ap (λ (b : Bool). cond b (under_header (lines_of text)) (Err TextTooLong)) (le-leb (length text) max_text short)
    ∙ ap under_header (lines_plain header rest refl)
    ∙ ap (λ (b : Bool). cond b (records_from [] (lines_of rest)) (Err NotHeader)) (same_line header)
