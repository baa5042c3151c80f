-- A table that is read is an accepted set. Assumes nothing.
use Rattle.std.specs.Prelude.{Option, None, Some, Result, ⊤, Ok, Err}
use Prim.Native.Nat.{ℕ}
use mathlib.Core.Bool.{Bool, true, false, cond}
use mathlib.Core.List.{List, [], ◌∷◌, ◌++◌}
use mathlib.Core.Path.{◌≡◌, refl, sym, ap, ◌∙◌}
use native.Mathlib.Omega.{arith}
use lib.Dec.{leb}
use lib.ListN.{length}
use Rattle.jobs.specs.declared.job.Job.{Job}
use Rattle.jobs.specs.declared.refusal.Refusal.{Refusal}
use Rattle.jobs.specs.declared.refusal.Refusal.TheVariants.{TextTooLong, NotHeader}
use Rattle.jobs.specs.Refusals.{on_pass}
use Rattle.jobs.specs.Jobs.{jobs_of, set_of}
use Rattle.jobs.specs.Checks.{records_check, any_record, check_of}
use Rattle.jobs.proofs.Sets.{jobs_set}
use Rattle.jobs.proofs.Checks.{next_check, records_append, records_none, records_passed, check_passed}
use Rattle.jobs.specs.declared.set.JobSet.{JobSet}
use Rattle.table.specs.Lines.{lines_of, max_columns, row_of, is_line}
use Rattle.table.specs.Tables.{header, max_text, job_of, records_from, under_header, reading_of}
use Rattle.table.proofs.Records.{then_row}

-- a reading that passes answers an accepted set
abbrev Accepts : Result JobSet Refusal → Type 0
Accepts reading = (set : JobSet) → reading ≡ Ok set → check_of (jobs_of set) ≡ Ok tt

-- one record more has passed
passed_more : (before : List Job) (j : Job) → records_check [] before ≡ Ok tt → next_check before j ≡ Ok tt → records_check [] (before ++ (j ∷ [])) ≡ Ok tt
passed_more before j e f =
    records_append [] before (j ∷ []) e ∙ records_passed before j [] f ∙ records_none (before ++ (j ∷ []))

after_check : (o : Result ⊤ Refusal) (rest : Result JobSet Refusal) → (o ≡ Ok tt → Accepts rest) → Accepts (on_pass o Err rest)
after_check (Ok tt) rest f = f refl
after_check (Err x) rest f = λ set p. let z : ◌≡◌ {A = ℕ} 0 1 = cc in absurd (omega arith)

after-row : (r : Option (List ℕ)) (rest : Job → Result JobSet Refusal) → ((j : Job) → Accepts (rest j)) → Accepts (then_row r rest)
after-row (Some values) rest f = f (job_of values)
after-row None rest f = λ set p. let z : ◌≡◌ {A = ℕ} 0 1 = cc in absurd (omega arith)

records_accept : (before : List Job) (lines : List (List ℕ)) → records_check [] before ≡ Ok tt → Accepts (records_from before lines)
unfolding records_from
records_accept before [] e =
    after_check (any_record before) (Ok (set_of before))
    (λ some set p.
    let is : set_of before ≡ set = cc in
    ap check_of (ap jobs_of (sym is) ∙ jobs_set before) ∙ check_passed before (Ok tt) e some)
records_accept before (line ∷ lines) e =
    after-row (row_of max_columns line) _
    (λ j. after_check (next_check before j) (records_from (before ++ (j ∷ [])) lines) (λ f. records_accept (before ++ (j ∷ [])) lines (passed_more before j e f)))

by_header : (b : Bool) (rest other : Result JobSet Refusal) → Accepts rest → Accepts other → Accepts (cond b rest other)
by_header true rest other f g = f
by_header false rest other f g = g

refused_accept : (x : Refusal) → Accepts (Err x)
refused_accept x set p = let z : ◌≡◌ {A = ℕ} 0 1 = cc in absurd (omega arith)

under_accept : (lines : List (List ℕ)) → Accepts (under_header lines)
under_accept [] = refused_accept NotHeader
under_accept (line ∷ lines) =
    by_header (is_line header line) (records_from [] lines) (Err NotHeader) (records_accept [] lines (records_none [])) (refused_accept NotHeader)

pub read_accepted : (text : List ℕ) (set : JobSet) → reading_of text ≡ Ok set → check_of (jobs_of set) ≡ Ok tt
unfolding reading_of
read_accepted text =
    by_header (leb (length text) max_text) (under_header (lines_of text)) (Err TextTooLong) (under_accept (lines_of text)) (refused_accept TextTooLong)

-- ---- what a caller of the reader knows
pub read_passed : (text : List ℕ) {reading : Result JobSet Refusal} (set : JobSet) → reading ≡ reading_of text → reading ≡ Ok set → check_of (jobs_of set) ≡ Ok tt
read_passed text set is e = read_accepted text set (sym is ∙ e)
