-- The text of an accepted set's table is read back as that set. Assumes nothing.
use Prim.Native.Nat.{ℕ, ◌≤◌}
use mathlib.Core.List.{List, [], ◌∷◌, map}
use mathlib.Core.Path.{◌≡◌, ap, ◌∙◌}
use native.Mathlib.Omega.{arith}
use lib.ListN.{length}
use Rattle.jobs.specs.declared.job.Job.{Job}
use Rattle.std.specs.Prelude.{Result, ⊤, Ok, Err}
use Rattle.jobs.specs.Refusals.{on_pass}
use Rattle.jobs.specs.Jobs.{set_of, job_at}
use Rattle.jobs.specs.Checks.{records_check, any_record, check_of}
use Rattle.jobs.proofs.Checks.{then_first, then_second}
use Rattle.jobs.proofs.Accepted.{accepted}
use Rattle.table.specs.Tables.{max_text, records_from, reading_of}
use Rattle.table.proofs.ReadBack.{Tells, records_back, header_back}
use Rattle.texts.specs.Lines.{after_commas, lines_text}
use Rattle.report.specs.Texts.{max_bytes}
use Rattle.report.specs.Listing.{table_row, table_text, WriteRead}
use Rattle.texts.proofs.Lines.{Narrow}
use Rattle.report.proofs.RowsRead.{row_text, lines_rows, fields_back}
use Rattle.report.proofs.TableTexts.{job_widths, row_narrow, table_within}
use Rattle.jobs.specs.declared.refusal.Refusal.{Refusal}

-- the numbers of a job, which its row gives back
abbrev job_values : Job → List ℕ
job_values j = j.chain ∷ j.job ∷ j.release ∷ j.priority ∷ j.least ∷ j.most ∷ j.deadline ∷ []

row_back : (j : Job) → Narrow (table_row j) job_widths → Tells (row_text (table_row j)) j
unfolding after_commas
row_back j narrow rest = rw (fields_back (job_values j) job_widths [] narrow (omega arith))

module _ (js : List Job) (passed : check_of js ≡ Ok tt) where
  text_short : length (table_text js) ≤ max_text
  text_short = let ok = accepted js passed in omega (arith, table_within js ok, ok.few)

  text_fits : length (table_text js) ≤ max_bytes
  text_fits = let ok = accepted js passed in omega (arith, table_within js ok, ok.few)

  read_back : reading_of (table_text js) ≡ Ok (set_of js)
  unfolding table_text check_of
  read_back =
      let narrow = row_narrow js (accepted js passed) in
      header_back (lines_text (map table_row js)) text_short
      ∙ ap (records_from []) (lines_rows table_row js)
      ∙ records_back (λ j. row_text (table_row j)) [] js (λ i l. row_back (job_at js i) (narrow i l)) (then_first (records_check [] js) (any_record js) passed)
      ∙ ap (λ (check : Result ⊤ Refusal). on_pass check Err (Ok (set_of js))) (then_second (records_check [] js) (any_record js) passed)

pub write_read : WriteRead
write_read js passed = record { read_back = read_back js passed; short = text_short js passed; fits = text_fits js passed }
