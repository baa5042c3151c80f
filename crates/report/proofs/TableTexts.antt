-- The rows of a table's jobs, place by place, and how many bytes they take. Assumes nothing.
use Prim.Native.Nat.{ℕ, ◌+◌, ◌*◌, ◌≤◌, ◌<◌}
use mathlib.Core.List.{List, [], ◌∷◌, ◌++◌, map}
use mathlib.Core.Path.{◌≡◌, sym, ap, ◌∙◌}
use native.Mathlib.Omega.{arith}
use lib.IntN.{ℤ}
use lib.ListN.{length, length-append}
use Rattle.laws.specs.Words.{ascii}
use Rattle.laws.proofs.Tabulate.{map-tabulate, tabulate_list}
use Rattle.decimal.specs.Digits.{signed}
use Rattle.decimal.proofs.Values.{decimal-within}
use Rattle.jobs.specs.declared.job.Job.{Job}
use Rattle.jobs.specs.declared.set.JobSet.{JobSet}
use Rattle.jobs.specs.Jobs.{no_job, jobs_of, job_at}
use Rattle.jobs.proofs.Accepted.{Accepted}
use Rattle.table.specs.Tables.{header}
use Rattle.texts.specs.Lines.{lines_text}
use Rattle.report.specs.Listing.{table_row, table_text}
use Rattle.texts.proofs.Lines.{lines_up_to, lines_within, Narrow, line_within}
use Rattle.texts.proofs.Numbers.{numbered_at}

-- the row of the job at a place
abbrev pub job_row : List Job → ℕ → List ℤ
job_row js n = table_row (job_at js n)

pub lines_set : (s : JobSet) → lines_up_to (job_row s.jobs) s.count ≡ lines_text (map table_row (jobs_of s))
unfolding jobs_of
lines_set s = ap lines_text (sym (map-tabulate table_row 0 s.count (job_at s.jobs)))

lines_list : (js : List Job) → lines_up_to (job_row js) (length js) ≡ lines_text (map table_row js)
lines_list js = ap lines_text (sym (map-tabulate table_row 0 (length js) (job_at js)) ∙ ap (map table_row) (tabulate_list js no_job))

-- ---- how many bytes the jobs of an accepted set take
abbrev pub job_widths : List ℕ
job_widths = 2 ∷ 3 ∷ 10 ∷ 3 ∷ 7 ∷ 7 ∷ 10 ∷ []

module _ (js : List Job) (ok : Accepted js) where
  pub row_narrow : (i : ℕ) → i < length js → Narrow (job_row js i) job_widths
  unfolding signed
  row_narrow i l =
      let j = job_at js i in
      let numbers = numbered_at js ok i in
      let limits = ok.limits i l in (
        numbers.chain,
        (
          numbers.job,
          (
            decimal-within 9 j.release (omega (arith, limits.release)),
            (
              decimal-within 2 j.priority (omega (arith, limits.priority)),
              (
                decimal-within 6 j.least (omega (arith, limits.range, limits.time)),
                (
                  decimal-within 6 j.most (omega (arith, limits.time)),
                  (decimal-within 9 j.deadline (omega (arith, limits.deadline)), tt),
                ),
              ),
            ),
          ),
        ),
      )

  pub table_within : length (table_text js) ≤ length (header ++ ascii "\r\n") + 51 * length js
  unfolding table_text
  table_within =
      omega (
        arith,
        length-append (header ++ ascii "\r\n") (lines_text (map table_row js)),
        ap length (lines_list js),
        lines_within (job_row js) 51 (length js) (λ i l. line_within (job_row js i) job_widths (row_narrow i l)),
      )
