-- The lines of the trace text: under the header of a recording, a line for each row. Assumes nothing.
--   numbers_of   the four numbers of a row
--   row_line     its line
use Prim.Native.Nat.{ℕ}
use mathlib.Core.List.{List, [], ◌∷◌, ◌++◌, map, map-append}
use mathlib.Core.Path.{◌≡◌, refl, sym, ap, ◌∙◌}
use lib.IntN.{ℤ, pos}
use lib.ListN.{length}
use Rattle.decimal.proofs.Absence.{lacks}
use Rattle.jobs.specs.declared.job.Job.{Job}
use Rattle.jobs.specs.Jobs.{job_at}
use Rattle.table.specs.Lines.{lines_of}
use Rattle.table.proofs.PlainLines.{lines_plain}
use Rattle.machine.specs.declared.trace.Span.{Span}
use Rattle.machine.specs.Runs.{rows}
use Rattle.texts.specs.Lines.{lines_text}
use Rattle.texts.proofs.Lines.{lines_append}
use Rattle.recording.specs.declared.row.Row.{Row}
use Rattle.recording.specs.Rows.{row}
use Rattle.recording.specs.Reading.{header}
use Rattle.report.specs.Texts.{trace_header}
use Rattle.report.proofs.EntryTexts.{entries_text}
use Rattle.report.proofs.TraceTexts.{span_text, spans_text, rows-spans}
use Rattle.report.proofs.RowsRead.{row_text, lines_rows}
use Rattle.own_trace.specs.Claims.{rows_traced}

module _ (js : List Job) where
  abbrev pub numbers_of : Row → List ℕ
  numbers_of r = (job_at js r.at).chain ∷ (job_at js r.at).job ∷ r.from ∷ r.to ∷ []

  abbrev integers_of : Row → List ℤ
  integers_of r = map pos (numbers_of r)

  abbrev pub row_line : Row → List ℕ
  row_line r = row_text (integers_of r)

  -- the text of spans is that of their rows, the earliest first
  spans-rows : (ss : List Span) → spans_text js ss ≡ lines_text (map integers_of (rows_traced ss))
  unfolding spans_text rows_traced lines_text
  spans-rows [] = refl
  spans-rows (s ∷ ss) =
      let one : List Row = row s.at s.from s.to ∷ [] in
      ap (λ (text : List ℕ). text ++ span_text js s) (spans-rows ss)
      ∙ sym (ap lines_text (map-append integers_of (rows_traced ss) one) ∙ lines_append (map integers_of (rows_traced ss)) (map integers_of one))

  -- the first line is the header of a recording, and each other line a row
  pub trace_lines : (ss : List Span) → lines_of (trace_header ++ entries_text (rows js ss) (length ss)) ≡ header ∷ map row_line (rows_traced ss)
  unfolding lacks
  trace_lines ss =
      lines_plain header (entries_text (rows js ss) (length ss)) refl
      ∙ ap (λ (text : List ℕ). header ∷ lines_of text) (rows-spans js ss ∙ spans-rows ss)
      ∙ ap (λ (lines : List (List ℕ)). header ∷ lines) (lines_rows integers_of (rows_traced ss))
