-- The text of a trace, read as a recording, gives its rows. Assumes a set and running times that have passed, and that the rows are in order and
-- no more than a recording may have.
use Prim.Native.Nat.{ℕ, ◌≤◌}
use mathlib.Core.Bool.{true}
use mathlib.Core.List.{List, [], ◌++◌, map}
use mathlib.Core.Path.{◌≡◌, ap, ◌∙◌}
use native.Mathlib.Omega.{arith}
use lib.ListN.{length}
use Rattle.jobs.specs.declared.job.Job.{Job}
use Rattle.std.specs.Prelude.{Ok}
use Rattle.theory.specs.Table.{table_of}
use Rattle.machine.specs.Ticks.{last_time, machine_check}
use Rattle.machine.specs.Runs.{rows, traced}
use Rattle.machine.proofs.RunningTimes.{set_passed, set_accepted}
use Rattle.machine.proofs.SpanOrder.{spans-within}
use Rattle.machine.proofs.SpanTimes.{spans-ended}
use Rattle.recording.specs.Rows.{in_order}
use Rattle.recording.specs.Reading.{max_rows, recording_with, under_header, recording_of}
use Rattle.report.specs.Texts.{trace_header}
use Rattle.report.proofs.EntryTexts.{entries_text}
use Rattle.own_trace.specs.Claims.{rows_traced}
use Rattle.own_trace.proofs.TracedRows.{traced_told}
use Rattle.own_trace.proofs.TextLines.{row_line, trace_lines}
use Rattle.own_trace.proofs.LinesRead.{lines_read, header_read}

module _ (js : List Job) (times : List ℕ) (passed : machine_check js times ≡ Ok tt) where
  pub text_reads : length (rows_traced (traced js times)) ≤ max_rows → in_order (rows_traced (traced js times)) ≡ true
      → recording_of js (trace_header ++ entries_text (rows js (traced js times)) (length (traced js times)))
      ≡ Ok (recording_with (rows_traced (traced js times)))
  unfolding recording_of
  text_reads few order =
      let t = table_of js in
      let ss = traced js times in
      let told = traced_told (length js) last_time ss (spans-within t times last_time) (spans-ended t times last_time) in
      rw (set_passed js times passed)
      (ap (under_header js) (trace_lines js ss)
      ∙ header_read js (map (row_line js) (rows_traced ss))
      ∙ lines_read js (set_accepted js times passed) [] (rows_traced ss) (omega (arith, few)) told order (λ some. absurd (omega arith)))
