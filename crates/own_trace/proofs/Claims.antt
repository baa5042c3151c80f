-- The claims of specs/Claims, each by the laws that it follows from. Assumes nothing.
use native.Mathlib.Omega.{arith}
use lib.ListN.{length}
use Rattle.jobs.specs.Jobs.{most_times}
use Rattle.theory.specs.Table.{table_of}
use Rattle.machine.specs.Ticks.{last_time}
use Rattle.machine.specs.Runs.{traced}
use Rattle.machine.proofs.RunningTimes.{set_passed}
use Rattle.theory.proofs.Runnable.{last_release}
use Rattle.machine.proofs.Runnable.{runnable}
use Rattle.machine.proofs.SpanOrder.{spans_ordered, spans-within}
use Rattle.machine.proofs.SpanTimes.{spans-ended}
use Rattle.machine.proofs.MostTimes.{most_passed}
use Rattle.machine.proofs.Claims.{claims as Machine·claims}
use Rattle.legality.specs.Recorded.{end_of}
use Rattle.legality.proofs.Claims.{every_recording}
use Rattle.report.specs.Texts.{trace_text}
use Rattle.own_trace.specs.Claims.{EveryTrace, TraceReads, rows_traced}
use Rattle.own_trace.proofs.TracedRows.{traced_order, traced-length, traced_told}
use Rattle.own_trace.proofs.OwnTrace.{traced-complete}
use Rattle.own_trace.proofs.TextRead.{text_reads}

pub every_trace : EveryTrace
every_trace js times passed =
    let t = table_of js in
    let machine = Machine·claims js times passed in
    let runs = runnable js times passed in
    let rows = rows_traced (traced js times) in
    let order = traced_order (traced js times) (spans_ordered t times last_time) in
    let complete = traced-complete t times last_release runs.few runs.released last_time (machine.machine_legal (end_of rows)) machine.run_ends.1 in
    record {
      ordered = order;
      few = omega (arith, traced-length (traced js times), machine.trace_within_twice, runs.few);
      inside = λ i l. (traced_told (length js) last_time (traced js times) (spans-within t times last_time) (spans-ended t times last_time) i l).at;
      is_legal = (every_recording js (set_passed js times passed) rows order).legal_some.1 (t.earliest, times, complete);
    }

pub trace_reads : TraceReads
unfolding trace_text
trace_reads js passed =
    let most = most_passed js passed in
    let own = every_trace js (most_times js) most in
    text_reads js (most_times js) most own.few own.ordered
