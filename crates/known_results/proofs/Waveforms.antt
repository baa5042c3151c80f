-- The definitions give each known waveform, byte for byte and by computation. Assumes nothing.
--   settled_waveform   a waveform is what the ticks up to the end of the run give, where all work is done after them
--   known_waveforms    the table of waveforms is as the definitions have it
use Prim.Native.Nat.{ℕ, ◌≤◌}
use mathlib.Core.Path.{◌≡◌, refl}
use mathlib.Core.Bool.{true}
use mathlib.Core.List.{map}
use native.Mathlib.Omega.{arith}
use lib.ListN.{length}
use Rattle.laws.specs.Words.{every_below, last_of, tabulate}
use Rattle.decimal.specs.Digits.{decimal, digits_up_to}
use Rattle.std.specs.Prelude.{Ok}
use Rattle.jobs.specs.Checks.{is_next, in_limits, record_check, records_check, check_of}
use Rattle.jobs.specs.Jobs.{urgency_of}
use Rattle.theory.specs.Table.{joined, effective_release, table_of}
use Rattle.theory.specs.Runs.{complete, predecessor_complete, ready, times_fit}
use Rattle.machine.specs.Order.{ready_since, outranks}
use Rattle.machine.specs.Ticks.{last_time, all_complete, machine_check, better, best_up_to, pick, next}
use Rattle.machine.specs.Runs.{noted}
use Rattle.machine.proofs.Forward.{onward, carried, trace_carried}
use Rattle.dumps.specs.Identifiers.{identifier_of}
use Rattle.dumps.specs.Dumps.{lines_text, declares, header_lines, runs_first, start_lines, change_lines, dump_of, waveform_of}
use Rattle.known_results.specs.Waveforms.{KnownWaveform, waveform_with, p4_waveform, p2_waveform, p3_waveform, waveforms}
use Rattle.known_results.proofs.Known.{first_and_rest}

settled_waveform : (w : KnownWaveform) (end : ℕ) → machine_check w.0 w.1 ≡ Ok tt → end ≤ last_time
    → all_complete w.1 (carried (table_of w.0) w.1 end).state.work (length w.0) ≡ true
    → dump_of w.0 (carried (table_of w.0) w.1 end).spans ≡ w.2
    → waveform_with w ≡ w
unfolding waveform_with waveform_of
settled_waveform w end passed early done known = rw (trace_carried w.0 w.1 passed end early done, known)

pub known_waveforms : map waveform_with waveforms ≡ waveforms
unfolding urgency_of tabulate last_of is_next in_limits record_check records_check check_of joined effective_release every_below times_fit machine_check complete predecessor_complete ready ready_since outranks better best_up_to pick next noted onward carried dump_of lines_text header_lines start_lines change_lines declares identifier_of decimal digits_up_to runs_first
known_waveforms =
    first_and_rest (settled_waveform p4_waveform 8 refl (omega arith) refl refl)
    (first_and_rest (settled_waveform p2_waveform 245 refl (omega arith) refl refl)
    (first_and_rest (settled_waveform p3_waveform 245 refl (omega arith) refl refl) refl))
