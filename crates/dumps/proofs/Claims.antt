-- The theorems of specs/Claims.antt, for every accepted set and running times in range. Assumes nothing.
use Rattle.std.specs.Prelude.{Some, Ok}
use Prim.Native.Nat.{ℕ, ◌≤◌, ◌<◌}
use mathlib.Core.Path.{◌≡◌, ap, ◌∙◌}
use mathlib.Core.List.{List}
use lib.ListN.{length}
use Rattle.jobs.specs.declared.job.Job.{Job}
use Rattle.jobs.specs.Jobs.{job_at}
use Rattle.jobs.proofs.Accepted.{Accepted}
use Rattle.theory.specs.Table.{table_of}
use Rattle.theory.specs.Runs.{Entry, names}
use Rattle.machine.specs.Ticks.{last_time, machine_check}
use Rattle.machine.specs.Runs.{entry, rows, traced}
use Rattle.machine.proofs.RunningTimes.{set_accepted}
use Rattle.machine.proofs.SpanTimes.{EndedBy, spans-ended}
use Rattle.machine.proofs.SpanOrder.{Ordered, Within, spans_ordered, spans-within}
use Rattle.machine.proofs.Claims.{claims as Machine·claims}
use Rattle.dumps.specs.Dumps.{waveform_of}
use Rattle.dumps.specs.Readers.{rows_in, is_high}
use Rattle.dumps.specs.Claims.{max_waveform, EveryWaveform}
use Rattle.dumps.proofs.GivesBack.{dump_gives_back}
use Rattle.dumps.proofs.Held.{high_held, held-names}
use Rattle.dumps.proofs.Fits.{dump_fits}

module _ (js : List Job) (times : List ℕ) (passed : machine_check js times ≡ Ok tt) where
  accepted : Accepted js
  accepted = set_accepted js times passed

  ordered : Ordered (traced js times)
  ordered = spans_ordered (table_of js) times last_time

  within : Within (length js) (traced js times)
  within = spans-within (table_of js) times last_time

  ended : EndedBy last_time (traced js times)
  ended = spans-ended (table_of js) times last_time

  waveform_gives_back : rows_in (waveform_of js times) ≡ Some (rows js (traced js times))
  unfolding waveform_of
  waveform_gives_back = dump_gives_back js accepted (traced js times) ordered within ended

  wire_is_run : (u t : ℕ) → u < length js → t < last_time
      → is_high (waveform_of js times) (job_at js u).chain (job_at js u).job t ≡ names (entry (table_of js) times t) u
  wire_is_run u t l before =
      high_held (waveform_of js times) waveform_gives_back (job_at js u).chain (job_at js u).job t
      ∙ held-names js accepted u t l (traced js times) ordered within
      ∙ ap (λ (e : Entry). names e u) ((Machine·claims js times passed).trace_gives_back t before)

  waveform_fits : length (waveform_of js times) ≤ max_waveform
  unfolding waveform_of
  waveform_fits = dump_fits js accepted (traced js times) ended (Machine·claims js times passed).trace_within_twice

pub claims : EveryWaveform
claims js times passed =
    record {
      waveform_gives_back = waveform_gives_back js times passed;
      wire_is_run = wire_is_run js times passed;
      waveform_fits = waveform_fits js times passed;
    }
