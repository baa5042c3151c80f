-- What is proved of waveforms; proofs/Claims.antt has the proof of all. Assumes nothing.
use Rattle.std.specs.Prelude.{Some, ℕ, ◌*◌, ◌≤◌, ◌<◌, ◌≡◌, List, length, Ok}
use Rattle.jobs.specs.declared.{job.Job.Job}
use Rattle.jobs.specs.{Limits.max_jobs, Jobs.job_at}
use Rattle.theory.specs.{Table.table_of, Runs.names}
use Rattle.machine.specs.{Ticks.last_time, Ticks.machine_check, Runs.entry, Runs.rows, Runs.traced}
use Rattle.dumps.specs.{Dumps.waveform_of, Readers.rows_in, Readers.is_high}

-- The length of a buffer that every waveform fits into.
abbrev pub max_waveform : ℕ
max_waveform = 128 * max_jobs

pub record Claims (js : List Job) (times : List ℕ) : Type 0 where
  -- The spans in which the wires of the dump are 1, in order of time, are the rows of the trace.
  pub waveform_gives_back : rows_in (waveform_of js times) ≡ Some (rows js (traced js times))
  -- A wire is 1 at a time exactly if the machine's entry at that time names its job.
  pub wire_is_run : (u t : ℕ) → u < length js → t < last_time
      → is_high (waveform_of js times) (job_at js u).chain (job_at js u).job t ≡ names (entry (table_of js) times t) u
  -- No waveform is longer than 128 bytes for each job that a set can hold.
  pub waveform_fits : length (waveform_of js times) ≤ max_waveform

-- They hold of every set and running times that pass the checks 4 to 8.
abbrev pub EveryWaveform : Type 0
EveryWaveform = (js : List Job) (times : List ℕ) → machine_check js times ≡ Ok tt → Claims js times
