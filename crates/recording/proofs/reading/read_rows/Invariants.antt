-- `read_rows` answers `rows_from`. The loop's invariant: the lines so far are rows of the recording, and what follows them decides.
-- Assumes nothing.
use Prim.Native.Nat.{◌-◌}
use Rattle.jobs.specs.Jobs.{jobs_of}
use Rattle.recording.proofs.RowsRead.{RowsRead}
use lib.ListN.{length}
use Rattle.recording.proofs.reading.read_rows.Given as goal

abbrev pub invariant-loop-at : goal.invariant-loop-at
invariant-loop-at l = RowsRead (jobs_of l.set) l.rest l.recording l.last l.at

abbrev pub decreases-loop-at : goal.decreases-loop-at
decreases-loop-at l = length l.rest - l.at
