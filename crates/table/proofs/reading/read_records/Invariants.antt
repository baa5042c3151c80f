-- `read_records` answers `records_from`. The loop's invariant: the lines so far are records of the set, and what follows them decides.
-- Assumes nothing.
use Prim.Native.Nat.{◌-◌}
use Rattle.table.proofs.Records.{RecordsRead}
use lib.ListN.{length}
use Rattle.table.proofs.reading.read_records.Given as goal

abbrev pub invariant-loop-at : goal.invariant-loop-at
invariant-loop-at l = RecordsRead l.rest l.set l.last l.at

abbrev pub decreases-loop-at : goal.decreases-loop-at
decreases-loop-at l = length l.rest - l.at
