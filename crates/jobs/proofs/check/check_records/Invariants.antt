-- `check_records` answers `records_check` of the set's records. The loop's invariant: those passed so far, and what is still to come decides.
-- Assumes nothing.
use Rattle.jobs.proofs.Checks.{Reached}
use Rattle.jobs.specs.Jobs.{jobs_of}
use Rattle.jobs.proofs.check.check_records.Given as goal

abbrev pub invariant-loop-n : goal.invariant-loop-n
invariant-loop-n l = Reached (jobs_of l.set) l.n l.last
