-- `append` answers `join_of`. The loop's invariant: the new records so far stand numbered behind the old ones, and what is still to come decides.
-- Assumes nothing.
use Rattle.jobs.proofs.Joins.{Joining}
use Rattle.jobs.specs.Jobs.{jobs_of}
use Rattle.jobs.proofs.join.append.Given as goal

abbrev pub invariant-loop-k : goal.invariant-loop-k
invariant-loop-k l = Joining (jobs_of l.fn.old) (jobs_of l.fn.new) l.k l.set l.last
