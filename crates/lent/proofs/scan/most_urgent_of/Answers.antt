-- `most_urgent_of` scans the records of a set that counts no more of them than it has places. Assumes nothing.
use Rattle.jobs.specs.Limits.{max_jobs}
use Rattle.machine.specs.Ticks.{best_up_to}
use borrow.Author.Tests.{le-leb, lt-leb}
use Rattle.lent.proofs.scan.most_urgent_of.Goals as goal

pub returns-then-set-le-MAX_JOBS : goal.returns-then-set-le-MAX_JOBS
returns-then-set-le-MAX_JOBS c = rw (le-leb _ max_jobs c.if-set-le-MAX_JOBS.true) c.most_urgent_counted.ensures

pub returns : goal.returns
unfolding best_up_to
returns c = rw (lt-leb _ max_jobs c.if-set-le-MAX_JOBS.false)
