-- `write_jobs` leaves the jobs' lines at the place. The loop's invariant: the first n of them stand there. Assumes nothing.
use Prim.Native.Nat.{◌-◌}
use Rattle.report.proofs.TableTexts.{job_row}
use Rattle.texts.proofs.Lines.{LinesWritten}
use Rattle.report.proofs.listing.write_jobs.Given as goal

abbrev pub invariant-loop-n : goal.invariant-loop-n
invariant-loop-n l = LinesWritten (job_row l.set.jobs) l.count l.initial.out l.at l.out l.next l.n
