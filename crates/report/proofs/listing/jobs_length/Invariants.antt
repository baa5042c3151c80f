-- `jobs_length` answers the length of the jobs' lines. The loop's invariant: the sum is that of the first n rows. Assumes nothing.
use Prim.Native.Nat.{◌-◌}
use Rattle.report.proofs.TableTexts.{job_row}
use Rattle.texts.proofs.Lines.{LinesSummed}
use Rattle.report.proofs.listing.jobs_length.Given as goal

abbrev pub invariant-loop-n : goal.invariant-loop-n
invariant-loop-n l = LinesSummed (job_row l.set.jobs) l.count 149 l.sum l.n
