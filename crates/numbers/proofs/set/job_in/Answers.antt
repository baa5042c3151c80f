-- `job_in` answers `job_in`. Assumes nothing.
use Rattle.numbers.proofs.Places.{job_read}
use Rattle.numbers.proofs.set.job_in.Goals as goal

pub returns : goal.returns
returns c =
    job_read _ _ _ _ _ _ _ _ _
    c.number_at.ensures
    c.number_at-2.ensures
    c.number_at-3.ensures
    c.number_at-4.ensures
    c.number_at-5.ensures
    c.number_at-6.ensures
    c.number_at-7.ensures
