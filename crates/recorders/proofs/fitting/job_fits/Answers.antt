-- `job_fits` meets its contract. Assumes nothing.
use Rattle.legality.proofs.Judging.{job_fits_in}
use Rattle.recorders.proofs.fitting.job_fits.Goals as goal

pub returns : goal.returns
unfolding job_fits_in
returns c = rw (← c.figure-total.ensures, ← c.figure-begin.ensures)
