-- `none` answers `no_job`. Assumes nothing.
use mathlib.Core.Path.{refl}
use Rattle.jobs.proofs.job.Job.none.Goals as goal

pub returns : goal.returns
returns c = refl
