-- `urgency` answers `urgency_of`. Assumes nothing.
use Rattle.jobs.specs.Jobs.{urgency_of}
use mathlib.Core.Path.{refl}
use Rattle.jobs.proofs.job.Job.urgency.Goals as goal

pub returns : goal.returns
unfolding urgency_of
returns c = refl
