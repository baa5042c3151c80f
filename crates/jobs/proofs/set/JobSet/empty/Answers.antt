-- `empty` answers the set of no jobs. Assumes nothing.
use Rattle.jobs.specs.Jobs.{set_of}
use Rattle.jobs.specs.Limits.{max_jobs}
use Rattle.jobs.specs.declared.job.Job.{Job}
use Rattle.jobs.specs.declared.set.JobSet.{JobSet}
use lib.ListN.{replicate}
use mathlib.Core.Path.{ap}
use Rattle.jobs.proofs.set.JobSet.empty.Goals as goal

-- a set with the same job in all its places
filled : Job → JobSet
filled j = record { jobs = replicate max_jobs j; count = 0 }

pub returns : goal.returns
unfolding set_of filled
returns c = ap filled c.none-none.ensures
