-- `in_limits` answers `in_limits`. Assumes nothing.
use Rattle.jobs.specs.Checks.{in_limits}
use mathlib.Core.Path.{refl}
use Rattle.jobs.proofs.values.in_limits.Goals as goal

pub returns : goal.returns
unfolding in_limits
returns c = refl
