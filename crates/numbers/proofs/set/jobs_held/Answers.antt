-- `jobs_held` answers `jobs_held`. Assumes nothing.
use Rattle.numbers.specs.Numbers.{jobs_held}
use native.Mathlib.Omega.{arith}
use Rattle.numbers.proofs.set.jobs_held.Goals as goal

pub returns : goal.returns
unfolding jobs_held
returns c = omega (arith, c.div_ceil.ensures)
