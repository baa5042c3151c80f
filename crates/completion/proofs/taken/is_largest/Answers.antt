-- `is_largest` tests both. Assumes nothing.
use mathlib.Core.Path.{refl}
use Rattle.completion.proofs.taken.is_largest.Goals as goal

pub returns : goal.returns
returns c = refl
