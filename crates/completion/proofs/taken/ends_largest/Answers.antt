-- `ends_largest` answers both tests. Assumes nothing.
use lib.Dec.{ltb}
use mathlib.Core.Bool.{Bool, ◌&&◌}
use mathlib.Core.Path.{ap}
use Rattle.completion.proofs.taken.ends_largest.Goals as goal

pub returns : goal.returns
returns c = ap (λ (b : Bool). ltb c.args.urgency c.args.target && b) c.is_largest.ensures
