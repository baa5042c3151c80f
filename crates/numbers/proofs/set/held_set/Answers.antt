-- `held_set` answers `held_set`. Assumes nothing.
use Rattle.numbers.specs.Numbers.{set_in}
use mathlib.Core.Path.{ap, ◌∙◌}
use Rattle.numbers.proofs.set.held_set.Goals as goal

pub returns : goal.returns
returns c = c.set_in.ensures ∙ ap (set_in c.args.numbers.now) c.jobs_held.ensures
