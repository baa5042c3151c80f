-- `Delay::none` answers `no_delay`. Assumes nothing.
use Rattle.completion.specs.declared.answer.Block.{Block}
use Rattle.jobs.specs.Limits.{max_chains}
use Rattle.std.specs.Prelude.{replicate}
use mathlib.Core.Path.{ap}
use Rattle.completion.proofs.answer.Delay.none.Goals as goal

pub returns : goal.returns
returns c = ap (λ (b : Block). record { from = 0; blocks = replicate max_chains b }) c.none-none.ensures
