-- `best_of` meets its contract. The loop's invariant: the best is that of the first n jobs. Assumes nothing.
use Rattle.machine.proofs.Picks.{best_step}
use Rattle.machine.specs.Ticks.{best_up_to}
use mathlib.Core.Path.{refl, ◌∙◌}
use native.Mathlib.Omega.{arith}
use Rattle.machine.proofs.timed.TimedJobs.best_of.Goals as goal

pub loop-n-init : goal.loop-n-init
unfolding best_up_to
loop-n-init c = (omega arith, refl)

pub loop-n-preserved : goal.loop-n-preserved
loop-n-preserved c = (omega arith, c.consider-best.ensures ∙ best_step _ _ _ _ _ c.loop-n.invariant.1)
