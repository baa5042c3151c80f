-- `leg_of` meets its contract. Assumes nothing.
use Rattle.machine.proofs.Picks.{best_inside}
use mathlib.Core.Path.{sym, ◌∙◌}
use native.Mathlib.Omega.{arith}
use Rattle.machine.proofs.timed.TimedJobs.leg_of.Goals as goal

pub offset_bounds-self-best : goal.offset_bounds-self-best
offset_bounds-self-best c = omega (arith, best_inside _ _ _ _ _ (sym c.in-Some.is ∙ c.best_of.ensures), c.args.self.few)

pub bounds-self-best : goal.bounds-self-best
bounds-self-best c = best_inside _ _ _ _ _ (sym c.in-Some.is ∙ c.best_of.ensures)

pub offset_bounds-state-best : goal.offset_bounds-state-best
offset_bounds-state-best c = omega (arith, best_inside _ _ _ _ _ (sym c.in-Some.is ∙ c.best_of.ensures), c.args.self.few)

pub bounds-state-best : goal.bounds-state-best
bounds-state-best c = omega (arith, best_inside _ _ _ _ _ (sym c.in-Some.is ∙ c.best_of.ensures), c.args.self.few)

pub overflow_sub-rest : goal.overflow_sub-rest
overflow_sub-rest c = c.requires.1 _ (best_inside _ _ _ _ _ (sym c.in-Some.is ∙ c.best_of.ensures))
