-- `are_complete` meets its contract. The loop's invariant: the first n jobs are complete. Assumes nothing.
use Rattle.laws.proofs.Every.{every_none, every_next, every_not}
use mathlib.Core.Path.{sym, ◌∙◌}
use native.Mathlib.Omega.{arith}
use Rattle.machine.proofs.timed.TimedJobs.are_complete.Goals as goal

pub loop-n-init : goal.loop-n-init
loop-n-init c = (omega arith, every_none _)

pub returns-then-not-is_complete : goal.returns-then-not-is_complete
returns-then-not-is_complete c = sym (every_not _ _ _ c.loop-n-test.true (sym c.is_complete.ensures ∙ c.if-not-is_complete.true))

pub loop-n-preserved : goal.loop-n-preserved
loop-n-preserved c = (omega arith, every_next _ _ c.loop-n.invariant.1 (sym c.is_complete.ensures ∙ c.if-not-is_complete.false))
