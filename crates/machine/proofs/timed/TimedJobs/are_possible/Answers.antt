-- `are_possible` meets its contract. The loop's invariant: the work and completions of the first n jobs are possible. Assumes nothing.
use Rattle.laws.proofs.Every.{every_none, every_next, every_not}
use Rattle.machine.proofs.Ticking.{not_worked, not_completed, both_possible}
use mathlib.Core.Path.{sym, ◌∙◌}
use native.Mathlib.Omega.{arith}
use Rattle.machine.proofs.timed.TimedJobs.are_possible.Goals as goal

pub loop-n-init : goal.loop-n-init
loop-n-init c = (omega arith, every_none _)

pub returns-then-not-is_work_possible : goal.returns-then-not-is_work_possible
returns-then-not-is_work_possible c = sym (every_not _ _ _ c.loop-n-test.true (not_worked _ _ _ _ (sym c.is_work_possible.ensures ∙ c.if-not-is_work_possible.true)))

pub returns-then-not-is_completion_possible : goal.returns-then-not-is_completion_possible
returns-then-not-is_completion_possible c =
    let works = sym c.is_work_possible.ensures ∙ c.if-not-is_work_possible.false in
    sym (every_not _ _ _ c.loop-n-test.true (not_completed _ _ _ _ works (sym c.is_completion_possible.ensures ∙ c.if-not-is_completion_possible.true)))

pub loop-n-preserved : goal.loop-n-preserved
loop-n-preserved c =
    let works = sym c.is_work_possible.ensures ∙ c.if-not-is_work_possible.false in
    (omega arith, every_next _ _ c.loop-n.invariant.1 (both_possible _ _ _ _ works (sym c.is_completion_possible.ensures ∙ c.if-not-is_completion_possible.false)))
