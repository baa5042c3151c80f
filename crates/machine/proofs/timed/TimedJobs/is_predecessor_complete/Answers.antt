-- `is_predecessor_complete` meets its contract. Assumes nothing.
use Rattle.machine.proofs.Readiness.{predecessor_apart, predecessor_of}
use Rattle.theory.proofs.Legal.{predecessor_first}
use mathlib.Core.Path.{sym, ◌∙◌}
use native.Mathlib.Omega.{arith}
use Rattle.machine.proofs.timed.TimedJobs.is_predecessor_complete.Goals as goal

pub returns-then-at-eq0 : goal.returns-then-at-eq0
returns-then-at-eq0 c = sym (rw c.if-at-eq0.true (predecessor_first _ _ _))

pub returns-then-figure : goal.returns-then-figure
returns-then-figure c = sym (predecessor_apart _ _ _ _ (omega arith) (rw (c.figure.ensures, c.figure-2.ensures) at c.if-figure.true))

pub returns : goal.returns
returns c = c.is_complete.ensures ∙ sym (predecessor_of _ _ _ _ (omega arith) (sym c.figure.ensures ∙ c.if-figure.false ∙ c.figure-2.ensures))
