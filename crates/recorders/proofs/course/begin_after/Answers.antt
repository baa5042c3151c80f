-- `begin_after` meets its contract. Assumes nothing.
use borrow.Author.Tests.{eq-eqb, ne_eqb}
use Rattle.recorders.proofs.course.begin_after.Goals as goal

pub returns-then-total-eq0 : goal.returns-then-total-eq0
returns-then-total-eq0 c = rw (eq-eqb _ _ c.if-total-eq0.true)

pub returns : goal.returns
returns c = rw (ne_eqb _ _ c.if-total-eq0.false)
