-- `earlier` answers the definition of the same name. Assumes nothing.
use Rattle.theory.proofs.FirstPairs.{earlier}
use borrow.Author.Tests.{eq-eqb, ne_eqb}
use Rattle.completion.proofs.first.earlier.Goals as goal

pub returns-then-value-best : goal.returns-then-value-best
unfolding earlier
returns-then-value-best c = simp (eq-eqb _ _ c.if-value-best.true)

pub returns : goal.returns
unfolding earlier
returns c = simp (ne_eqb _ _ c.if-value-best.false)
