-- `opened` answers the definition of the same name. Assumes nothing.
use Rattle.theory.proofs.Stretches.{opened}
use borrow.Author.Tests.{le-leb, lt-leb}
use Rattle.completion.proofs.block.opened.Goals as goal

pub returns-then-urgency-target : goal.returns-then-urgency-target
unfolding opened
returns-then-urgency-target c = simp (lt-leb _ _ c.if-urgency-target.true)

pub returns : goal.returns
unfolding opened
returns c = simp (le-leb _ _ c.if-urgency-target.false)
