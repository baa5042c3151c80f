-- `not_before` answers `not_before`. Assumes nothing.
use Rattle.theory.proofs.Predecessors.{not_before}
use borrow.Author.Tests.{eq-eqb, ne_eqb}
use Rattle.completion.proofs.predecessor.not_before.Goals as goal

pub returns-then-last-chain : goal.returns-then-last-chain
unfolding not_before
returns-then-last-chain c = simp (eq-eqb _ _ c.if-last-chain.true) c.max.ensures

pub returns : goal.returns
unfolding not_before
returns c = simp (ne_eqb _ _ c.if-last-chain.false)
