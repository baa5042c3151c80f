-- `start_next` answers `start_next`. Assumes nothing.
use Rattle.theory.proofs.Scans.{start_next}
use borrow.Author.Tests.{le-leb, lt-leb}
use native.Mathlib.Numerals.{add-one}
use Rattle.completion.proofs.taken.start_next.Goals as goal

pub returns-then-urgency-target : goal.returns-then-urgency-target
unfolding start_next
returns-then-urgency-target c = simp (lt-leb _ _ c.if-urgency-target.true) (add-one _)

pub returns : goal.returns
unfolding start_next
returns c = simp (le-leb _ _ c.if-urgency-target.false)
