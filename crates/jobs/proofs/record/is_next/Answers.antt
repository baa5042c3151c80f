-- `is_next` answers `is_next`: each return is the case that its tests chose. Assumes nothing.
use Rattle.jobs.specs.Checks.{is_next}
use borrow.Author.Tests.{eq-eqb, ne_eqb}
use Rattle.jobs.proofs.record.is_next.Goals as goal

pub returns-then-n-eq0 : goal.returns-then-n-eq0
unfolding is_next
returns-then-n-eq0 c = simp (eq-eqb _ _ c.if-n-eq0.true)

pub returns-then-job-last : goal.returns-then-job-last
unfolding is_next
returns-then-job-last c =
    simp (ne_eqb _ _ c.if-n-eq0.false, eq-eqb _ _ c.if-job-last.true)
    c.is_one_more.ensures

pub returns : goal.returns
unfolding is_next
returns c =
    simp (ne_eqb _ _ c.if-n-eq0.false, ne_eqb _ _ c.if-job-last.false, c.is_one_more-2.ensures)
