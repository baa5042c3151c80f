-- `jobs_length` answers the length of the jobs' lines. The loop's invariant: the sum is that of the first n rows. Assumes nothing.
use Rattle.laws.proofs.Pieces.{summed_none, summed_more, summed_end}
use Rattle.report.proofs.TableTexts.{job_row, lines_set}
use Rattle.texts.proofs.Lines.{lines_made}
use borrow.Author.Rules.{rules}
use native.Mathlib.Omega.{arith}
use Rattle.report.proofs.listing.jobs_length.Goals as goal

pub loop-n-init : goal.loop-n-init
loop-n-init c = let s = c.args.set in summed_none (lines_made (job_row s.jobs) s.count) 149

pub overflow_add-sum : goal.overflow_add-sum
overflow_add-sum c =
    search (rules, c.line_length-sum.ensures.1, c.loop-n.invariant.within, c.requires)

pub loop-n-preserved : goal.loop-n-preserved
loop-n-preserved c =
    let size = rw c.job_values-values.ensures at c.line_length-sum.ensures.0 in
    summed_more c.loop-n.invariant c.line_length-sum.result c.loop-n-test.true (size, omega (arith, c.line_length-sum.ensures.1))

pub returns : goal.returns
returns c =
    let summed = summed_end c.loop-n.invariant c.loop-n-test.false in
    (rw (lines_set c.args.set) at summed.0, omega (arith, summed.1, c.requires))
