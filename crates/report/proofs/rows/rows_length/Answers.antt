-- `rows_length` answers the length of the rows. The loop's invariant: the sum is that of the first n rows. Assumes nothing.
use Rattle.laws.proofs.Pieces.{summed_none, summed_more, summed_end}
use Rattle.report.proofs.RowTexts.{integers}
use Rattle.report.proofs.RowsTexts.{figure_row}
use Rattle.texts.proofs.Lines.{line_text, lines_made}
use borrow.Author.Rules.{rules}
use lib.ListN.{length}
use mathlib.Core.Path.{◌≡◌, ap, ◌∙◌}
use native.Mathlib.Omega.{arith}
use Rattle.report.proofs.rows.rows_length.Goals as goal

pub loop-n-init : goal.loop-n-init
loop-n-init c = let a = c.args in summed_none (lines_made (figure_row a.set a.figures) a.set.count) 129

pub overflow_add-sum : goal.overflow_add-sum
overflow_add-sum c =
    search (rules, c.row_length-sum.ensures.1, c.loop-n.invariant.within, c.requires)

pub loop-n-preserved : goal.loop-n-preserved
loop-n-preserved c =
    let row_is : c.row_length-sum.result ≡ length (line_text (figure_row c.args.set c.args.figures c.loop-n.n)) = (c.row_length-sum.ensures.0 ∙ ap (λ r. length (line_text (integers r))) c.row_of-row.ensures) in
    summed_more c.loop-n.invariant c.row_length-sum.result c.loop-n-test.true (row_is, c.row_length-sum.ensures.1)

pub returns : goal.returns
returns c =
    let summed = summed_end c.loop-n.invariant c.loop-n-test.false in
    (summed.0, omega (arith, summed.1, c.requires))
