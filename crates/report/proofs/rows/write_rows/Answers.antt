-- `write_rows` leaves the rows at the place. The loop's invariant: the first n of them stand there. Assumes nothing.
use Rattle.laws.proofs.Pieces.{pieces_none, pieces_same, pieces_room, pieces_more, pieces_end}
use Rattle.report.proofs.RowsTexts.{figure_row}
use Rattle.texts.proofs.Lines.{lines_made}
use borrow.Author.Rules.{rules}
use Rattle.report.proofs.rows.write_rows.Goals as goal

pub loop-n-init : goal.loop-n-init
loop-n-init c = let a = c.args in pieces_none (lines_made (figure_row a.set a.figures) a.set.count) a.out.now a.at c.requires.rows_in_bounds

pub write_row-next-requires : goal.write_row-next-requires
write_row-next-requires c =
    rw c.row_of-row.ensures (pieces_room c.loop-n.invariant c.loop-n-test.true)

pub loop-n-preserved : goal.loop-n-preserved
loop-n-preserved c =
    pieces_more c.loop-n.invariant c.loop-n-test.true (rw c.row_of-row.ensures at c.write_row-next.ensures)

pub shape_of-out : goal.shape_of-out
shape_of-out c = search (rules, pieces_same c.loop-n.invariant)

pub returns : goal.returns
returns c = pieces_end c.loop-n.invariant c.loop-n-test.false
