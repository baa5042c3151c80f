-- `write_columns` leaves the columns at the place. The loop's invariant: the first k of them stand there. Assumes nothing.
use Rattle.laws.proofs.Pieces.{pieces_same, pieces_room, pieces_more}
use Rattle.report.proofs.ColumnWrites.{columns_none, columns-end}
use borrow.Author.Rules.{rules}
use Rattle.report.proofs.columns.write_columns.Goals as goal

pub loop-k-init : goal.loop-k-init
loop-k-init c = columns_none _ _ _ c.requires

pub write_column-next-requires : goal.write_column-next-requires
write_column-next-requires c = pieces_room c.loop-k.invariant c.loop-k-test.true

pub loop-k-preserved : goal.loop-k-preserved
loop-k-preserved c = pieces_more c.loop-k.invariant c.loop-k-test.true c.write_column-next.ensures

pub shape_of-out : goal.shape_of-out
shape_of-out c = let h = pieces_same c.loop-k.invariant in search (rules, h)

pub returns : goal.returns
returns c = columns-end _ c.loop-k.invariant c.loop-k-test.false
