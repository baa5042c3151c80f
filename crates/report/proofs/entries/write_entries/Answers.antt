-- `write_entries` leaves the rows at the place. The loop's invariant: the first n of them stand there. Assumes nothing.
use Rattle.laws.proofs.Pieces.{pieces_none, pieces_same, pieces_room, pieces_more, pieces_end}
use Rattle.report.proofs.EntryTexts.{part_row}
use Rattle.report.specs.Texts.{entry_row}
use Rattle.texts.proofs.Lines.{lines_made}
use borrow.Author.Rules.{rules}
use Rattle.report.proofs.entries.write_entries.Goals as goal

pub loop-n-init : goal.loop-n-init
loop-n-init c =
    pieces_none (lines_made (entry_row c.args.numbers.now) c.args.count) c.args.out.now c.args.at c.requires.rows_in_bounds

pub overflow_mul-from : goal.overflow_mul-from
overflow_mul-from c = search (rules, c.requires.count_in_bounds)

pub overflow_add-to : goal.overflow_add-to
overflow_add-to c = search (rules, c.requires.count_in_bounds)

pub slice_bounds-write_line-end : goal.slice_bounds-write_line-end
slice_bounds-write_line-end c = search (rules, c.requires.count_in_bounds)

pub write_line-next-requires : goal.write_line-next-requires
write_line-next-requires c =
    rw (part_row c.args.numbers.now c.loop-n.n) (pieces_room c.loop-n.invariant c.loop-n-test.true)

pub loop-n-preserved : goal.loop-n-preserved
loop-n-preserved c =
    pieces_more c.loop-n.invariant c.loop-n-test.true (rw (part_row c.args.numbers.now c.loop-n.n) at c.write_line-next.ensures)

pub shape_of-out : goal.shape_of-out
shape_of-out c = search (rules, pieces_same c.loop-n.invariant)

pub returns : goal.returns
returns c = pieces_end c.loop-n.invariant c.loop-n-test.false
