-- `write_jobs` leaves the jobs' lines at the place. The loop's invariant: the first n of them stand there. Assumes nothing.
use Rattle.laws.proofs.Pieces.{pieces_none, pieces_same, pieces_room, pieces_more, pieces_end}
use Rattle.report.proofs.TableTexts.{job_row, lines_set}
use Rattle.texts.proofs.Lines.{lines_made}
use borrow.Author.Rules.{rules}
use Rattle.report.proofs.listing.write_jobs.Goals as goal

pub loop-n-init : goal.loop-n-init
loop-n-init c =
    let a = c.args in
    pieces_none (lines_made (job_row a.set.jobs) a.set.count) a.out.now a.at (rw (lines_set a.set) c.requires.lines_in_bounds)

pub write_line-next-requires : goal.write_line-next-requires
write_line-next-requires c =
    rw c.job_values-values.ensures (pieces_room c.loop-n.invariant c.loop-n-test.true)

pub loop-n-preserved : goal.loop-n-preserved
loop-n-preserved c =
    pieces_more c.loop-n.invariant c.loop-n-test.true (rw c.job_values-values.ensures at c.write_line-next.ensures)

pub shape_of-out : goal.shape_of-out
shape_of-out c = search (rules, pieces_same c.loop-n.invariant)

pub returns : goal.returns
returns c = rw (lines_set c.args.set) at (pieces_end c.loop-n.invariant c.loop-n-test.false)
