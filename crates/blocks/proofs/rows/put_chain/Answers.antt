-- `put_chain` leaves as much of the row of a job and one chain as fits, nothing of its own. Assumes nothing.
use Rattle.blocks.proofs.RowTexts.{own_text, other_text}
use Rattle.laws.proofs.Clipped.{put_none}
use native.Mathlib.Omega.{arith}
use Rattle.blocks.proofs.rows.put_chain.Goals as goal

pub returns-then-other-job : goal.returns-then-other-job
returns-then-other-job c =
    let a = c.args in
    rw (own_text a.job a.delay a.n (omega (arith, c.if-other-job.true))) (put_none a.out.now a.at)

pub put_row-requires : goal.put_row-requires
put_row-requires c = rw (other_text c.args.job c.args.delay c.args.n c.if-other-job.false) at c.requires.rows_bound

pub returns : goal.returns
returns c = rw (other_text c.args.job c.args.delay c.args.n c.if-other-job.false) c.put_row.ensures
