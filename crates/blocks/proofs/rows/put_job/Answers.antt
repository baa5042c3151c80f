-- `put_job` leaves as much of a job's rows as fits. The loop's invariant: those of the first n chains stand.
-- Assumes nothing.
use Rattle.blocks.proofs.RowTexts.{job-made}
use Rattle.blocks.specs.Texts.{max_blocks_text}
use Rattle.laws.proofs.ClippedPieces.{put_pieces_none, put_pieces_within, put_pieces_more, put_pieces_end, put_pieces_length}
use borrow.Author.Rules.{rules}
use native.Mathlib.Omega.{arith}
use Rattle.blocks.proofs.rows.put_job.Goals as goal

pub loop-n-init : goal.loop-n-init
loop-n-init c = put_pieces_none (job-made c.args.job c.args.delay c.args.chains) c.args.out.now c.args.at

pub put_chain-next-requires : goal.put_chain-next-requires
put_chain-next-requires c = record {
  n_lt_max_chains = omega (arith, c.loop-n-test.true, c.requires.0);
  rows_bound = put_pieces_within c.loop-n.invariant max_blocks_text c.requires.1 c.loop-n-test.true;
}

pub loop-n-preserved : goal.loop-n-preserved
loop-n-preserved c = put_pieces_more c.loop-n.invariant c.loop-n-test.true c.put_chain-next.ensures

pub shape_of-out : goal.shape_of-out
shape_of-out c = let h = put_pieces_length c.loop-n.invariant in search (rules, h)

pub returns : goal.returns
returns c = put_pieces_end c.loop-n.invariant c.loop-n-test.false
