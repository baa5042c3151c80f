-- `put_blocks` leaves the numbers of the first blocks at the place. The loop's invariant: the first c of them stand there. Assumes nothing.
use Rattle.jobs.specs.Limits.{max_chains}
use lib.ListN.{length}
use mathlib.Core.Path.{◌≡◌}
use Rattle.laws.proofs.Pieces.{pieces_more, pieces_same, pieces_end}
use Rattle.numbers.proofs.Blocks.{blocks_none, block_room}
use borrow.Author.Rules.{rules}
use native.Mathlib.Omega.{arith}
use Rattle.numbers.proofs.delays.put_blocks.Goals as goal

pub loop-c-init : goal.loop-c-init
loop-c-init c = let full : length c.args.blocks ≡ max_chains = search rules in blocks_none _ _ _ _ (omega (arith, c.requires.0, full)) c.requires.1

pub put_block-place-requires : goal.put_block-place-requires
put_block-place-requires c = block_room c.args.blocks c.loop-c.invariant c.loop-c-test.true

pub loop-c-preserved : goal.loop-c-preserved
loop-c-preserved c =
    pieces_more c.loop-c.invariant c.loop-c-test.true c.put_block-place.ensures

pub shape_of-out : goal.shape_of-out
shape_of-out c = let h = pieces_same c.loop-c.invariant in search (rules, h)

pub returns : goal.returns
returns c = pieces_end c.loop-c.invariant c.loop-c-test.false
