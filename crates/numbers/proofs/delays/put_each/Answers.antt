-- `put_each` leaves the numbers of the first delays at the start. The loop's invariant: the first n of them stand there. Assumes nothing.
use Rattle.laws.proofs.Pieces.{pieces_more, pieces_same, pieces_end}
use Rattle.numbers.proofs.Blocks.{owned_full, delays_none, delay_room}
use borrow.Author.Rules.{rules}
use Rattle.numbers.proofs.delays.put_each.Goals as goal

pub loop-n-init : goal.loop-n-init
loop-n-init c =
    let delays = c.args.delays in
    let owned = c.well_formed.0 in
    delays_none _ delays _ (owned_full delays owned.0 owned.1.1) owned.1.0.1 _ c.requires

pub put_delay-at-requires : goal.put_delay-at-requires
put_delay-at-requires c =
    let delays = c.args.delays in
    let owned = c.well_formed.0 in
    (c.requires.1, delay_room _ delays _ (owned_full delays owned.0 owned.1.1) owned.1.0.1 c.requires.0 c.requires.1 c.loop-n.invariant c.loop-n-test.true)

pub loop-n-preserved : goal.loop-n-preserved
loop-n-preserved c =
    pieces_more c.loop-n.invariant c.loop-n-test.true c.put_delay-at.ensures

pub shape_of-out : goal.shape_of-out
shape_of-out c = let h = pieces_same c.loop-n.invariant in search (rules, h)

pub returns : goal.returns
returns c = (pieces_end c.loop-n.invariant c.loop-n-test.false).1
