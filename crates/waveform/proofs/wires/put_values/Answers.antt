-- `put_values` leaves as much of the values as fits. The loop's invariant: those of the first n wires stand. Assumes nothing.
use Rattle.dumps.proofs.LineTexts.{tabulate-made}
use Rattle.dumps.specs.Claims.{max_waveform}
use Rattle.dumps.specs.Dumps.{value_line}
use Rattle.laws.proofs.ClippedPieces.{put_pieces_none, put_pieces_within, put_pieces_more, put_pieces_end, put_pieces_length}
use borrow.Author.Rules.{rules}
use lib.Dec.{eqb}
use native.Mathlib.Omega.{arith}
use Rattle.waveform.proofs.wires.put_values.Goals as goal

pub loop-n-init : goal.loop-n-init
loop-n-init c =
    put_pieces_none (tabulate-made (λ u. value_line (eqb c.args.first u) u) c.args.count) c.args.out.now c.args.at

pub put_value-next-requires : goal.put_value-next-requires
put_value-next-requires c =
    (omega (arith, c.loop-n-test.true, c.requires.0), put_pieces_within c.loop-n.invariant max_waveform c.requires.1 c.loop-n-test.true)

pub loop-n-preserved : goal.loop-n-preserved
loop-n-preserved c =
    put_pieces_more c.loop-n.invariant c.loop-n-test.true c.put_value-next.ensures

pub shape_of-out : goal.shape_of-out
shape_of-out c = let h = put_pieces_length c.loop-n.invariant in search (rules, h)

pub returns : goal.returns
returns c = put_pieces_end c.loop-n.invariant c.loop-n-test.false
