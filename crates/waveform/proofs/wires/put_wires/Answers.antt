-- `put_wires` leaves as much of the declarations as fits. The loop's invariant: those of the first n wires stand. Assumes nothing.
use Rattle.dumps.proofs.LineTexts.{tabulate-made}
use Rattle.dumps.specs.Claims.{max_waveform}
use Rattle.dumps.specs.Dumps.{wire_line}
use Rattle.jobs.proofs.Sets.{job_at_lem}
use Rattle.jobs.specs.Jobs.{jobs_of}
use Rattle.laws.proofs.ClippedPieces.{put_pieces_none, put_pieces_within, put_pieces_more, put_pieces_end, put_pieces_length}
use borrow.Author.Rules.{rules}
use native.Mathlib.Omega.{arith}
use Rattle.waveform.proofs.wires.put_wires.Goals as goal

pub loop-n-init : goal.loop-n-init
loop-n-init c =
    put_pieces_none (tabulate-made (wire_line (jobs_of c.args.set)) c.args.set.count) c.args.out.now c.args.at

pub put_wire-next-requires : goal.put_wire-next-requires
put_wire-next-requires c =
    let l = c.loop-n in
    (omega (arith, c.loop-n-test.true, c.requires.0), rw (job_at_lem c.args.set l.n c.loop-n-test.true) at (put_pieces_within l.invariant max_waveform c.requires.1 c.loop-n-test.true))

pub loop-n-preserved : goal.loop-n-preserved
loop-n-preserved c =
    let l = c.loop-n in
    put_pieces_more l.invariant c.loop-n-test.true (rw (job_at_lem c.args.set l.n c.loop-n-test.true) c.put_wire-next.ensures)

pub shape_of-out : goal.shape_of-out
shape_of-out c = let h = put_pieces_length c.loop-n.invariant in search (rules, h)

pub returns : goal.returns
returns c = put_pieces_end c.loop-n.invariant c.loop-n-test.false
