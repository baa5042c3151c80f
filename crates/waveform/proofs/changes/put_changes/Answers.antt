-- `put_changes` leaves as much of the changes as fits. The loop's invariant: those of the first n entries stand, and `last` is their last time. Assumes nothing.
use Rattle.dumps.proofs.LineTexts.{changes_made}
use Rattle.dumps.specs.Claims.{max_waveform}
use Rattle.jobs.specs.Jobs.{jobs_of}
use Rattle.laws.proofs.ClippedPieces.{put_pieces_none, put_pieces_within, put_pieces_more, put_pieces_end, put_pieces_length}
use Rattle.waveform.proofs.Spans.{last_none, last-next}
use borrow.Author.Rules.{rules}
use Rattle.waveform.proofs.changes.put_changes.Goals as goal

pub loop-n-init : goal.loop-n-init
loop-n-init c =
    let js = jobs_of c.args.set in
    let numbers = c.args.numbers.now in
    (put_pieces_none (changes_made js numbers c.args.entries) c.args.out.now c.args.at, last_none js numbers)

pub put_span-next-requires : goal.put_span-next-requires
put_span-next-requires c =
    let l = c.loop-n in
    let span = c.span_at-span.ensures in
    (span.1, rw (span.0, l.invariant.1) (put_pieces_within l.invariant.0 max_waveform c.requires.entries_bound c.loop-n-test.true))

pub loop-n-preserved : goal.loop-n-preserved
loop-n-preserved c =
    let l = c.loop-n in
    let span = c.span_at-span in (
      put_pieces_more l.invariant.0 c.loop-n-test.true (rw (span.ensures.0, l.invariant.1) at c.put_span-next.ensures),
      last-next (jobs_of c.args.set) c.args.numbers.now l.n span.result span.ensures.0,
    )

pub shape_of-out : goal.shape_of-out
shape_of-out c = let h = put_pieces_length c.loop-n.invariant.0 in search (rules, h)

pub returns : goal.returns
returns c = put_pieces_end c.loop-n.invariant.0 c.loop-n-test.false
