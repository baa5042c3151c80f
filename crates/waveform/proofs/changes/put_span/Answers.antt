-- `put_span` leaves as much of a span's changes as fits. Assumes nothing.
use Rattle.dumps.proofs.LineTexts.{span_text, span_length}
use Rattle.laws.proofs.Clipped.{put_then}
use native.Mathlib.Omega.{arith}
use Rattle.waveform.proofs.changes.put_span.Goals as goal

pub put_rise-time-requires : goal.put_rise-time-requires
put_rise-time-requires c = (c.requires.0, omega (arith, c.requires.1, span_length c.args.last c.args.span))

pub put_time-value-requires : goal.put_time-value-requires
put_time-value-requires c =
    omega (arith, c.requires.1, span_length c.args.last c.args.span, c.put_rise-time.ensures.place)

pub put_value-requires : goal.put_value-requires
put_value-requires c =
    (c.requires.0, omega (arith, c.requires.1, span_length c.args.last c.args.span, c.put_rise-time.ensures.place, c.put_time-value.ensures.place))

pub returns : goal.returns
returns c =
    let span = c.args.span in
    let rise = c.put_rise-time.ensures in
    let time = put_then rise c.put_time-value.ensures in
    rw (span_text c.args.last span) (put_then time c.put_value.ensures)
