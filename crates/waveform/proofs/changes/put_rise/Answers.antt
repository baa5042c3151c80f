-- `put_rise` leaves as much of a span's beginning as fits. Assumes nothing.
use Rattle.dumps.proofs.LineTexts.{rise_none, rise_on, rise_new, new-length}
use Rattle.laws.proofs.Clipped.{put_none, put_then}
use native.Mathlib.Omega.{arith}
use Rattle.waveform.proofs.changes.put_rise.Goals as goal

pub returns-then-span-eq0 : goal.returns-then-span-eq0
returns-then-span-eq0 c =
    rw (rise_none c.args.last c.args.span c.if-span-eq0.true) (put_none c.args.out.now c.args.at)

pub put_value-requires : goal.put_value-requires
put_value-requires c =
    (c.requires.0, rw (rise_on c.args.last c.args.span c.if-span-eq0.false c.if-span-last.true) at c.requires.1)

pub returns-then-span-last : goal.returns-then-span-last
returns-then-span-last c =
    rw (rise_on c.args.last c.args.span c.if-span-eq0.false c.if-span-last.true) c.put_value.ensures

pub put_time-value-requires : goal.put_time-value-requires
put_time-value-requires c =
    omega (arith, c.requires.1, new-length c.args.last c.args.span c.if-span-eq0.false c.if-span-last.false)

pub put_value-requires-2 : goal.put_value-requires-2
put_value-requires-2 c =
    (c.requires.0, omega (arith, c.requires.1, new-length c.args.last c.args.span c.if-span-eq0.false c.if-span-last.false, c.put_time-value.ensures.place))

pub returns : goal.returns
returns c =
    let span = c.args.span in
    let time = c.put_time-value.ensures in
    rw (rise_new c.args.last span c.if-span-eq0.false c.if-span-last.false)
    (put_then time c.put_value-2.ensures)
