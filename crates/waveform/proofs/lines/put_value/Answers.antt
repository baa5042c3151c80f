-- `put_value` leaves as much of a value's line as fits. Assumes nothing.
use Rattle.dumps.proofs.LineTexts.{line_length_lem}
use Rattle.dumps.specs.Dumps.{lines_text, value_line}
use Rattle.laws.proofs.Clipped.{put_none, put_then, put-counted}
use mathlib.Core.List.{[], ◌∷◌}
use native.Mathlib.Omega.{arith}
use Rattle.waveform.proofs.lines.put_value.Goals as goal

pub put_identifier-end-requires : goal.put_identifier-end-requires
put_identifier-end-requires c =
    (c.requires.0, omega (arith, c.requires.1, line_length_lem (value_line c.args.value c.args.u), c.put_bytes.ensures.0))

pub overflow_add-result : goal.overflow_add-result
overflow_add-result c =
    omega (
      arith,
      c.requires.1,
      line_length_lem (value_line c.args.value c.args.u),
      c.put_bytes.ensures.0,
      c.put_identifier-end.ensures.place,
      c.put_bytes-2.ensures.0,
    )

pub returns : goal.returns
unfolding lines_text
returns c =
    let byte = c.value_byte in
    let first = put-counted (byte.result ∷ []) (put_none c.args.out.now c.args.at) c.put_bytes.ensures in
    let identifier = put_then first c.put_identifier-end.ensures in
    rw (← byte.ensures) (put-counted (10 ∷ []) identifier c.put_bytes-2.ensures)
