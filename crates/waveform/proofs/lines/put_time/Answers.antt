-- `put_time` leaves as much of a time's line as fits. Assumes nothing.
use Rattle.decimal.specs.Digits.{decimal}
use Rattle.dumps.proofs.LineTexts.{line_length_lem}
use Rattle.dumps.specs.Dumps.{lines_text, time_line}
use Rattle.laws.proofs.Clipped.{put_none, put-counted}
use mathlib.Core.List.{[], ◌∷◌}
use native.Mathlib.Omega.{arith}
use Rattle.waveform.proofs.lines.put_time.Goals as goal

pub overflow_add-end : goal.overflow_add-end
overflow_add-end c =
    omega (arith, c.requires, line_length_lem (time_line c.args.t), c.put_bytes.ensures.0, c.put_number.ensures.0)

pub overflow_add-result : goal.overflow_add-result
overflow_add-result c =
    omega (
      arith,
      c.requires,
      line_length_lem (time_line c.args.t),
      c.put_bytes.ensures.0,
      c.put_number.ensures.0,
      c.put_bytes-2.ensures.0,
    )

pub returns : goal.returns
unfolding lines_text
returns c =
    let first = put-counted (35 ∷ []) (put_none c.args.out.now c.args.at) c.put_bytes.ensures in
    put-counted (10 ∷ []) (put-counted (decimal c.args.t) first c.put_number.ensures) c.put_bytes-2.ensures
