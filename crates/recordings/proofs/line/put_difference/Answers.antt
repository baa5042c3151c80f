-- `put_difference` leaves as much of its line as fits. Assumes nothing.
use Rattle.decimal.specs.Digits.{decimal}
use Rattle.laws.proofs.Clipped.{put_none, put-counted}
use Rattle.laws.specs.Words.{ascii}
use Rattle.recordings.proofs.Fits.{tick_length}
use native.Mathlib.Omega.{arith}
use Rattle.recordings.proofs.line.put_difference.Goals as goal

pub overflow_add-end : goal.overflow_add-end
overflow_add-end c =
    omega (arith, c.requires, tick_length c.args.difference c.in-Some.tick c.in-Some.is, c.put_bytes.ensures.0, c.put_number.ensures.0)

pub overflow_add-result : goal.overflow_add-result
overflow_add-result c =
    omega (
      arith,
      c.requires,
      tick_length c.args.difference c.in-Some.tick c.in-Some.is,
      c.put_bytes.ensures.0,
      c.put_number.ensures.0,
      c.put_bytes-in-Some.ensures.0,
    )

pub returns-in-Some : goal.returns-in-Some
returns-in-Some c =
    let word = put-counted (ascii "difference,") (put_none c.args.out.now c.args.at) c.put_bytes.ensures in
    let tick = put-counted (decimal c.in-Some.tick) word c.put_number.ensures in
    rw c.in-Some.is (put-counted (ascii "\r\n") tick c.put_bytes-in-Some.ensures)

pub returns-in-None : goal.returns-in-None
returns-in-None c =
    let word = put-counted (ascii "difference,") (put_none c.args.out.now c.args.at) c.put_bytes.ensures in
    rw c.in-None.is (put-counted (ascii "none\r\n") word c.put_bytes-in-None.ensures)
