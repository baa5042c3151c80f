-- `put_name` leaves as much of a wire's name as fits. Assumes nothing.
use Prim.Native.Nat.{◌+◌, ◌≤◌}
use Rattle.decimal.specs.Digits.{decimal}
use Rattle.dumps.proofs.LineTexts.{name_length}
use Rattle.dumps.specs.Claims.{max_waveform}
use Rattle.laws.proofs.Clipped.{put_none, put-counted}
use Rattle.laws.specs.Words.{ascii}
use lib.ListN.{length}
use native.Mathlib.Omega.{arith}
use Rattle.waveform.proofs.lines.put_name.Goals as goal

pub overflow_add-letter : goal.overflow_add-letter
overflow_add-letter c =
    let letter_room : (c.args.at + c.put_bytes.result) + c.put_number.result + 1 + length (decimal c.args.number) ≤ max_waveform = omega (arith, c.requires, name_length c.args.chain c.args.number, c.put_bytes.ensures.0, c.put_number.ensures.0) in
    omega (arith, letter_room)

pub overflow_add-second : goal.overflow_add-second
overflow_add-second c =
    let letter_room : (c.args.at + c.put_bytes.result) + c.put_number.result + 1 + length (decimal c.args.number) ≤ max_waveform = omega (arith, c.requires, name_length c.args.chain c.args.number, c.put_bytes.ensures.0, c.put_number.ensures.0) in
    omega (arith, letter_room, c.put_bytes-2.ensures.0)

pub overflow_add-result : goal.overflow_add-result
overflow_add-result c =
    let letter_room : (c.args.at + c.put_bytes.result) + c.put_number.result + 1 + length (decimal c.args.number) ≤ max_waveform = omega (arith, c.requires, name_length c.args.chain c.args.number, c.put_bytes.ensures.0, c.put_number.ensures.0) in
    omega (arith, letter_room, c.put_bytes-2.ensures.0, c.put_number-2.ensures.0)

pub returns : goal.returns
returns c =
    let first = put-counted (ascii "c") (put_none c.args.out.now c.args.at) c.put_bytes.ensures in
    let chain = put-counted (decimal c.args.chain) first c.put_number.ensures in
    let second = put-counted (ascii "j") chain c.put_bytes-2.ensures in
    put-counted (decimal c.args.number) second c.put_number-2.ensures
