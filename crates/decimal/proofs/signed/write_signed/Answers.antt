-- `decimal::signed::write_signed` meets its contract: the digits after the sign fit where the whole text does.
-- Assumes nothing.
use Rattle.decimal.proofs.Signs.{text_below, text_else}
use Rattle.decimal.proofs.Values.{decimal_some}
use Rattle.decimal.proofs.Writing.{writes_short, byte_room, byte_short, byte_written}
use Rattle.decimal.specs.Digits.{decimal}
use mathlib.Core.List.{◌∷◌}
use native.Mathlib.Omega.{arith}
use Rattle.decimal.proofs.signed.write_signed.Goals as goal

pub returns-then-rest-eq0 : goal.returns-then-rest-eq0
returns-then-rest-eq0 c =
    let size = c.magnitude-size.result in
    let buffer = c.args.rest.now in
    rw (text_below c.ranges.value c.is_negative.ensures c.magnitude-size.ensures c.if-is_negative.true) (writes_short (45 ∷ decimal size) buffer (omega arith))

pub returns-then-count-eq0 : goal.returns-then-count-eq0
returns-then-count-eq0 c =
    let size = c.magnitude-size.result in
    let buffer = c.args.rest.now in
    rw (text_below c.ranges.value c.is_negative.ensures c.magnitude-size.ensures c.if-is_negative.true) (byte_short 45 (decimal size) buffer (omega arith) (decimal_some size) c.write_unsigned-count.ensures c.if-count-eq0.true)

pub overflow_add-result : goal.overflow_add-result
overflow_add-result c =
    let size = c.magnitude-size.result in
    let buffer = c.args.rest.now in
    omega (arith, byte_room 45 (decimal size) buffer (omega arith) c.write_unsigned-count.ensures)

pub returns-then-is_negative : goal.returns-then-is_negative
returns-then-is_negative c =
    let size = c.magnitude-size.result in
    let buffer = c.args.rest.now in
    rw (text_below c.ranges.value c.is_negative.ensures c.magnitude-size.ensures c.if-is_negative.true) (byte_written 45 (decimal size) buffer (omega arith) c.write_unsigned-count.ensures c.if-count-eq0.false)

pub returns : goal.returns
returns c = rw (text_else c.ranges.value c.is_negative.ensures c.magnitude-size.ensures c.if-is_negative.false) c.write_unsigned.ensures
