-- `decimal::unsigned::write_unsigned` meets its contract. Assumes nothing.
use Rattle.decimal.proofs.Putting.{digits_short, digits_fit}
use Rattle.decimal.proofs.unsigned.write_unsigned.Goals as goal

pub returns-then-rest-count : goal.returns-then-rest-count
returns-then-rest-count c =
    let s = c.before.before.before in
    digits_short s.args.value s.args.rest.now c.digit_count-count.ensures c.if-rest-count.true

pub returns : goal.returns
returns c =
    let s = c.before.before.before.before.before.before.before in
    digits_fit s.args.value s.args.rest.now c.digit_count-count.ensures c.if-rest-count.false c.put_digits.ensures
