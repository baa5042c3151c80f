-- `put_three` leaves as much of three numbers with commas as fits. Assumes nothing.
use Rattle.blocks.proofs.RowTexts.{three_length}
use Rattle.decimal.specs.Digits.{decimal}
use Rattle.laws.proofs.Clipped.{put_none, put-counted}
use Rattle.laws.specs.Words.{ascii}
use native.Mathlib.Omega.{arith}
use Rattle.blocks.proofs.row.put_three.Goals as goal

pub overflow_add-comma : goal.overflow_add-comma
overflow_add-comma c = let a = c.args in omega (arith, c.requires, three_length a.first a.second a.third, c.put_number.ensures.0)

pub overflow_add-middle : goal.overflow_add-middle
overflow_add-middle c = let a = c.args in omega (arith, c.requires, three_length a.first a.second a.third, c.put_number.ensures.0, c.put_bytes.ensures.0)

pub overflow_add-comma_again : goal.overflow_add-comma_again
overflow_add-comma_again c = let a = c.args in omega (arith, c.requires, three_length a.first a.second a.third, c.put_number.ensures.0, c.put_bytes.ensures.0, c.put_number-2.ensures.0)

pub overflow_add-end : goal.overflow_add-end
overflow_add-end c = let a = c.args in omega (arith, c.requires, three_length a.first a.second a.third, c.put_number.ensures.0, c.put_bytes.ensures.0, c.put_number-2.ensures.0, c.put_bytes-2.ensures.0)

pub overflow_add-result : goal.overflow_add-result
overflow_add-result c = let a = c.args in omega (arith, c.requires, three_length a.first a.second a.third, c.put_number.ensures.0, c.put_bytes.ensures.0, c.put_number-2.ensures.0, c.put_bytes-2.ensures.0, c.put_number-3.ensures.0)

pub returns : goal.returns
returns c =
    let a = c.args in
    let first = put-counted (decimal a.first) (put_none a.out.now a.at) c.put_number.ensures in
    let comma = put-counted (ascii ",") first c.put_bytes.ensures in
    let second = put-counted (decimal a.second) comma c.put_number-2.ensures in
    let comma_again = put-counted (ascii ",") second c.put_bytes-2.ensures in
    put-counted (decimal a.third) comma_again c.put_number-3.ensures
