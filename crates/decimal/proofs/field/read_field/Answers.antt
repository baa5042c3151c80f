-- `decimal::field::read_field` meets its contract: after each digit what follows decides the same field.
-- Assumes nothing.
use Rattle.decimal.proofs.Fields.{digit_by}
use Rattle.decimal.proofs.Reading.{read_none, read_all, read_other, read_last, read_digit}
use mathlib.Core.Path.{sym, ◌∙◌}
use Rattle.decimal.proofs.field.read_field.Goals as goal

pub loop-length-init : goal.loop-length-init
loop-length-init c = read_none c.args.rest.now

pub returns-then-not-is_ascii_digit : goal.returns-then-not-is_ascii_digit
returns-then-not-is_ascii_digit c = c.after_digits.ensures ∙ read_other c.loop-length.invariant c.loop-length-test.true (digit_by _ c.is_ascii_digit.ensures.value c.if-not-is_ascii_digit.true)

pub returns-then-ends_number : goal.returns-then-ends_number
returns-then-ends_number c = read_last c.loop-length.invariant c.loop-length-test.true (digit_by _ c.is_ascii_digit.ensures.value c.if-not-is_ascii_digit.false) (sym c.ends_number.ensures ∙ c.if-ends_number.true)

pub loop-length-preserved : goal.loop-length-preserved
loop-length-preserved c = read_digit c.loop-length.invariant c.loop-length-test.true (digit_by _ c.is_ascii_digit.ensures.value c.if-not-is_ascii_digit.false) (sym c.ends_number.ensures ∙ c.if-ends_number.false)

pub returns : goal.returns
returns c = let l = c.loop-length in c.after_digits-2.ensures ∙ read_all l.invariant l.auto.length-end c.loop-length-test.false
