-- `decimal::field::read_field` meets its contract: after each digit what follows decides the same field.
-- Assumes nothing.
use Rattle.decimal.proofs.Reading.{DigitsRead}
use Rattle.decimal.proofs.field.read_field.Given as goal

abbrev pub invariant-loop-length : goal.invariant-loop-length
invariant-loop-length l = DigitsRead l.rest l.value l.length
