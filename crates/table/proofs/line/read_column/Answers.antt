-- `read_column` answers the field of the column, byte by byte. Assumes nothing.
use Rattle.decimal.proofs.Fields.{field_within}
use mathlib.Core.Path.{sym, ◌∙◌}
use native.Mathlib.Omega.{arith}
use Rattle.table.proofs.line.read_column.Goals as goal

pub overflow_add-result : goal.overflow_add-result
overflow_add-result c = omega (arith, field_within _ _ (sym c.read_field-2.ensures ∙ c.in_ok-field.was))
