-- `read_line` answers `line_of`. Assumes nothing.
use Rattle.table.proofs.Rows.{line_none, line_many, line_few}
use mathlib.Core.Path.{◌∙◌}
use native.Mathlib.Omega.{arith}
use Rattle.table.proofs.line.read_line.Goals as goal

pub returns-then-columns-eq0 : goal.returns-then-columns-eq0
returns-then-columns-eq0 c = line_none _ _ c.if-columns-eq0.true

pub returns-then-columns-gt-MAX_COLUMNS : goal.returns-then-columns-gt-MAX_COLUMNS
returns-then-columns-gt-MAX_COLUMNS c = line_many _ _ c.if-columns-gt-MAX_COLUMNS.true

pub returns : goal.returns
returns c = c.read_fields.ensures ∙ line_few _ _ (omega (arith, c.if-columns-gt-MAX_COLUMNS.false))
