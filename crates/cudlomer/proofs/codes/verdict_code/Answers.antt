-- `verdict_code` answers `verdict_code`. Assumes nothing.
use Rattle.cudlomer.proofs.Negation.{handed_on}
use Rattle.cudlomer.specs.Codes.{verdict_code}
use mathlib.Core.Path.{sym, ap, ◌∙◌}
use Rattle.cudlomer.proofs.codes.verdict_code.Goals as goal

pub returns-in-Ok-true : goal.returns-in-Ok-true
returns-in-Ok-true c = ap verdict_code (sym (rw c.in-Ok-true.field-0-test at c.in-Ok-true.is))

pub returns-in-Ok-false : goal.returns-in-Ok-false
returns-in-Ok-false c = ap verdict_code (sym (rw c.in-Ok-false.field-0-test at c.in-Ok-false.is))

pub returns-in-Err : goal.returns-in-Err
returns-in-Err c = handed_on (record { sfits = c.negated.type_inv }) c.negated.ensures ∙ ap verdict_code (sym c.in-Err.is)
