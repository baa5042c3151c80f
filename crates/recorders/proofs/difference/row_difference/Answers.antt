-- `row_difference` meets its contract. Assumes nothing.
use Rattle.std.specs.Prelude.{Some}
use Rattle.recorders.proofs.InStep.{start_apart, end_apart, same_row}
use mathlib.Core.Path.{sym, ap, ◌∙◌}
use Rattle.recorders.proofs.difference.row_difference.Goals as goal

pub returns-then-not-same_begin-same_job : goal.returns-then-not-same_begin-same_job
returns-then-not-same_begin-same_job c = ap Some c.min.ensures ∙ sym (start_apart _ _ c.if-not-same_begin-same_job.true)

pub returns-then-first-second : goal.returns-then-first-second
returns-then-first-second c =
    ap Some c.min-then-first-second.ensures ∙ sym (end_apart _ _ c.if-not-same_begin-same_job.false c.if-first-second.true)

pub returns : goal.returns
returns c = sym (same_row _ _ c.if-not-same_begin-same_job.false c.if-first-second.false)
