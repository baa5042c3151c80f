-- `trace_text` answers `answer_for trace_text` and leaves `left_for trace_text`. Assumes nothing.
use Rattle.std.proofs.lemmas.Result.{err_from_is_err_and}
use Rattle.table.proofs.Accepting.{read_passed}
use Rattle.texts.specs.Answers.{answer_for, left_for}
use mathlib.Core.Path.{sym, ◌∙◌}
use Rattle.report.proofs.trace.trace_text.Goals as goal

pub returns-in_err-set : goal.returns-in_err-set
unfolding answer_for left_for
returns-in_err-set c =
    let p = err_from_is_err_and c.from_residual.result c.from_residual.ensures.1 in
    let e = sym c.read.ensures ∙ c.in_err-set.was in
    (rw (p.1, p.2, e), rw e)

pub trace_set-requires : goal.trace_set-requires
trace_set-requires c = read_passed _ _ c.read.ensures c.in_ok-set.was

pub returns : goal.returns
unfolding answer_for left_for
returns c = rw (sym c.read.ensures ∙ c.in_ok-set.was) c.trace_set.ensures
