-- `bounds_text` answers `answer_for bounds_text` and leaves `left_for bounds_text`. Assumes nothing.
use Rattle.std.proofs.lemmas.Result.{err_from_is_err_and}
use Rattle.jobs.proofs.Accepted.{accepted}
use Rattle.jobs.proofs.Sets.{length_jobs}
use Rattle.jobs.specs.Checks.{check_of}
use Rattle.jobs.specs.Jobs.{jobs_of}
use Rattle.std.specs.Prelude.{Ok}
use Rattle.report.proofs.FigureRows.{figures_some, figures_text}
use Rattle.table.proofs.Accepting.{read_passed}
use Rattle.texts.specs.Answers.{answer_for, left_for}
use mathlib.Core.Path.{◌≡◌, sym, ◌∙◌}
use native.Mathlib.Omega.{arith}
use Rattle.report.proofs.bounds.bounds_text.Goals as goal

pub returns-in_err-set : goal.returns-in_err-set
unfolding answer_for left_for
returns-in_err-set c =
    let p = err_from_is_err_and c.from_residual.result c.from_residual.ensures.1 in
    let e = sym c.read.ensures ∙ c.in_err-set.was in
    (rw (p.1, p.2, e), rw e)

pub returns-in_err-figures : goal.returns-in_err-figures
returns-in_err-figures c =
    absurd (figures_some _ _ (sym c.in_err-figures.was ∙ c.figures.ensures) (read_passed _ _ c.read.ensures c.in_ok-set.was))

pub write_bounds-requires : goal.write_bounds-requires
write_bounds-requires c =
    let accepts : check_of (jobs_of c.in_ok-set.set) ≡ Ok tt = (read_passed _ _ c.read.ensures c.in_ok-set.was) in
    let s = c.in_ok-set.set in
    omega (arith, length_jobs s, (accepted (jobs_of s) (accepts)).few)

pub returns : goal.returns
unfolding answer_for left_for
returns c =
    let accepts : check_of (jobs_of c.in_ok-set.set) ≡ Ok tt = (read_passed _ _ c.read.ensures c.in_ok-set.was) in
    let text = figures_text c.in_ok-set.set c.in_ok-figures.field-0 (sym c.in_ok-figures.was ∙ c.figures.ensures) accepts in
    rw (sym c.read.ensures ∙ c.in_ok-set.was) (rw text at c.write_bounds.ensures)
