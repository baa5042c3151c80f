-- `check` answers `check_of` of the set's records. Assumes nothing.
use Rattle.std.proofs.lemmas.Result.{err_from_is_err_and}
use Rattle.jobs.proofs.Checks.{any_none, any_some, check_refused, check_passed}
use Rattle.jobs.proofs.Sets.{length_jobs}
use Rattle.jobs.specs.Jobs.{jobs_of}
use mathlib.Core.Path.{sym, ◌∙◌}
use native.Mathlib.Omega.{arith}
use Rattle.jobs.proofs.check.check.Goals as goal

pub returns-in_err-check_records : goal.returns-in_err-check_records
returns-in_err-check_records c =
    let p = err_from_is_err_and c.from_residual.result c.from_residual.ensures.1 in
    rw (p.1, p.2) (sym (check_refused (jobs_of c.args.set) _ (sym c.check_records.ensures ∙ c.in_err-check_records.was)))

pub returns-then-set-eq0 : goal.returns-then-set-eq0
returns-then-set-eq0 c =
    let s = c.args.set in
    sym (check_passed (jobs_of s) _ (sym c.check_records.ensures ∙ c.in_ok-check_records.was) (any_none (jobs_of s) (length_jobs s ∙ c.if-set-eq0.true)))

pub returns : goal.returns
returns c =
    let s = c.args.set in
    sym (check_passed (jobs_of s) _ (sym c.check_records.ensures ∙ c.in_ok-check_records.was) (any_some (jobs_of s) (omega (arith, length_jobs s, c.if-set-eq0.false))))
