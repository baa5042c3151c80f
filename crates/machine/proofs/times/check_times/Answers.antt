-- `check_times` meets its contract. Assumes nothing.
use Rattle.std.proofs.lemmas.Result.{err_from_is_err_and}
use Rattle.jobs.proofs.Accepted.{accepted}
use Rattle.jobs.proofs.Sets.{length_jobs}
use Rattle.jobs.specs.Jobs.{jobs_of}
use Rattle.machine.proofs.RunningTimes.{set_refused, times_refused, times_passed}
use mathlib.Core.Path.{sym, ◌∙◌}
use native.Mathlib.Omega.{arith}
use Rattle.machine.proofs.times.check_times.Goals as goal

pub returns-in_err-check : goal.returns-in_err-check
returns-in_err-check c =
    let p = err_from_is_err_and c.from_residual.result c.from_residual.ensures.1 in
    rw (p.1, p.2) (sym (set_refused (jobs_of c.args.set) _ _ (sym c.check.ensures) _ c.in_err-check.was))

pub are_fitting-requires : goal.are_fitting-requires
are_fitting-requires c =
    let s = c.before.before.before in
    omega (arith, length_jobs s.args.set, (accepted (jobs_of s.args.set) (sym c.check.ensures ∙ c.in_ok-check.was)).few)

pub returns-then-not-are_fitting : goal.returns-then-not-are_fitting
returns-then-not-are_fitting c = sym (times_refused (jobs_of c.args.set) _ (sym c.are_fitting.ensures ∙ c.if-not-are_fitting.true) (sym c.check.ensures ∙ c.in_ok-check.was))

pub returns : goal.returns
returns c = sym (times_passed (jobs_of c.args.set) _ (sym c.are_fitting.ensures ∙ c.if-not-are_fitting.false) (sym c.check.ensures ∙ c.in_ok-check.was))
