-- `run` meets its contract. Assumes nothing.
use Rattle.std.proofs.lemmas.Result.{err_from_is_err_and}
use Rattle.jobs.proofs.Sets.{length_jobs}
use Rattle.jobs.specs.Jobs.{jobs_of}
use Rattle.machine.proofs.Alike.{completed_alike}
use Rattle.machine.proofs.Runnable.{run_refused, run_passed, shown_alike, shown_runnable}
use Rattle.machine.proofs.RunningTimes.{set_accepted}
use Rattle.machine.proofs.Ticking.{Prepared, each_counted, few_times}
use mathlib.Core.Path.{sym, ◌∙◌}
use Rattle.machine.proofs.run.run.Goals as goal

pub returns-in_err-check_times : goal.returns-in_err-check_times
returns-in_err-check_times c =
    let p = err_from_is_err_and c.from_residual.result c.from_residual.ensures.1 in
    rw (p.1, p.2) (sym (run_refused (jobs_of c.args.set) _ _ (sym c.check_times.ensures ∙ c.in_err-check_times.was)))

pub columns_of-columns-requires : goal.columns_of-columns-requires
columns_of-columns-requires c = set_accepted _ _ (sym c.check_times.ensures ∙ c.in_ok-check_times.was)

pub invariant_of-jobs : goal.invariant_of-jobs
invariant_of-jobs c = record { few = few_times (jobs_of c.args.set) _ (sym c.check_times.ensures ∙ c.in_ok-check_times.was) }

pub run_through-requires : goal.run_through-requires
run_through-requires c = shown_runnable c.args.set c.columns_of-columns.result _ (sym c.check_times.ensures ∙ c.in_ok-check_times.was, c.columns_of-columns.ensures)

pub returns : goal.returns
returns c =
    let p : Prepared c.args.set c.columns_of-columns.result c.args.times.now = (sym c.check_times.ensures ∙ c.in_ok-check_times.was, c.columns_of-columns.ensures) in
    rw (run_passed (jobs_of c.args.set) _ p.0, c.run_through.ensures, completed_alike (shown_alike c.args.set c.columns_of-columns.result _ p) (each_counted c.args.set c.columns_of-columns.result _ p) (length_jobs c.args.set) _)
