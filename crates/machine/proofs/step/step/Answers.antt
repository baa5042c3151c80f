-- `step` meets its contract. Assumes nothing.
use Rattle.jobs.specs.Jobs.{jobs_of}
use Rattle.machine.proofs.RunningTimes.{set_accepted}
use Rattle.machine.proofs.Ticking.{Prepared, step_refused, step_impossible, step_ticks, checked_alike, few_times}
use mathlib.Core.Path.{sym, ◌∙◌}
use Rattle.machine.proofs.step.step.Goals as goal

pub returns-in-Err : goal.returns-in-Err
returns-in-Err c = sym (step_refused (jobs_of c.args.set) _ _ _ (sym c.check_times.ensures ∙ c.in-Err.is))

pub columns_of-columns-requires : goal.columns_of-columns-requires
columns_of-columns-requires c = set_accepted (jobs_of c.args.set) _ (sym c.check_times.ensures ∙ c.in_default.is)

pub invariant_of-jobs : goal.invariant_of-jobs
invariant_of-jobs c = record { few = few_times (jobs_of c.args.set) _ (sym c.check_times.ensures ∙ c.in_default.is) }

pub returns-in-Err-check_state : goal.returns-in-Err-check_state
returns-in-Err-check_state c =
    let passed = sym c.check_times.ensures ∙ c.in_default.is in
    let refused = sym (checked_alike c.args.set c.columns_of-columns.result _ (passed, c.columns_of-columns.ensures) _) ∙ sym c.check_state.ensures ∙ c.in-Err-check_state.is in
    sym (step_impossible (jobs_of c.args.set) _ _ passed _ refused)

pub advance-requires : goal.advance-requires
advance-requires c =
    let prepared : Prepared c.args.set c.columns_of-columns.result c.args.times.now = (sym c.check_times.ensures ∙ c.in_default.is, c.columns_of-columns.ensures) in
    (prepared, sym (checked_alike c.args.set c.columns_of-columns.result _ prepared _) ∙ sym c.check_state.ensures ∙ c.in_default-check_state.is)

pub returns : goal.returns
returns c =
    let passed = sym c.check_times.ensures ∙ c.in_default.is in
    let possible = sym (checked_alike c.args.set c.columns_of-columns.result _ (passed, c.columns_of-columns.ensures) _) ∙ sym c.check_state.ensures ∙ c.in_default-check_state.is in
    c.advance.ensures ∙ sym (step_ticks (jobs_of c.args.set) _ _ passed possible)
