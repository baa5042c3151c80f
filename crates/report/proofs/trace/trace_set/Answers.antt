-- `trace_set` leaves the trace text of an accepted set. Assumes nothing.
use Prim.Native.Nat.{ℕ, ◌*◌, ◌≤◌}
use Rattle.jobs.proofs.Accepted.{accepted}
use Rattle.jobs.proofs.MostTimes.{most_length, most_lent}
use Rattle.jobs.proofs.Sets.{length_jobs}
use Rattle.jobs.specs.Jobs.{jobs_of}
use Rattle.jobs.specs.Limits.{max_jobs}
use Rattle.report.proofs.TraceTexts.{Ran, most_ran, ran_not_refused, ran_fits, ran_text}
use lib.ListN.{length, replicate, length-replicate}
use lib.Seq.{length-take-le}
use mathlib.Core.Path.{sym}
use native.Mathlib.Omega.{arith}
use Rattle.report.proofs.trace.trace_set.Goals as goal

pub slice_bounds-most-end : goal.slice_bounds-most-end
slice_bounds-most-end c =
    let few : c.args.set.count ≤ max_jobs = (omega (arith, length_jobs c.args.set, (accepted (jobs_of c.args.set) c.requires).few)) in
    let room : c.args.set.count ≤ length c.most_times-most.result = (omega (arith, few, most_length c.args.set c.most_times-most.result c.most_times-most.ensures)) in
    room

pub slice_bounds-trace-end : goal.slice_bounds-trace-end
slice_bounds-trace-end c =
    let few : c.args.set.count ≤ max_jobs = (omega (arith, length_jobs c.args.set, (accepted (jobs_of c.args.set) c.requires).few)) in
    let room : c.args.set.count ≤ length c.most_times-most.result = (omega (arith, few, most_length c.args.set c.most_times-most.result c.most_times-most.ensures)) in
    sym (length-take-le _ c.most_times-most.result (room))

pub write_trace-requires : goal.write_trace-requires
write_trace-requires c =
    let few : c.args.set.count ≤ max_jobs = (omega (arith, length_jobs c.args.set, (accepted (jobs_of c.args.set) c.requires).few)) in
    let ran : Ran (jobs_of c.args.set) c.trace.result c.trace.new.out = (most_ran (jobs_of c.args.set) c.requires _ (most_lent c.args.set c.most_times-most.result (few) c.most_times-most.ensures) (replicate (8 * max_jobs) 0) (omega (arith, length-replicate {A = ℕ} (8 * max_jobs) 0)) c.trace.ensures) in
    ran_fits (ran) _ c.in_ok-traced.was

pub returns-in_err-traced : goal.returns-in_err-traced
returns-in_err-traced c =
    let few : c.args.set.count ≤ max_jobs = (omega (arith, length_jobs c.args.set, (accepted (jobs_of c.args.set) c.requires).few)) in
    let ran : Ran (jobs_of c.args.set) c.trace.result c.trace.new.out = (most_ran (jobs_of c.args.set) c.requires _ (most_lent c.args.set c.most_times-most.result (few) c.most_times-most.ensures) (replicate (8 * max_jobs) 0) (omega (arith, length-replicate {A = ℕ} (8 * max_jobs) 0)) c.trace.ensures) in
    absurd (ran_not_refused (ran) _ c.in_err-traced.was)

pub returns : goal.returns
returns c =
    let few : c.args.set.count ≤ max_jobs = (omega (arith, length_jobs c.args.set, (accepted (jobs_of c.args.set) c.requires).few)) in
    let ran : Ran (jobs_of c.args.set) c.trace.result c.trace.new.out = (most_ran (jobs_of c.args.set) c.requires _ (most_lent c.args.set c.most_times-most.result (few) c.most_times-most.ensures) (replicate (8 * max_jobs) 0) (omega (arith, length-replicate {A = ℕ} (8 * max_jobs) 0)) c.trace.ensures) in
    rw (ran_text (ran) _ c.in_ok-traced.was) at c.write_trace.ensures
