-- `slacks_by` answers the slacks of an accepted set. The loop's invariant: those of the first i jobs stand in the array. Assumes nothing.
use Rattle.analysis.proofs.Slacks.{slacked_none, slacked_all, slack_limits, slacked_next}
use Rattle.jobs.proofs.Accepted.{accepted}
use Rattle.jobs.proofs.Sets.{length_jobs, job_at_lem}
use Rattle.jobs.specs.Jobs.{jobs_of}
use native.Mathlib.Omega.{arith}
use Rattle.analysis.proofs.slack.slacks_by.Goals as goal

pub loop-i-init : goal.loop-i-init
loop-i-init c = let s = c.args.set in (omega (arith, length_jobs s, (accepted (jobs_of s) c.requires.set_value).few), slacked_none (jobs_of s))

pub slack-requires : goal.slack-requires
slack-requires c =
    let s = c.args.set in
    let l = c.loop-i in
    let h = c.loop-i-test.true in
    slack_limits (jobs_of s) c.requires.set_value c.args.bounds c.requires.bounds_value l.i (omega (arith, length_jobs s, h)) _ (job_at_lem s l.i h)

pub loop-i-preserved : goal.loop-i-preserved
loop-i-preserved c =
    let s = c.args.set in
    let l = c.loop-i in
    let h = c.loop-i-test.true in (
      l.invariant.0,
      slacked_next (jobs_of s) c.requires.set_value c.args.bounds c.requires.bounds_value l.i (omega (arith, length_jobs s, h)) _ (job_at_lem s l.i h) l.slacks _ c.slack.ensures l.invariant.1,
    )

pub returns : goal.returns
returns c =
    let s = c.args.set in
    let l = c.loop-i in
    slacked_all (jobs_of s) l.i l.slacks (omega (arith, length_jobs s, c.loop-i-test.false)) l.invariant.1
