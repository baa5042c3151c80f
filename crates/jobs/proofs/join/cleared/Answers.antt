-- `cleared` answers the set of the same jobs. The loop's invariant: the copy is the set of the first n. Assumes nothing.
use Rattle.jobs.proofs.Sets.{length_jobs, job_at_lem, set_next}
use Rattle.jobs.specs.Jobs.{jobs_of, set_of}
use lib.Seq.{take_all}
use mathlib.Core.Path.{ap, ◌∙◌}
use native.Mathlib.Omega.{arith}
use Rattle.jobs.proofs.join.cleared.Goals as goal

pub loop-n-preserved : goal.loop-n-preserved
loop-n-preserved c =
    let s = c.args.set in
    let l = c.loop-n in
    let h = c.loop-n-test.true in
    (omega arith, set_next (jobs_of s) l.n l.copy _ (omega (arith, length_jobs s)) (omega (arith, c.requires)) (job_at_lem s l.n h) l.invariant.1)

pub returns : goal.returns
returns c =
    let s = c.args.set in
    let l = c.loop-n in
    l.invariant.1 ∙ ap set_of (take_all l.n (jobs_of s) (omega (arith, length_jobs s)))
