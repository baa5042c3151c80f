-- `columns_of` meets its contract. The loop's invariant: the columns are filled up to place n. Assumes nothing.
use Rattle.jobs.proofs.Sets.{length_jobs, job_at_lem}
use Rattle.jobs.specs.Jobs.{jobs_of}
use Rattle.machine.proofs.Figures.{filled_start, filled_fits, filled_next, filled_end}
use mathlib.Core.Path.{sym}
use native.Mathlib.Omega.{arith}
use Rattle.machine.proofs.columns.columns_of.Goals as goal

pub loop-n-init : goal.loop-n-init
loop-n-init c =
    let s = c.args.set in
    (omega (arith, length_jobs s, c.requires.few), filled_start (jobs_of s) c.requires _ c.none-last.ensures)

pub release_after-before-requires : goal.release_after-before-requires
release_after-before-requires c = filled_fits _ c.requires c.loop-n.invariant.1

pub loop-n-preserved : goal.loop-n-preserved
loop-n-preserved c =
    let s = c.before.before.before.before.before.before in
    let l = c.loop-n in
    let here = sym (job_at_lem s.args.set l.n c.loop-n-test.true) in
    let next = filled_next _ s.requires l.invariant.1 (omega (arith, length_jobs s.args.set)) _ here _ c.release_after-before.ensures _ c.urgency.ensures in
    (l.invariant.0, next)

pub returns : goal.returns
returns c =
    let s = c.before.before.before in
    let l = c.loop-n in
    filled_end _ s.requires l.invariant.1 _ (omega (arith, l.invariant.1.inside, length_jobs s.args.set, c.loop-n-test.false))
