-- `jobs_fit` meets its contract. The loop's invariant: the first n jobs fit, and what is kept is of the job before.
-- Assumes nothing.
use Rattle.jobs.proofs.Sets.{job_at_lem}
use Rattle.jobs.specs.Jobs.{jobs_of}
use Rattle.laws.proofs.Every.{every_none, every_next, every_not}
use Rattle.legality.proofs.Judging.{fits_in}
use Rattle.recorders.proofs.Neighbours.{kept_none, kept_next, kept_fits}
use mathlib.Core.Path.{◌≡◌, sym, ◌∙◌}
use native.Mathlib.Omega.{arith}
use Rattle.recorders.proofs.fitting.jobs_fit.Goals as goal

pub loop-n-init : goal.loop-n-init
loop-n-init c = let js = jobs_of c.args.set in (omega arith, every_none (fits_in js c.args.course.now), kept_none js c.args.course.now)

pub returns-then-not-fits : goal.returns-then-not-fits
returns-then-not-fits c =
    let fits_here = let turn = c.before.before.before in let start = turn.before.before in let n = turn.loop-n.n in let is_job_lem = sym (job_at_lem start.args.set n turn.loop-n-test.true) in let kept = kept_fits (jobs_of start.args.set) start.args.course.now turn.loop-n.invariant.2 in kept _ is_job_lem _ c.ready_after-ready.ensures _ c.job_fits-fits.ensures in
    sym (every_not _ _ _ c.loop-n-test.true (sym fits_here ∙ c.if-not-fits.true))

pub loop-n-preserved : goal.loop-n-preserved
loop-n-preserved c =
    let fits_here = let turn = c.before.before.before in let start = turn.before.before in let n = turn.loop-n.n in let is_job_lem = sym (job_at_lem start.args.set n turn.loop-n-test.true) in let kept = kept_fits (jobs_of start.args.set) start.args.course.now turn.loop-n.invariant.2 in kept _ is_job_lem _ c.ready_after-ready.ensures _ c.job_fits-fits.ensures in
    let turn = c in
    let start = turn in
    let n = turn.loop-n.n in
    let taken = turn.loop-n-test.true in
    let fits = sym fits_here ∙ c.if-not-fits.false in
    let kept = kept_next (jobs_of start.args.set) start.args.course.now n _ (sym (job_at_lem start.args.set n taken)) _ c.figure-done.ensures in
    (omega (arith, taken), every_next _ _ turn.loop-n.invariant.1 fits, kept)

pub returns : goal.returns
returns c =
    let start = c in
    let all : c.loop-n.n ≡ start.args.set.count = omega (arith, c.loop-n.invariant.0, c.loop-n-test.false) in
    sym (rw all at c.loop-n.invariant.1)
