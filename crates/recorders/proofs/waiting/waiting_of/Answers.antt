-- `waiting_of` meets its contract. The loop's invariant: the columns are filled up to place n, and what is kept is of the job before. Assumes nothing.
use Rattle.jobs.proofs.Sets.{length_jobs, job_at_lem}
use Rattle.jobs.specs.Jobs.{jobs_of, urgency_of}
use Rattle.recorders.proofs.Neighbours.{kept_none, kept_next, kept_ready, waiting_none, waiting_next, waiting_all}
use lib.ListN.{length}
use mathlib.Core.Path.{◌≡◌, sym, ap, ◌∙◌}
use native.Mathlib.Omega.{arith}
use Rattle.recorders.proofs.waiting.waiting_of.Goals as goal

pub loop-n-init : goal.loop-n-init
loop-n-init c = let js = jobs_of c.args.set in (omega arith, waiting_none js c.args.course.now, kept_none js c.args.course.now)

pub loop-n-preserved : goal.loop-n-preserved
loop-n-preserved c =
    let turn = c in
    let start = turn in
    let n = turn.loop-n.n in
    let js = jobs_of start.args.set in
    let course = start.args.course.now in
    let taken = turn.loop-n-test.true in
    let here = sym (job_at_lem start.args.set n taken) in
    let ready = kept_ready js course turn.loop-n.invariant.2 _ here _ c.ready_after.ensures in
    let ended = c.figure-done.ensures in
    let columns = waiting_next js course n (omega (arith, taken, start.requires)) _ turn.loop-n.invariant.1 _ _ _ ready (c.urgency.ensures ∙ ap urgency_of here) ended in
    (omega (arith, taken), columns, kept_next js course n _ here _ ended)

pub returns : goal.returns
returns c =
    let start = c in
    let all : c.loop-n.n ≡ length (jobs_of start.args.set) = omega (arith, c.loop-n.invariant.0, c.loop-n-test.false, length_jobs start.args.set) in
    c.loop-n.invariant.1 ∙ waiting_all (jobs_of start.args.set) start.args.course.now c.loop-n.n all
