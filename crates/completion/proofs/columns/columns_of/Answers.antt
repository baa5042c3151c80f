-- `columns_of` answers columns that agree with the set's table, with the ends of the chains. The loop's invariant: the columns hold the figures of the first i jobs.
-- Assumes nothing.
use Prim.Native.Nat.{◌<◌}
use Rattle.completion.proofs.Gathered.{gathered_none, gathered_earliest, gathered_next, gathered_all, gathered_ended}
use Rattle.jobs.proofs.Accepted.{accepted}
use Rattle.jobs.proofs.Sets.{length_jobs, job_at_lem}
use Rattle.jobs.specs.Jobs.{jobs_of}
use Rattle.theory.proofs.AcceptedSets.{accepted_ordered, accepted_latest}
use Rattle.theory.proofs.Releases.{earliest_latest}
use borrow.Author.Rules.{rules}
use lib.ListN.{length}
use mathlib.Core.Path.{◌≡◌, sym}
use native.Mathlib.Omega.{arith}
use Rattle.completion.proofs.columns.columns_of.Goals as goal

pub loop-i-init : goal.loop-i-init
loop-i-init c =
    let s = c.args.set in
    (omega (arith, length_jobs s, (accepted (jobs_of s) c.requires).few), gathered_none (jobs_of s))

pub overflow_add-ready : goal.overflow_add-ready
overflow_add-ready c =
    let s = c.args.set in
    let ok = accepted (jobs_of s) c.requires in
    let l = c.loop-i in
    let taken = c.loop-i-test.true in
    let h : l.i < length (jobs_of s) = omega (arith, length_jobs s, taken) in
    let e = gathered_earliest (jobs_of s) ok.few l.i h _ (sym (job_at_lem s l.i taken)) l.invariant.1 c.not_before-earliest.result c.not_before-earliest.ensures in
    let limits = rw (job_at_lem s l.i taken) at (ok.limits l.i h) in
    search (rules, e, accepted_latest (jobs_of s) ok l.i h, earliest_latest (jobs_of s) l.i, limits.range, limits.time)

pub loop-i-preserved : goal.loop-i-preserved
loop-i-preserved c =
    let s = c.args.set in
    let ok = accepted (jobs_of s) c.requires in
    let l = c.loop-i in
    let taken = c.loop-i-test.true in
    let h : l.i < length (jobs_of s) = omega (arith, length_jobs s, taken) in
    (l.invariant.0, gathered_next (jobs_of s) ok.few l.i h _ (sym (job_at_lem s l.i taken)) l.invariant.1 c.not_before-earliest.result c.not_before-earliest.ensures (accepted_ordered (jobs_of s) ok) c.urgency.result c.urgency.ensures c.max.result c.max.ensures c.first_of-first.result c.first_of-first.ensures.0)

pub returns : goal.returns
returns c =
    let s = c.args.set in
    let l = c.loop-i in
    let all : l.i ≡ s.count = omega (arith, length_jobs s, l.invariant.1.inside, c.loop-i-test.false) in
    let whole = sym (length_jobs s) in
    (gathered_all (jobs_of s) l.i s.count all whole l.invariant.1, gathered_ended (jobs_of s) l.i s.count all whole l.invariant.1)
