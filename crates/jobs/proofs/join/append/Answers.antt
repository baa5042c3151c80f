-- `append` answers `join_of`. The loop's invariant: the new records so far stand numbered behind the old ones, and what is still to come decides.
-- Assumes nothing.
use Rattle.std.proofs.lemmas.Result.{err_from_is_err_and}
use Rattle.std.specs.Prelude.{Ok}
use Rattle.jobs.proofs.Accepted.{records_few}
use Rattle.jobs.proofs.Checks.{record_many}
use Rattle.jobs.proofs.Joins.{last-held, last_chain, joining_start, joining_count, joining_end, joining_refused, joining_next, next-job, join_refused, join_empty, join_passed}
use Rattle.jobs.proofs.Sets.{length_jobs}
use Rattle.jobs.specs.Jobs.{jobs_of}
use borrow.Author.Rules.{rules}
use mathlib.Core.Path.{refl, sym, ap, ◌∙◌}
use native.Mathlib.Omega.{arith}
use Rattle.jobs.proofs.join.append.Goals as goal

pub cleared-set-requires : goal.cleared-set-requires
cleared-set-requires c = omega (arith, length_jobs c.args.old, records_few (jobs_of c.args.old) c.requires)

pub overflow_add-chain : goal.overflow_add-chain
overflow_add-chain c =
    let old = jobs_of c.args.old in
    let last = last-held old c.last_of-last.result c.last_of-last.ensures (records_few old c.requires) in
    let h = last_chain old c.requires in
    rw last (search (rules, h))

pub loop-k-init : goal.loop-k-init
loop-k-init c =
    let old = jobs_of c.args.old in
    let last = last-held old c.last_of-last.result c.last_of-last.ensures (records_few old c.requires) in
    joining_start old (jobs_of c.args.new) c.cleared-set.result c.last_of-last.result c.requires c.cleared-set.ensures last

pub returns-then-n-ge-MAX_JOBS : goal.returns-then-n-ge-MAX_JOBS
returns-then-n-ge-MAX_JOBS c =
    let o = c.args.old in
    let n = c.args.new in
    let l = c.loop-k in
    let h = c.loop-k-test.true in
    sym (join_refused o n _ (joining_refused l.invariant (omega (arith, length_jobs n)) refl _ (record_many l.set.count l.last _ c.if-n-ge-MAX_JOBS.true)))

pub bounds-new-k : goal.bounds-new-k
bounds-new-k c =
    let l = c.loop-k in
    let h = c.loop-k-test.true in
    omega (arith, joining_count l.invariant, c.if-n-ge-MAX_JOBS.false)

pub returns-in_err-check_record : goal.returns-in_err-check_record
returns-in_err-check_record c =
    let o = c.args.old in
    let n = c.args.new in
    let l = c.loop-k in
    let h = c.loop-k-test.true in
    let last = last-held (jobs_of o) c.last_of-last.result c.last_of-last.ensures (records_few (jobs_of o) c.requires) in
    let here = next-job o n l.k c.last_of-last.result c.renumber-job.result last h c.renumber-job.ensures in
    let p = err_from_is_err_and c.from_residual.result c.from_residual.ensures.1 in
    rw (p.1, p.2) (sym (join_refused o n _ (joining_refused l.invariant (omega (arith, length_jobs n)) here _ (sym c.check_record.ensures ∙ c.in_err-check_record.was))))

pub loop-k-preserved : goal.loop-k-preserved
loop-k-preserved c =
    let o = c.args.old in
    let n = c.args.new in
    let l = c.loop-k in
    let h = c.loop-k-test.true in
    let last = last-held (jobs_of o) c.last_of-last.result c.last_of-last.ensures (records_few (jobs_of o) c.requires) in
    let here = next-job o n l.k c.last_of-last.result c.renumber-job.result last h c.renumber-job.ensures in
    joining_next l.invariant (omega (arith, length_jobs n)) here c.if-n-ge-MAX_JOBS.false (sym c.check_record.ensures ∙ c.in_ok-check_record.was)

pub returns-then-new-eq0 : goal.returns-then-new-eq0
returns-then-new-eq0 c =
    let o = c.args.old in
    let n = c.args.new in
    let l = c.loop-k in
    let h = c.loop-k-test.false in
    sym (join_empty o n (joining_end l.invariant (omega (arith, length_jobs n))).0 (omega (arith, length_jobs n, c.if-new-eq0.true)))

pub returns : goal.returns
returns c =
    let o = c.args.old in
    let n = c.args.new in
    let l = c.loop-k in
    let h = c.loop-k-test.false in
    let e = joining_end l.invariant (omega (arith, length_jobs n)) in
    ap Ok e.1 ∙ sym (join_passed o n e.0 (omega (arith, length_jobs n, c.if-new-eq0.false)))
