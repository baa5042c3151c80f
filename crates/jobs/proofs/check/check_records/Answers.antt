-- `check_records` answers `records_check` of the set's records. The loop's invariant: those passed so far, and what is still to come decides.
-- Assumes nothing.
use Rattle.std.proofs.lemmas.Result.{err_from_is_err_and}
use Rattle.jobs.proofs.Checks.{record_many, reached_start, reached_end, reached_refused, reached_next}
use Rattle.jobs.proofs.Sets.{length_jobs, job_at_lem}
use Rattle.jobs.specs.Jobs.{jobs_of}
use Rattle.jobs.specs.declared.refusal.Refusal.TheVariants.{TooManyRecords}
use mathlib.Core.Path.{sym, ◌∙◌}
use native.Mathlib.Omega.{arith}
use Rattle.jobs.proofs.check.check_records.Goals as goal

pub loop-n-init : goal.loop-n-init
loop-n-init c = reached_start (jobs_of c.args.set) c.none-last.result c.none-last.ensures

pub returns-then-n-ge-MAX_JOBS : goal.returns-then-n-ge-MAX_JOBS
returns-then-n-ge-MAX_JOBS c =
    let s = c.args.set in
    let l = c.loop-n in
    let h = c.loop-n-test.true in
    reached_refused (jobs_of s) l.n l.last l.invariant _ (omega (arith, length_jobs s)) (job_at_lem s l.n h)
    TooManyRecords (record_many l.n l.last _ c.if-n-ge-MAX_JOBS.true)

pub returns-in_err-check_record : goal.returns-in_err-check_record
returns-in_err-check_record c =
    let s = c.args.set in
    let l = c.loop-n in
    let h = c.loop-n-test.true in
    let p = err_from_is_err_and c.from_residual.result c.from_residual.ensures.1 in
    rw (p.1, p.2)
    (reached_refused (jobs_of s) l.n l.last l.invariant _ (omega (arith, length_jobs s)) (job_at_lem s l.n h)
    _ (sym c.check_record.ensures ∙ c.in_err-check_record.was))

pub loop-n-preserved : goal.loop-n-preserved
loop-n-preserved c =
    let s = c.args.set in
    let l = c.loop-n in
    let h = c.loop-n-test.true in
    reached_next (jobs_of s) l.n l.last l.invariant _ (omega (arith, length_jobs s)) (job_at_lem s l.n h)
    (sym c.check_record.ensures ∙ c.in_ok-check_record.was)

pub returns : goal.returns
returns c =
    let s = c.args.set in
    let l = c.loop-n in
    reached_end (jobs_of s) l.n l.last l.invariant (omega (arith, length_jobs s))
