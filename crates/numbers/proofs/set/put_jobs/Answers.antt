-- `put_jobs` writes the jobs, or refuses with 4 or 9. Assumes nothing.
use Rattle.jobs.proofs.Sets.{length_jobs}
use Rattle.numbers.proofs.Rooms.{jobs_many, jobs_short, jobs_fit, jobs_none}
use native.Mathlib.Omega.{arith}
use Rattle.numbers.proofs.set.put_jobs.Goals as goal

pub returns-then-count-gt-MAX_JOBS : goal.returns-then-count-gt-MAX_JOBS
returns-then-count-gt-MAX_JOBS c = jobs_many _ _ _ (omega (arith, length_jobs c.args.set, c.if-count-gt-MAX_JOBS.true))

pub returns-then-out-count : goal.returns-then-out-count
returns-then-out-count c = let h = length_jobs c.args.set in jobs_short _ _ _ (omega (arith, h, c.if-count-gt-MAX_JOBS.false)) (omega (arith, h, c.if-out-count.true))

pub returns-then-from-count : goal.returns-then-from-count
returns-then-from-count c =
    let h = length_jobs c.args.set in
    jobs_fit _ _ _ _ (omega (arith, h, c.if-count-gt-MAX_JOBS.false)) (omega (arith, h, c.if-out-count.false)) c.put_rest.ensures

pub returns-else-from-count : goal.returns-else-from-count
returns-else-from-count c =
    let h = length_jobs c.args.set in
    jobs_fit _ _ _ _ (omega (arith, h, c.if-count-gt-MAX_JOBS.false)) (omega (arith, h, c.if-out-count.false)) (jobs_none _ _ _ (omega (arith, h, c.if-from-count.false)))
