-- `numbers_of` answers the jobs' numbers. The loop's invariant: those of the first i jobs stand in the array. Assumes nothing.
use Prim.Native.Nat.{ℕ, ◌≤◌, ◌<◌}
use Rattle.completion.specs.Delays.{number_in}
use Rattle.jobs.proofs.Accepted.{accepted, job-place}
use Rattle.jobs.proofs.Sets.{job_at_lem, length_jobs}
use Rattle.jobs.specs.Jobs.{no_job, jobs_of}
use Rattle.jobs.specs.Limits.{max_jobs}
use Rattle.jobs.specs.declared.job.Job.{Job}
use Rattle.laws.proofs.Filling.{filled_none, filled_next}
use borrow.Author.Rules.{rules}
use lib.ListN.{get_or}
use mathlib.Core.Path.{sym, ap}
use native.Mathlib.Omega.{arith}
use Rattle.completion.proofs.delay.numbers_of.Goals.{Start}
use Rattle.completion.proofs.delay.numbers_of.Goals as goal

-- the set has no more jobs than places
few : (s : Start) → s.args.set.count ≤ max_jobs
few s = omega (arith, (accepted (jobs_of s.args.set) s.requires).few, length_jobs s.args.set)

-- a job's number is at most its place and one, so that 16 bits hold it
narrow : (s : Start) (i : ℕ) → i < s.args.set.count → (get_or s.args.set.jobs i no_job).job ≤ max_jobs
narrow s i l =
    let js = jobs_of s.args.set in
    let ok = accepted js s.requires in
    omega (arith, ap (λ (j : Job). j.job) (job_at_lem s.args.set i l), job-place js ok i (omega (arith, length_jobs s.args.set)), few s)

pub loop-i-init : goal.loop-i-init
loop-i-init c = (omega arith, filled_none max_jobs 0 _)

pub offset_bounds-set-i : goal.offset_bounds-set-i
offset_bounds-set-i c = search (rules, few c.before.before)

pub bounds-set-i : goal.bounds-set-i
bounds-set-i c = search (rules, few c.before.before)

pub overflow_cast-numbers : goal.overflow_cast-numbers
overflow_cast-numbers c = search (rules, narrow c.before.before.before.before c.loop-i.i c.loop-i-test.true)

pub offset_bounds-numbers-i : goal.offset_bounds-numbers-i
offset_bounds-numbers-i c = search (rules, few c.before.before.before.before)

pub bounds-numbers-i : goal.bounds-numbers-i
bounds-numbers-i c = search (rules, few c.before.before.before.before)

pub loop-i-preserved : goal.loop-i-preserved
loop-i-preserved c =
    let s = c.before.before.before.before in
    let l = c.loop-i in
    let h = c.loop-i-test.true in
    (omega arith, filled_next max_jobs 0 (number_in (jobs_of s.args.set)) l.i l.numbers _ (omega (arith, few s)) l.invariant.1 (ap (λ (j : Job). j.job) (sym (job_at_lem s.args.set l.i h))))
