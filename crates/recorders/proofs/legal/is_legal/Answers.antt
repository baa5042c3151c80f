-- `is_legal` meets its contract. Assumes nothing.
use Prim.Native.Nat.{◌≤◌}
use Rattle.jobs.proofs.Sets.{length_jobs}
use Rattle.jobs.specs.Limits.{max_jobs}
use Rattle.recorders.proofs.Judgements.{judged_accepted, judged_readable, judged_jobs, judged_rows}
use mathlib.Core.Path.{sym, ◌∙◌}
use native.Mathlib.Omega.{arith}
use Rattle.recorders.proofs.legal.is_legal.Goals as goal

pub course_of-course-requires : goal.course_of-course-requires
course_of-course-requires c = judged_readable c.requires

pub jobs_fit-fit-requires : goal.jobs_fit-fit-requires
jobs_fit-fit-requires c =
    let few : c.args.set.count ≤ max_jobs = omega (arith, length_jobs c.args.set, (judged_accepted c.requires).few) in
    few

pub returns-then-not-fit : goal.returns-then-not-fit
returns-then-not-fit c =
    let at-course = c in
    let start = at-course.before in
    let refused = sym c.jobs_fit-fit.ensures ∙ c.if-not-fit.true in
    sym (judged_jobs start.requires _ at-course.course_of-course.ensures _ (length_jobs start.args.set) refused)

pub waiting_of-waiting-requires : goal.waiting_of-waiting-requires
waiting_of-waiting-requires c =
    let few : c.args.set.count ≤ max_jobs = omega (arith, length_jobs c.args.set, (judged_accepted c.requires).few) in
    few

pub rows_fit-requires : goal.rows_fit-requires
rows_fit-requires c =
    let few : c.args.set.count ≤ max_jobs = omega (arith, length_jobs c.args.set, (judged_accepted c.requires).few) in
    let start = c in
    (few, rw (length_jobs start.args.set) at start.requires.readable)

pub returns : goal.returns
returns c =
    let at-waiting = c in
    let at_test = at-waiting.before.before in
    let at-jobs = at_test in
    let at-course = at-jobs.before.before in
    let start = at-course.before in
    let fit = sym at-jobs.jobs_fit-fit.ensures ∙ at_test.if-not-fit.false in
    c.rows_fit.ensures
    ∙ judged_rows start.requires _ at-course.course_of-course.ensures _ (length_jobs start.args.set) fit _ at-waiting.waiting_of-waiting.ensures
