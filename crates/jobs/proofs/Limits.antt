-- What a record's tests of limits say: one for all values, or one for each number. Assumes nothing.
use mathlib.Core.Path.{◌≡◌}
use mathlib.Core.Bool.{Bool, true, ◌&&◌}
use native.Mathlib.Omega.{arith}
use lib.Dec.{leb}
use borrow.Author.Tests.{leb-true, le-leb}
use Rattle.laws.proofs.Tests.{and_parts, same_test}
use Rattle.jobs.specs.declared.job.Job.{Job}
use Rattle.jobs.specs.Limits.{max_chains, max_release, max_priority, max_time, max_deadline}
use Rattle.jobs.specs.Checks.{in_limits, times_in_limits}
use Rattle.jobs.specs.Accepted.{Limited}
use Rattle.jobs.specs.Claims.{within_limits}

-- the limits, from the test of each
limited_by : (j : Job)
    → leb j.chain max_chains ≡ true
    → leb j.release max_release ≡ true
    → leb j.priority max_priority ≡ true
    → leb 1 j.least ≡ true
    → leb j.least j.most ≡ true
    → leb j.most max_time ≡ true
    → leb j.deadline max_deadline ≡ true
    → Limited j
limited_by j chain release priority positive range time deadline =
    record {
      chains = leb-true j.chain max_chains chain;
      release = leb-true j.release max_release release;
      priority = leb-true j.priority max_priority priority;
      positive = leb-true 1 j.least positive;
      range = leb-true j.least j.most range;
      time = leb-true j.most max_time time;
      deadline = leb-true j.deadline max_deadline deadline;
    }

-- ---- one test for all
pub limited : (j : Job) → within_limits j ≡ true → Limited j
unfolding within_limits
limited j e =
    let deadline = and_parts e in
    let time = and_parts deadline.0 in
    let range = and_parts time.0 in
    let positive = and_parts range.0 in
    let priority = and_parts positive.0 in
    let release = and_parts priority.0 in
    limited_by j release.0 release.1 priority.1 positive.1 range.1 time.1 deadline.1

pub limited_within : (j : Job) → Limited j → within_limits j ≡ true
unfolding within_limits
limited_within j l =
    rw (
      le-leb j.chain max_chains l.chains,
      le-leb j.release max_release l.release,
      le-leb j.priority max_priority l.priority,
      le-leb 1 j.least l.positive,
      le-leb j.least j.most l.range,
      le-leb j.most max_time l.time,
      le-leb j.deadline max_deadline l.deadline,
    )

-- ---- the tests of the numbers 6, 12, 13 and 14
abbrev pub four_tests : Job → Bool
four_tests j = in_limits j && leb j.priority max_priority && times_in_limits j && leb j.least j.most

four_limited : (j : Job) → four_tests j ≡ true → Limited j
unfolding in_limits
four_limited j e =
    let range = and_parts e in
    let times = and_parts range.0 in
    let priority = and_parts times.0 in
    let deadline = and_parts priority.0 in
    let release = and_parts deadline.0 in
    let time = and_parts times.1 in
    let least = and_parts (and_parts time.0).0 in
    limited_by j release.0 release.1 priority.1 least.0 range.1 time.1 deadline.1

limited_four : (j : Job) → Limited j → four_tests j ≡ true
unfolding in_limits
limited_four j l =
    rw (
      le-leb j.chain max_chains l.chains,
      le-leb j.release max_release l.release,
      le-leb j.deadline max_deadline l.deadline,
      le-leb j.priority max_priority l.priority,
      le-leb 1 j.least l.positive,
      le-leb j.least max_time (omega (arith, l.range, l.time)),
      le-leb 1 j.most (omega (arith, l.positive, l.range)),
      le-leb j.most max_time l.time,
      le-leb j.least j.most l.range,
    )

-- ---- they pass together
pub four_as_one : (j : Job) → four_tests j ≡ within_limits j
four_as_one j =
    same_test (four_tests j) (within_limits j) (λ e. limited_within j (four_limited j e)) (λ e. limited_four j (limited j e))
