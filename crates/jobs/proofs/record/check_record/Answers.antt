-- `check_record` answers `record_check`: the first test that fails decides. Assumes nothing.
use Rattle.jobs.specs.Checks.{record_check}
use Rattle.jobs.specs.Limits.{max_jobs}
use borrow.Author.Tests.{lt-ltb, le-ltb}
use mathlib.Core.Path.{sym, ◌∙◌}
use Rattle.jobs.proofs.record.check_record.Goals as goal

pub returns-then-n-ge-MAX_JOBS : goal.returns-then-n-ge-MAX_JOBS
unfolding record_check
returns-then-n-ge-MAX_JOBS c = simp (le-ltb c.args.n max_jobs c.if-n-ge-MAX_JOBS.true)

pub returns-then-not-is_next : goal.returns-then-not-is_next
unfolding record_check
returns-then-not-is_next c = simp (lt-ltb _ _ c.if-n-ge-MAX_JOBS.false, sym c.is_next.ensures ∙ c.if-not-is_next.true)

pub returns : goal.returns
unfolding record_check
returns c =
    let at-order = c.before in
    let room = lt-ltb _ _ at-order.if-n-ge-MAX_JOBS.false in
    simp (room, sym at-order.is_next.ensures ∙ at-order.if-not-is_next.false)
    c.check_values.ensures
