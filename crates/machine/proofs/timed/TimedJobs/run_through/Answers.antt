-- `run_through` meets its contract. Assumes nothing.
use Rattle.machine.proofs.Runnable.{sum_short}
use Rattle.machine.proofs.RunningTimes.{sum_whole}
use mathlib.Core.Path.{sym, ◌∙◌}
use Rattle.machine.proofs.Running.{reached_start, reached_within, reached_wait, reached_finish, reached_completions, turn_shown, turn_early, turn_works, turn_left, turn_ran, turn_idle, turn_some, turn_limit}
use Rattle.machine.proofs.Steps.{counted_start, counted_next, counted-end}
use native.Mathlib.Omega.{arith}
use Rattle.machine.proofs.timed.TimedJobs.run_through.Goals.{in-Some, in_default}
use Rattle.machine.proofs.timed.TimedJobs.run_through.Goals as goal

pub total-left-requires : goal.total-left-requires
total-left-requires c = sum_short c.requires

pub loop-left-init : goal.loop-left-init
loop-left-init c = rw c.start-state.ensures (reached_start c.requires _ _ (c.total-left.ensures ∙ sym (sum_whole _)) c.next_release-release.ensures, counted_start _ _)

pub leg_of-leg-requires : goal.leg_of-leg-requires
leg_of-leg-requires c = (omega (arith, reached_wait c.requires c.loop-left.invariant.0 c.loop-left-test.true), reached_within c.requires c.loop-left.invariant.0)

pub overflow_add-state : goal.overflow_add-state
overflow_add-state c = omega (arith, turn_limit (turn_shown c.args.self.columns.now c.requires c.loop-left.invariant.0 c.loop-left-test.true c.leg_of-leg.ensures))

pub work_on-requires : goal.work_on-requires
work_on-requires c = turn_works (turn_shown c.args.self.columns.now c.requires c.loop-left.invariant.0 c.loop-left-test.true c.leg_of-leg.ensures) c.in-Some.is

pub overflow_sub-left : goal.overflow_sub-left
overflow_sub-left c = omega (arith, turn_left (turn_shown c.args.self.columns.now c.requires c.loop-left.invariant.0 c.loop-left-test.true c.leg_of-leg.ensures) c.in-Some.is)

pub loop-left-smaller : goal.loop-left-smaller
loop-left-smaller c =
    let t = turn_shown c.args.self.columns.now c.requires c.loop-left.invariant.0 c.loop-left-test.true c.leg_of-leg.ensures in
    elim c.match-leg.branch [
      | in-Some w ↦ rw (w.state-is, w.work_on.ensures) (omega (arith, turn_early t, turn_some t))
      | in_default w ↦ rw w.state-is (omega (arith, turn_early t, turn_some t))
    ]

pub loop-left-preserved : goal.loop-left-preserved
loop-left-preserved c =
    let t = turn_shown c.args.self.columns.now c.requires c.loop-left.invariant.0 c.loop-left-test.true c.leg_of-leg.ensures in
    let counted = counted_next t c.loop-left.invariant.1 in
    elim c.match-leg.branch [
      | in-Some w ↦ rw (c.release_after-release.ensures, w.state-is, w.left-is, w.work_on.ensures) (turn_ran t w.in-Some.is, counted)
      | in_default w ↦ rw (c.release_after-release.ensures, w.state-is, w.left-is) (turn_idle t w.in_default.is, counted)
    ]

pub returns : goal.returns
returns c =
    let runnable = c.requires in
    let reached = c.loop-left.invariant.0 in
    let none = c.loop-left-test.false in
    rw (reached_completions runnable reached none, reached_finish runnable reached none, counted-end runnable reached none c.loop-left.invariant.1)
