-- `write_entries` meets its contract. Assumes nothing.
use Rattle.jobs.proofs.Sets.{job_at_lem}
use Rattle.machine.proofs.Runnable.{sum_short}
use Rattle.machine.proofs.RunningTimes.{sum_whole}
use mathlib.Core.Path.{sym, ◌∙◌}
use Rattle.machine.proofs.Running.{reached_start, reached_within, reached_wait, turn_shown, turn_early, turn_inside, turn_works, turn_left, turn_ran, turn_idle, turn_some, turn_limit, ran_entries, idle_entries}
use Rattle.machine.proofs.Steps.{counted_start, counted_next, counted-end}
use Rattle.machine.proofs.Tracing.{written_start, written_few, written-length, written_idle, put_room, written-ran, written_count, written_all}
use native.Mathlib.Omega.{arith}
use Rattle.machine.proofs.trace.write_entries.Goals.{in-Some, in_default}
use Rattle.machine.proofs.trace.write_entries.Goals as goal

pub total-left-requires : goal.total-left-requires
total-left-requires c = sum_short c.requires.0

pub loop-left-init : goal.loop-left-init
loop-left-init c = rw c.start-state.ensures (reached_start c.requires.0 _ _ (c.total-left.ensures ∙ sym (sum_whole _)) c.next_release-release.ensures, counted_start _ _, written_start _)

pub leg_of-leg-requires : goal.leg_of-leg-requires
leg_of-leg-requires c = (omega (arith, reached_wait c.requires.0 c.loop-left.invariant.0 c.loop-left-test.true), reached_within c.requires.0 c.loop-left.invariant.0)

pub overflow_add-to : goal.overflow_add-to
overflow_add-to c = omega (arith, turn_limit (turn_shown c.args.jobs.columns.now c.requires.0 c.loop-left.invariant.0 c.loop-left-test.true c.leg_of-leg.ensures))

pub work_on-requires : goal.work_on-requires
work_on-requires c = turn_works (turn_shown c.args.jobs.columns.now c.requires.0 c.loop-left.invariant.0 c.loop-left-test.true c.leg_of-leg.ensures) c.in-Some.is

pub overflow_sub-left : goal.overflow_sub-left
overflow_sub-left c = omega (arith, turn_left (turn_shown c.args.jobs.columns.now c.requires.0 c.loop-left.invariant.0 c.loop-left-test.true c.leg_of-leg.ensures) c.in-Some.is)

pub put_at-put-requires : goal.put_at-put-requires
put_at-put-requires c = written_few _ c.requires.0 c.requires.2 c.loop-left.invariant.2

pub offset_bounds-set-at : goal.offset_bounds-set-at
offset_bounds-set-at c = omega (arith, (turn_works (turn_shown c.args.jobs.columns.now c.requires.0 c.loop-left.invariant.0 c.loop-left-test.true c.leg_of-leg.ensures) c.in-Some.is).0)

pub bounds-set-at : goal.bounds-set-at
bounds-set-at c = (turn_works (turn_shown c.args.jobs.columns.now c.requires.0 c.loop-left.invariant.0 c.loop-left-test.true c.leg_of-leg.ensures) c.in-Some.is).0

pub write_entry-requires : goal.write_entry-requires
write_entry-requires c =
    let t = turn_shown c.args.jobs.columns.now c.requires.0 c.loop-left.invariant.0 c.loop-left-test.true c.leg_of-leg.ensures in
    put_room _ c.requires.0 c.requires.2 c.loop-left.invariant.2 _ _ (turn_some t) (ran_entries t c.in-Some.is) _ c.put_at-put.ensures

pub loop-left-smaller : goal.loop-left-smaller
loop-left-smaller c =
    let t = turn_shown c.args.jobs.columns.now c.requires.0 c.loop-left.invariant.0 c.loop-left-test.true c.leg_of-leg.ensures in
    elim c.match-leg.branch [
      | in-Some w ↦ rw (w.state-is, w.work_on.ensures) (omega (arith, turn_early t, turn_some t))
      | in_default w ↦ rw w.state-is (omega (arith, turn_early t, turn_some t))
    ]

pub loop-left-preserved : goal.loop-left-preserved
loop-left-preserved c =
    let t = turn_shown c.args.jobs.columns.now c.requires.0 c.loop-left.invariant.0 c.loop-left-test.true c.leg_of-leg.ensures in
    let runnable = c.requires.0 in
    let wide = c.requires.2 in
    let counted = counted_next t c.loop-left.invariant.1 in
    let written = c.loop-left.invariant.2 in
    elim c.match-leg.branch [
      | in-Some w ↦
          let f = w.in-Some.is in
          rw (w.state-is, w.left-is, w.out-is, w.last-is, w.entries-is, w.work_on.ensures, w.write_entry.ensures, c.release_after-release.ensures) (
            turn_ran t f,
            counted,
            written-ran _ runnable wide written _ _ (turn_some t) (ran_entries t f) _ w.put_at-put.ensures _ (job_at_lem _ _ (omega (arith, turn_inside t f, c.requires.1))),
          )
      | in_default w ↦
          let f = w.in_default.is in
          rw (w.state-is, w.left-is, w.out-is, w.last-is, w.entries-is, c.release_after-release.ensures) (turn_idle t f, counted, written_idle _ runnable wide written _ (idle_entries t f))
    ]

pub shape_of-out : goal.shape_of-out
shape_of-out c = written-length _ c.requires.0 c.requires.2 c.loop-left.invariant.2

pub returns : goal.returns
returns c =
    let inv = c.loop-left.invariant in
    let none = c.loop-left-test.false in (
      rw (written_count _ c.requires.0 c.requires.2 inv.2 inv.0 none, counted-end c.requires.0 inv.0 none inv.1),
      written_all _ c.requires.0 c.requires.2 inv.2 inv.0 none,
    )
