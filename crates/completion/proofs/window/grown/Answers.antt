-- `grown` takes in all jobs before the window that overlap. The loop's invariant: the window from place lo on is swept. Assumes nothing.
use Prim.Native.Nat.{suc, ◌-◌}
use Rattle.jobs.specs.Limits.{max_time}
use Rattle.theory.proofs.ChainWindow.{swept_next, swept_small}
use mathlib.Core.Path.{◌≡◌, ◌∙◌}
use native.Mathlib.Omega.{arith}
use Rattle.completion.proofs.window.grown.Goals as goal

pub loop-p-init : goal.loop-p-init
loop-p-init c = c.requires.0

pub opened-edge-requires : goal.opened-edge-requires
opened-edge-requires c =
    let s = c.before.before.before.before.before.before.before.before in
    let l = c.loop-p in
    let taken = c.loop-p-test.true in
    let small = swept_small l.invariant max_time s.requires.1.mosts in
    omega (arith, small, s.requires.1.within, l.invariant.inside, taken, s.requires.1.mosts (l.p - 1) (omega (arith, l.invariant.inside, taken)), c.most.ensures)

pub loop-p-preserved : goal.loop-p-preserved
loop-p-preserved c =
    let s = c.before.before.before.before.before.before.before.before.before.before in
    let l = c.loop-p in
    let taken = c.loop-p-test.true in
    let e : l.p ≡ suc (l.p - 1) = omega (arith, taken) in
    swept_next l.invariant (l.p - 1) _ _ e (omega (arith, taken)) (omega (arith, c.if-bound-p.false))
    (c.opened-edge.ensures ∙ rw (c.most.ensures, c.urgency.ensures)) c.max-largest.ensures
