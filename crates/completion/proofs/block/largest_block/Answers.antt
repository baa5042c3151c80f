-- `largest_block` answers `largest_over`. The loop's invariant: the blocks up to place i are behind it. Assumes nothing.
use Rattle.completion.proofs.Counting.{counts, counts_limit}
use Rattle.jobs.specs.Limits.{max_time}
use Rattle.theory.proofs.Stretches.{blocked_none, blocked_small, blocked_next}
use mathlib.Core.Path.{◌∙◌}
use native.Mathlib.Omega.{arith}
use Rattle.completion.proofs.block.largest_block.Goals as goal

pub loop-i-init : goal.loop-i-init
loop-i-init c = let a = c.args in blocked_none _ a.target.urgency (counts a.table.now a.bound.now a.target) a.first a.end c.requires.0

pub opened-block-requires : goal.opened-block-requires
opened-block-requires c =
    let a = c.args in
    let l = c.loop-i in
    let limit = counts_limit a.table.now a.bound.now a.target in
    let small = blocked_small _ a.target.urgency (counts a.table.now a.bound.now a.target) a.first a.end l.invariant max_time (λ i h. limit i (omega (arith, c.requires.1))) in
    omega (arith, a.table.now.fit.few, c.requires.1, l.invariant.inside, small, limit l.i (omega (arith, c.requires.1)), c.counted-counts.ensures)

pub loop-i-preserved : goal.loop-i-preserved
loop-i-preserved c =
    let a = c.args in
    let l = c.loop-i in
    blocked_next _ a.target.urgency (counts a.table.now a.bound.now a.target) a.first a.end l.invariant c.loop-i-test.true _ _
    (c.opened-block.ensures ∙ rw (c.urgency.ensures, c.counted-counts.ensures)) c.max-largest.ensures
