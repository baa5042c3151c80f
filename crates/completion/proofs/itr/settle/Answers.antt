-- `settle` answers the theory's `itr`. The loop's invariant: the bounds are those after the rounds so far, each of which changed some, what a sweep is lent
-- is ready, and the other array has nothing behind the jobs. The measure is what is left of the definition's rounds, of which theory proves that they
-- end. Assumes nothing.
use Rattle.completion.proofs.Counting.{lent_by}
use Rattle.completion.proofs.Rounding.{rounding_none, rounding_below, rounding_spare, rounding_rises, rounding_next, rounding_last, rounds_small}
use Rattle.theory.proofs.Refilling.{spare_none}
use Rattle.theory.proofs.SweptPairs.{ready_none}
use Rattle.theory.specs.Bounds.{after}
use borrow.Author.Rules.{rules}
use mathlib.Core.Path.{sym, ◌∙◌}
use native.Mathlib.Omega.{arith}
use Rattle.completion.proofs.itr.settle.Goals as goal

pub start-requires : goal.start-requires
start-requires c = spare_none c.args.table.now.count

pub loop-carried-init : goal.loop-carried-init
unfolding after
loop-carried-init c =
    let a = c.args in
    (rounding_none (lent_by a.table.now) _ c.start.ensures, rw c.new-carried.ensures (ready_none a.table.now.ended), spare_none a.table.now.count)

pub overflow_add-taken : goal.overflow_add-taken
overflow_add-taken c =
    let t = lent_by c.args.table.now in
    search (rules, rounding_below t c.loop-carried.invariant.0, rounds_small t c.args.table.now.fit)

pub repeats-requires : goal.repeats-requires
repeats-requires c =
    let t = lent_by c.args.table.now in
    let h = c.loop-carried.invariant in
    (rounding_rises t h.0, h.1, h.2)

pub returns-then-repeats : goal.returns-then-repeats
returns-then-repeats c =
    let t = lent_by c.args.table.now in
    rounding_last t c.loop-carried.invariant.0 _ c.repeats.ensures.1.0 (sym c.repeats.ensures.0 ∙ c.if-repeats.true)

-- below `once` is that the first round changed some bound
pub overflow_add-rounds : goal.overflow_add-rounds
overflow_add-rounds c =
    let t = lent_by c.args.table.now in
    let once = rounding_next t c.loop-carried.invariant.0 _ c.repeats.ensures.1.0 (sym c.repeats.ensures.0 ∙ c.if-repeats.false) in
    search (rules, rounding_below t once, rounds_small t c.args.table.now.fit)

pub repeats-requires-in-loop-carried : goal.repeats-requires-in-loop-carried
repeats-requires-in-loop-carried c =
    let t = lent_by c.args.table.now in
    let once = rounding_next t c.loop-carried.invariant.0 _ c.repeats.ensures.1.0 (sym c.repeats.ensures.0 ∙ c.if-repeats.false) in
    (rounding_rises t once, c.repeats.ensures.1.1, rounding_spare t c.loop-carried.invariant.0 c.args.table.now.fit.few)

pub returns-then-repeats-2 : goal.returns-then-repeats-2
returns-then-repeats-2 c =
    let t = lent_by c.args.table.now in
    let once = rounding_next t c.loop-carried.invariant.0 _ c.repeats.ensures.1.0 (sym c.repeats.ensures.0 ∙ c.if-repeats.false) in
    let again = c.repeats-in-loop-carried.ensures in
    rounding_last t once _ again.1.0 (sym again.0 ∙ c.if-repeats-2.true)

pub loop-carried-smaller : goal.loop-carried-smaller
loop-carried-smaller c = omega (arith, rounding_below (lent_by c.args.table.now) c.loop-carried.invariant.0)

pub loop-carried-preserved : goal.loop-carried-preserved
loop-carried-preserved c =
    let t = lent_by c.args.table.now in
    let once = rounding_next t c.loop-carried.invariant.0 _ c.repeats.ensures.1.0 (sym c.repeats.ensures.0 ∙ c.if-repeats.false) in
    let again = c.repeats-in-loop-carried.ensures in
    (rounding_next t once _ again.1.0 (sym again.0 ∙ c.if-repeats-2.false), again.1.1, rounding_spare t once c.args.table.now.fit.few)
