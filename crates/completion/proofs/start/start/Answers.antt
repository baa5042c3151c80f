-- `start` answers `itr_start`. The loop's invariant: the bounds of the first i jobs stand in the array. Assumes nothing.
use Prim.Native.Nat.{ℕ}
use Rattle.completion.proofs.Counting.{lent_by}
use Rattle.theory.proofs.Predecessors.{not_before}
use Rattle.theory.proofs.Refilling.{refilled_all}
use Rattle.theory.proofs.Ruled.{ruled_none, ruled_time, ruled_next}
use Rattle.theory.specs.Bounds.{ert_rule, itr_start}
use borrow.Author.Rules.{rules}
use mathlib.Core.Path.{◌≡◌, ◌∙◌}
use native.Mathlib.Omega.{arith}
use Rattle.completion.proofs.start.start.Goals.{After-not_before}
use Rattle.completion.proofs.start.start.Goals as goal

abbrev none : ℕ → ℕ
none i = 0

-- the time from which the bound of the job at hand counts, by its place in the table
timed : (c : After-not_before) → let t = lent_by c.args.table.now in let l = c.loop-i in c.not_before.result ≡ not_before l.last (t.chain l.i) (t.latest l.i) l.bound
timed c = c.not_before.ensures ∙ rw (c.latest.ensures, c.chain-own.ensures)

pub loop-i-init : goal.loop-i-init
loop-i-init c = ruled_none (lent_by c.args.table.now) none c.args.bounds.now c.requires

pub overflow_add-bound : goal.overflow_add-bound
overflow_add-bound c =
    let t = c.args.table.now in
    let l = c.loop-i in
    let h = c.loop-i-test.true in
    search (rules, ruled_time (lent_by t) none t.fit l.invariant h c.not_before.result (timed c.before), t.fit.mosts l.i h, t.fit.few, h)

pub loop-i-preserved : goal.loop-i-preserved
loop-i-preserved c =
    let t = c.args.table.now in
    rw (c.most.ensures, c.chain-own.ensures)
    (ruled_next (lent_by t) none t.fit c.loop-i.invariant c.loop-i-test.true c.not_before.result _ (timed c.before.before) (omega arith) (omega arith))

pub returns : goal.returns
unfolding itr_start
returns c =
    let t = c.args.table.now in
    refilled_all (ert_rule (lent_by t) none) t.fit.few c.loop-i.invariant.bounds_are (omega (arith, c.loop-i-test.false))
