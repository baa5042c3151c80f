-- `by_rule` answers the ERT bounds of the table. The loop's invariant: the bounds of the first i jobs stand in the array. Assumes nothing.
use Prim.Native.Nat.{ℕ, ◌+◌}
use Rattle.completion.proofs.Counting.{lent_by, delay_small}
use Rattle.completion.specs.declared.table.Table.{Table}
use Rattle.theory.proofs.Late.{late, delay_late}
use Rattle.theory.proofs.Predecessors.{not_before}
use Rattle.theory.proofs.Refilling.{spare_none, refilled_all}
use Rattle.theory.proofs.Ruled.{ruled_none, ruled_time, ruled_next}
use Rattle.theory.proofs.Weights.{spanned}
use Rattle.theory.specs.Bounds.{interference, bound_limit, ert_rule, interference_at, ert}
use borrow.Author.Rules.{rules}
use mathlib.Core.Path.{◌≡◌, ap, ◌∙◌}
use native.Mathlib.Omega.{arith}
use Rattle.completion.proofs.ert.by_rule.Goals.{After-interference-delay, After-not_before}
use Rattle.completion.proofs.ert.by_rule.Goals as goal

-- the interference on the job at a place, as the scan works it out
abbrev Delay : Table → ℕ → ℕ → Type 0
Delay t i delay = delay ≡ interference (lent_by t) ((lent_by t).chain i) ((lent_by t).urgency i) (spanned t.columns late 0 bound_limit)

delay-is : (t : Table) (i delay : ℕ) → Delay t i delay → delay ≡ interference_at (lent_by t) i
delay-is t i delay e = delay_late t.count t.columns t.fit i delay e

-- the interference on the job at hand, and the time from which its bound counts, by its place in the table
delayed : (c : After-interference-delay) → Delay c.args.table.now c.loop-i.i c.interference-delay.result
delayed c = c.interference-delay.ensures ∙ rw (c.urgency.ensures, c.chain-own.ensures)

timed : (c : After-not_before) → let t = lent_by c.args.table.now in let l = c.loop-i in c.not_before.result ≡ not_before l.last (t.chain l.i) (t.latest l.i) l.bound
timed c = c.not_before.ensures ∙ rw (c.latest.ensures, c.chain-own.ensures)

pub loop-i-init : goal.loop-i-init
loop-i-init c = let t = lent_by c.args.table.now in ruled_none t (interference_at t) _ (spare_none t.count)

pub overflow_add-bound : goal.overflow_add-bound
overflow_add-bound c =
    let t = c.args.table.now in
    let l = c.loop-i in
    let h = c.loop-i-test.true in
    let time = ruled_time (lent_by t) (interference_at (lent_by t)) t.fit l.invariant h c.not_before.result (timed c.before) in
    search (rules, time, t.fit.mosts l.i h, t.fit.few, h)

pub overflow_add-bound-in-loop-i : goal.overflow_add-bound-in-loop-i
overflow_add-bound-in-loop-i c =
    let t = c.args.table.now in
    let l = c.loop-i in
    let h = c.loop-i-test.true in
    let time = ruled_time (lent_by t) (interference_at (lent_by t)) t.fit l.invariant h c.not_before.result (timed c.before) in
    search (rules, time, t.fit.mosts l.i h, t.fit.few, h, delay_small t late _ _ _ _ c.interference-delay.result (delayed c.before.before.before))

pub loop-i-preserved : goal.loop-i-preserved
loop-i-preserved c =
    let t = c.args.table.now in
    let l = c.loop-i in
    let delay = c.interference-delay.result in
    let told = delayed c.before.before.before in
    let is = delay-is t l.i delay told in
    rw (c.most.ensures, c.chain-own.ensures)
    (ruled_next (lent_by t) (interference_at (lent_by t)) t.fit l.invariant c.loop-i-test.true c.not_before.result _ (timed c.before)
    (omega (arith, is, delay_small t late _ _ _ _ delay told))
    (ap (λ (d : ℕ). c.not_before.result + (lent_by t).most l.i + d) is))

pub returns : goal.returns
unfolding ert
returns c =
    let t = lent_by c.args.table.now in
    refilled_all (ert_rule t (interference_at t)) c.args.table.now.fit.few c.loop-i.invariant.bounds_are (omega (arith, c.loop-i-test.false))
