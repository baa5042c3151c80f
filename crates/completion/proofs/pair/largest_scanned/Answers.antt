-- `largest_scanned` answers `largest_pair`. The loop's invariant: the pairs from k on are behind it. Assumes nothing.
use Prim.Native.Nat.{ℕ, suc, ◌*◌, ◌-◌, ◌≤◌, ◌<◌, min}
use Rattle.completion.proofs.Counting.{lent_by, delay_small}
use Rattle.jobs.specs.Limits.{max_time}
use Rattle.laws.specs.Words.{number_at}
use Rattle.theory.proofs.Pairs.{walked_none, walked_sum, walked_low, walked_next, walked_stop, walked_all, pair_is}
use Rattle.theory.proofs.Weights.{spanned}
use Rattle.theory.specs.Bounds.{interference, overlap}
use borrow.Author.Rules.{rules}
use mathlib.Core.Path.{◌≡◌, ◌∙◌}
use native.Mathlib.Numerals.{add-one}
use native.Mathlib.Omega.{arith}
use Rattle.completion.proofs.pair.largest_scanned.Goals as goal

pub loop-k-init : goal.loop-k-init
loop-k-init c =
    let a = c.args in
    let t = lent_by a.table.now in
    rw (add-one, c.urgency-low.ensures) (walked_none t a.j (overlap t a.bound.now) max_time)

pub returns-then-chain-own : goal.returns-then-chain-own
returns-then-chain-own c =
    let a = c.args in
    let t = lent_by a.table.now in
    walked_stop t a.j (overlap t a.bound.now) max_time c.loop-k.invariant (omega arith) a.table.now.fit.ordered c.requires (rw (c.chain.ensures, c.chain-own.ensures) at c.if-chain-own.true)

pub overflow_add-latest-in-loop-k : goal.overflow_add-latest-in-loop-k
overflow_add-latest-in-loop-k c =
    let a = c.args in
    let fit = a.table.now.fit in
    let p : ℕ = c.loop-k.k - 1 in
    let inside : p < a.table.now.count = omega arith in
    let small : c.interference-delay.result ≤ a.table.now.count * max_time = delay_small a.table.now a.bound.now _ _ _ _ c.interference-delay.result c.interference-delay.ensures in
    search (rules, fit.mosts p inside, fit.late p inside, c.loop-k.invariant.small, fit.few, small)

pub loop-k-preserved : goal.loop-k-preserved
loop-k-preserved c =
    let a = c.args in
    let t = lent_by a.table.now in
    let keep = overlap t a.bound.now in
    let inv = c.loop-k.invariant in
    let p : ℕ = c.loop-k.k - 1 in
    let e : c.loop-k.k ≡ suc p = omega arith in
    let lowered : c.min-low.result ≡ min c.loop-k.low (t.urgency p) = c.min-low.ensures ∙ rw c.urgency.ensures in
    let delayed : c.interference-delay.result ≡ interference t (t.chain a.j) c.min-low.result (spanned a.table.now.columns a.bound.now (t.earliest p) (number_at a.bound.now a.j))
    = c.interference-delay.ensures ∙ rw (c.earliest.ensures, c.chain-own.ensures) in
    let same_chain = rw (c.chain.ensures, c.chain-own.ensures) at c.if-chain-own.false in
    let low = walked_low t a.j keep max_time inv e c.min-low.result lowered in
    let sum = walked_sum t a.j keep max_time inv e in
    let value = pair_is a.table.now.count a.table.now.columns a.bound.now p a.j _ _ _ (omega (arith, inv.inside)) sum low delayed in
    rw c.most-sum.ensures
    (walked_next t a.j keep max_time inv e c.min-low.result _ c.max-best.result same_chain (a.table.now.fit.mosts p (omega (arith, inv.inside))) lowered value
    (c.max-best.ensures ∙ rw (c.latest.ensures, c.most-sum.ensures)))

pub returns : goal.returns
returns c =
    let a = c.args in
    let t = lent_by a.table.now in
    walked_all t a.j (overlap t a.bound.now) max_time c.loop-k.k (omega (arith, c.loop-k-test.false)) c.loop-k.invariant
