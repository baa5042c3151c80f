-- `first_pair` answers `first_pair`. The loop's invariant: the pairs from k on are behind it, and the first of them that gives the bound is known. Assumes nothing.
use Prim.Native.Nat.{ℕ, suc, ◌+◌, ◌*◌, ◌-◌, ◌≤◌, ◌<◌, min}
use Rattle.completion.proofs.Counting.{lent_by, delay_small}
use Rattle.jobs.specs.Limits.{max_time}
use Rattle.laws.specs.Words.{number_at}
use Rattle.theory.proofs.FirstPairs.{earlier, found_none, found_next, found_all, found_stop, known_none, known_next}
use Rattle.theory.proofs.Pairs.{walked_sum, walked_low, pair_is}
use Rattle.theory.proofs.Weights.{spanned}
use Rattle.theory.specs.Bounds.{interference, pair_bound, overlap}
use borrow.Author.Rules.{rules}
use mathlib.Core.Logic.{◌≢◌}
use mathlib.Core.Path.{◌≡◌, ap, ◌∙◌}
use native.Mathlib.Numerals.{add-one}
use native.Mathlib.Omega.{arith}
use Rattle.completion.proofs.first.first_pair.Goals as goal

pub loop-k-init : goal.loop-k-init
loop-k-init c =
    let a = c.args in
    let t = lent_by a.table.now in
    let keep = overlap t a.bound.now in
    rw (add-one, c.urgency-low.ensures) (known_none t keep a.j max_time, found_none t keep a.j)

pub returns-then-chain-own : goal.returns-then-chain-own
returns-then-chain-own c =
    let a = c.args in
    let t = lent_by a.table.now in
    let p : ℕ = c.loop-k.k - 1 in
    let other : t.chain p ≢ t.chain a.j = rw (c.chain.ensures, c.chain-own.ensures) at c.if-chain-own.true in
    found_stop t (overlap t a.bound.now) a.j a.table.now.fit.ordered c.requires.0 (omega arith) (omega (arith, c.loop-k.invariant.0.inside)) other c.loop-k.invariant.1

pub overflow_add-latest-in-loop-k : goal.overflow_add-latest-in-loop-k
overflow_add-latest-in-loop-k c =
    let a = c.args in
    let fit = a.table.now.fit in
    let p : ℕ = c.loop-k.k - 1 in
    let inside : p < a.table.now.count = omega (arith, c.requires.0) in
    let small : c.interference-delay.result ≤ a.table.now.count * max_time = delay_small a.table.now a.bound.now _ _ _ _ c.interference-delay.result c.interference-delay.ensures in
    search (rules, fit.mosts p inside, fit.late p inside, c.loop-k.invariant.0.small, fit.few, small)

pub loop-k-preserved : goal.loop-k-preserved
loop-k-preserved c =
    let a = c.args in
    let t = lent_by a.table.now in
    let keep = overlap t a.bound.now in
    let inv = c.loop-k.invariant in
    let p : ℕ = c.loop-k.k - 1 in
    let e : c.loop-k.k ≡ suc p = omega arith in
    let lowered : c.min-low.result ≡ min c.loop-k.low (t.urgency p) = c.min-low.ensures ∙ rw c.urgency.ensures in
    let delayed : c.interference-delay.result ≡ interference t (t.chain a.j) c.min-low.result (spanned a.table.now.columns a.bound.now (t.earliest p) (number_at a.bound.now a.j))
    = c.interference-delay.ensures ∙ rw (c.earliest.ensures, c.chain-own.ensures) in
    let same_chain : t.chain p ≡ t.chain a.j = rw (c.chain.ensures, c.chain-own.ensures) at c.if-chain-own.false in
    let least = walked_low t a.j keep max_time inv.0 e c.min-low.result lowered in
    let sum = walked_sum t a.j keep max_time inv.0 e in
    let value = pair_is a.table.now.count a.table.now.columns a.bound.now p a.j _ _ _ (omega (arith, inv.0.inside)) sum least delayed in
    let most = c.most-sum.ensures in
    let summed : ℕ = c.latest.result + (c.loop-k.sum + c.most-sum.result) + c.interference-delay.result in
    let is : summed ≡ pair_bound t keep p a.j = omega (arith, c.latest.ensures, most, value) in
    rw most (
      known_next t keep a.j max_time inv.0 e c.min-low.result _ same_chain (a.table.now.fit.mosts p (omega (arith, c.requires.0))) lowered value,
      found_next t keep a.j e (omega (arith, inv.0.inside)) same_chain summed c.earlier-first.result is
          (c.earlier-first.ensures ∙ ap (λ (best : ℕ). earlier summed best p c.loop-k.first) c.requires.1) inv.1,
    )

pub returns : goal.returns
returns c =
    let a = c.args in
    let t = lent_by a.table.now in
    found_all t (overlap t a.bound.now) a.j (omega (arith, c.loop-k-test.false)) c.loop-k.invariant.1
