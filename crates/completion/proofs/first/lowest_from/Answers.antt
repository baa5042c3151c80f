-- `lowest_from` answers `lowest`. The loop's invariant: it is the lowest so far. Assumes nothing.
use Prim.Native.Nat.{ℕ, suc, ◌+◌, ◌-◌, min}
use Rattle.completion.proofs.Counting.{lent_by}
use Rattle.theory.proofs.Rules.{lowest_one, lowest_more}
use Rattle.theory.specs.Bounds.{lowest}
use mathlib.Core.Path.{◌≡◌, sym, ap, ap₂, ◌∙◌}
use native.Mathlib.Omega.{arith}
use Rattle.completion.proofs.first.lowest_from.Goals as goal

pub loop-i-init : goal.loop-i-init
loop-i-init c =
    let t = lent_by c.args.table.now in
    let here : c.args.k ≡ c.args.k + 1 - 1 = omega arith in
    c.urgency-low.ensures ∙ sym (lowest_one t c.args.k) ∙ ap (lowest t c.args.k) here

pub loop-i-preserved : goal.loop-i-preserved
loop-i-preserved c =
    let a = c.args in
    let l = c.loop-i in
    let t = lent_by a.table.now in
    let last : ℕ = l.i - 1 in
    let here : l.i ≡ suc last = omega (arith, l.auto.i) in
    let next : l.i + 1 - 1 ≡ suc last = omega (arith, l.auto.i) in
    c.min-low.ensures ∙ ap₂ min l.invariant (c.urgency.ensures ∙ ap t.urgency here) ∙ sym (lowest_more t a.k last (omega (arith, l.auto.i))) ∙ ap (lowest t a.k) (sym next)
