-- `sweep` raises the figure of each pair by the share of the jobs before hi. The loop's invariant: the pairs from k on are behind it, and the window ends
-- at hi. Assumes nothing.
use Prim.Native.Nat.{suc, ◌-◌, ◌<◌, min}
use Rattle.theory.proofs.ChainWindow.{WholeIn, releases_in}
use Rattle.theory.proofs.Columns.{figure}
use Rattle.theory.proofs.PairShares.{share_in, sweeping_none, sweeping_window, sweeping_share, sweeping_next, sweeping_all, share_limit}
use borrow.Author.Rules.{rules}
use mathlib.Core.Path.{◌≡◌, refl, ◌∙◌}
use native.Mathlib.Numerals.{add-one}
use native.Mathlib.Omega.{arith}
use Rattle.completion.proofs.sweep.sweep.Goals.{After-min-low, After-met-window, At-loop-k, Start}
use Rattle.completion.proofs.sweep.sweep.Goals as goal

-- the loop's head, from which the sweep goes on with the pair that begins a place before
abbrev start : At-loop-k → Start
start l = l.before.before

abbrev previous : (l : At-loop-k) → (start l).args.own < l.loop-k.k → l.loop-k.k ≡ suc (l.loop-k.k - 1)
previous l h = omega arith

-- the window with the pair at hand has all jobs that overlap, and still ends at hi
whole : (c : After-met-window) → let l = c.before.before in let a = (start l).args in let r = c.met-window.result in
    WholeIn a.table.now.columns a.bound.now (min l.loop-k.low (figure a.table.now.columns 1 (l.loop-k.k - 1))) (releases_in a.table.now.columns (l.loop-k.k - 1)) a.first r.lo a.hi r.edge r.largest
whole c = rw c.loop-k.invariant.0 at c.met-window.ensures.0

-- the share in the pair at hand
share : (c : After-met-window) → let l = c.before.before in let a = (start l).args in c.met-window.result.largest ≡ share_in a.table.now.columns a.bound.now a.j a.first a.hi (l.loop-k.k - 1)
share c =
    let l = c.before.before in
    let s = start l in
    let taken = c.loop-k-test.true in
    sweeping_share s.requires.0 l.loop-k.invariant.1 (previous l taken) (omega (arith, taken)) s.requires.1 refl (whole c)

-- the lowest urgency with that of the job at hand
lowered : (c : After-min-low) → let l = c.before.before.before.before in c.min-low.result ≡ min l.loop-k.low (figure (start l).args.table.now.columns 1 (l.loop-k.k - 1))
lowered c = c.min-low.ensures ∙ rw c.urgency.ensures

pub loop-k-init : goal.loop-k-init
loop-k-init c =
    let s = c.before in
    (refl, rw (add-one, c.urgency-low.ensures) (sweeping_none s.requires.0 s.requires.2.room))

pub met-window-requires : goal.met-window-requires
met-window-requires c =
    let l = c.before in
    let able = (start l).requires.0 in
    let h = l.loop-k.invariant.1 in
    rw l.loop-k.invariant.0
    (omega (arith, h.below, able.inside), sweeping_window able h (previous l c.loop-k-test.true) (omega arith), able.chain)

pub overflow_add-delay : goal.overflow_add-delay
overflow_add-delay c =
    let m = c.before.before.before.before.before in
    let l = m.before.before in
    let s = start l in
    let able = s.requires.0 in
    let h = l.loop-k.invariant.1 in
    let taken = m.loop-k-test.true in
    let p = l.loop-k.k - 1 in
    search (rules, share m, share_limit able p, h.still p (omega (arith, taken)), s.requires.2.small p (omega (arith, taken)) (omega (arith, taken, h.below)), able.chain.within, able.chain.before)

pub loop-k-preserved : goal.loop-k-preserved
loop-k-preserved c =
    let m = c.before.before.before.before.before in
    let l = m.before.before in
    let s = start l in
    let taken = m.loop-k-test.true in
    let low = lowered c.before.before.before in (
      m.met-window.ensures.1 ∙ l.loop-k.invariant.0,
      sweeping_next s.requires.0 l.loop-k.invariant.1 (previous l taken) (omega (arith, taken)) s.requires.1 low (rw (← low) at (whole m)) _ refl,
    )

pub returns : goal.returns
returns c = sweeping_all (start c.before).requires.0 c.loop-k.invariant.1 (omega (arith, c.loop-k-test.false))
