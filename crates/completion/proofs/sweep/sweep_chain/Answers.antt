-- `sweep_chain` raises the figures by the chain's share, and leaves them alone for j's own chain. Assumes nothing.
use Prim.Native.Nat.{◌≤◌}
use Rattle.theory.proofs.ChainWindow.{Late, releases_in, bounds_in, late_both}
use Rattle.theory.proofs.Columns.{figure}
use Rattle.theory.proofs.PairDelays.{moved_none, moved_to, other_none, other_raised}
use Rattle.theory.proofs.PairShares.{Sweepable, sweepable_less, share_whole}
use native.Mathlib.Omega.{arith}
use Rattle.completion.proofs.sweep.sweep_chain.Goals as goal

pub returns-then-chain : goal.returns-then-chain
returns-then-chain c =
    let a = c.args in
    let same = rw (c.chain-2.ensures, c.chain.ensures) at c.if-chain.true in
    (other_none a.table.now.columns a.bound.now a.own a.j a.first a.carried.now.delay same c.requires.2.room, moved_none c.requires.1)

pub first_late-late-requires : goal.first_late-late-requires
first_late-late-requires c =
    let able = c.requires.0 in
    rw c.end.ensures (c.requires.1.few, able.chain.within, λ u v a b d. able.chain.releases u v (omega arith) b d)

-- where the jobs released too late begin, and where those released in time end
pub after_early-hi-requires : goal.after_early-hi-requires
after_early-hi-requires c =
    let able = c.requires.0 in
    let late = rw c.end.ensures at c.first_late-late.ensures in
    (omega (arith, late.0), omega (arith, late.1, able.chain.within), λ u v a b d. able.chain.releases u v a b (omega (arith, late.1)))

-- the window ends within the chain
pub sweep-requires : goal.sweep-requires
sweep-requires c =
    let a = c.args in
    let late = rw c.end.ensures at c.first_late-late.ensures in
    let within : c.after_early-hi.result ≤ figure a.table.now.columns 5 a.first = omega (arith, c.after_early-hi.ensures.1, late.1) in
    (sweepable_less c.requires.0 c.after_early-hi.ensures.0 within, c.after_early-hi.ensures.2, c.requires.2)

-- behind the window all jobs are released too late
pub returns : goal.returns
returns c =
    let a = c.args in
    let other = rw (c.chain-2.ensures, c.chain.ensures) at c.if-chain.false in
    let late = rw c.end.ensures at c.first_late-late.ensures in
    let within : c.after_early-hi.result ≤ figure a.table.now.columns 5 a.first = omega (arith, c.after_early-hi.ensures.1, late.1) in
    let behind : Late (releases_in a.table.now.columns) (bounds_in a.bound.now a.j) c.after_early-hi.result (figure a.table.now.columns 5 a.first) = late_both c.after_early-hi.ensures.3 late.2 in
    let swept : Sweepable a.table.now.columns a.bound.now a.own a.j a.first c.after_early-hi.result = sweepable_less c.requires.0 c.after_early-hi.ensures.0 within in (
      other_raised a.table.now.columns a.bound.now a.own a.j a.first a.carried.now.delay other c.after_early-hi.result (share_whole swept (figure a.table.now.columns 5 a.first) within behind) _ c.sweep.ensures,
      moved_to c.requires.1 _ (omega (arith, within, c.after_early-hi.ensures.0)),
    )
