-- `sweep_chains` answers the interference on each pair. The loop's invariant: the shares of the chains before place i are added up. The measure is what
-- is left of the places. Assumes nothing.
use Rattle.theory.proofs.PairDelays.{delaying_none, delaying_small, delaying_ends, delaying_counted, delaying_able, delaying_next, delaying_all}
use native.Mathlib.Omega.{arith}
use Rattle.completion.proofs.sweep.sweep_chains.Goals as goal

pub loop-i-init : goal.loop-i-init
loop-i-init c = let ready = c.requires.1 in delaying_none c.requires.0 ready.counted ready.room ready.clear

pub sweep_chain-requires : goal.sweep_chain-requires
sweep_chain-requires c =
    let able = c.requires.0 in
    let h = c.loop-i.invariant in
    let taken = c.loop-i-test.true in
    (delaying_able able h taken, delaying_counted able h taken, delaying_small able h)

pub loop-i-smaller : goal.loop-i-smaller
loop-i-smaller c =
    let taken = c.loop-i-test.true in
    omega (arith, taken, c.end-i.ensures, (delaying_ends c.requires.0 c.loop-i.invariant taken).later)

pub loop-i-preserved : goal.loop-i-preserved
loop-i-preserved c =
    let e = c.sweep_chain.ensures in
    rw c.end-i.ensures (delaying_next c.requires.0 c.loop-i.invariant c.loop-i-test.true e.1 e.0)

pub returns : goal.returns
returns c =
    let h = c.loop-i.invariant in
    (delaying_all c.requires.0 h (omega (arith, c.loop-i-test.false)), h.counted)
