-- `scan_round` answers the theory's. The loop's invariant: the bounds of the first j jobs stand in the array. Assumes nothing.
use Rattle.completion.proofs.Counting.{lent_by}
use Rattle.theory.proofs.Pairs.{round_at}
use Rattle.theory.proofs.Refilling.{refilled_all}
use Rattle.theory.specs.Bounds.{cja_with, round}
use native.Mathlib.Omega.{arith}
use Rattle.completion.proofs.round.scan_round.Goals as goal

pub returns : goal.returns
unfolding round cja_with
returns c =
    let a = c.args in
    let t = a.table.now in
    refilled_all (round_at (lent_by t) a.bound.now) t.fit.few c.loop-j.invariant.1 (omega (arith, c.loop-j-test.false))
