-- `set_in` answers `set_in`. The loop's invariant: the first n jobs are in the set. Assumes nothing.
use Rattle.numbers.proofs.Places.{set_none, set_next, set_all}
use native.Mathlib.Omega.{arith}
use Rattle.numbers.proofs.set.set_in.Goals as goal

pub loop-n-init : goal.loop-n-init
loop-n-init c = set_none _ _ _ c.empty-set.ensures

pub returns-then-n-ge-MAX_JOBS : goal.returns-then-n-ge-MAX_JOBS
returns-then-n-ge-MAX_JOBS c = set_all _ _ _ _ c.loop-n.invariant (omega (arith, c.if-n-ge-MAX_JOBS.true))

pub loop-n-preserved : goal.loop-n-preserved
loop-n-preserved c = set_next _ _ _ _ _ c.loop-n.invariant c.loop-n-test.true (omega (arith, c.if-n-ge-MAX_JOBS.false)) c.job_in.ensures

pub returns : goal.returns
returns c = set_all _ _ _ _ c.loop-n.invariant (omega (arith, c.loop-n-test.false))
