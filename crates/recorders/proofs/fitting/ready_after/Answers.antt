-- `ready_after` meets its contract. Assumes nothing.
use Rattle.theory.proofs.Predecessors.{not_before}
use borrow.Author.Tests.{eq-eqb, ne_eqb}
use native.Mathlib.Omega.{arith}
use Rattle.recorders.proofs.fitting.ready_after.Goals as goal

pub returns-then-job-done : goal.returns-then-job-done
unfolding not_before
returns-then-job-done c = rw (eq-eqb _ _ c.if-chain-job.true) (omega arith)

pub returns-else-job-done : goal.returns-else-job-done
unfolding not_before
returns-else-job-done c = rw (eq-eqb _ _ c.if-chain-job.true) (omega arith)

pub returns-else-chain-job : goal.returns-else-chain-job
unfolding not_before
returns-else-chain-job c = rw (ne_eqb _ _ c.if-chain-job.false)
