-- Rules that go from a job to the next, with what a loop keeps of the job before: the ERT rule and the effective releases. Assumes nothing.
use Prim.Native.Nat.{ℕ, zero, suc, ◌+◌, ◌≤◌, max}
use mathlib.Core.Path.{◌≡◌}
use mathlib.Core.Bool.{cond}
use native.Mathlib.Omega.{arith}
use lib.Dec.{eqb}
use Rattle.laws.proofs.Tests.{by_test}
use Rattle.theory.specs.Table.{Table, joined, effective_release}
use Rattle.theory.proofs.Given.{effective_earliest}
use Rattle.theory.specs.Bounds.{ert_rule}
use Rattle.theory.proofs.Prior.{prior}

-- A time of a job that does not come before one of its predecessor; the job before it is of chain `last`.
unfoldable pub not_before : ℕ → ℕ → ℕ → ℕ → ℕ
not_before last chain time predecessor = cond (eqb last chain) (max time predecessor) time

module _ (t : Table) where
  pub ert_by : (inter : ℕ → ℕ) (i : ℕ)
      → ert_rule t inter i ≡ not_before (prior t.chain i) (t.chain i) (t.latest i) (prior (ert_rule t inter) i) + t.most i + inter i
  unfolding ert_rule joined not_before prior
  ert_by inter zero = by_test (eqb 0 (t.chain 0)) (λ e. rw e (omega arith)) (λ e. rw e (omega arith))
  ert_by inter (suc i) = by_test (eqb (t.chain i) (t.chain (suc i))) (λ e. rw e (omega arith)) (λ e. rw e (omega arith))

  pub release_by : (i : ℕ)
      → effective_earliest t i ≡ not_before (prior t.chain i) (t.chain i) (t.earliest i) (prior (λ v. effective_earliest t v + t.least v) i)
  unfolding effective_release joined not_before prior
  release_by zero = by_test (eqb 0 (t.chain 0)) (λ e. rw e (omega arith)) (λ e. rw e (omega arith))
  release_by (suc i) = by_test (eqb (t.chain i) (t.chain (suc i))) (λ e. rw e (omega arith)) (λ e. rw e (omega arith))

-- a time that does not come before another is one of the two
pub not_before_limit : (last chain time predecessor limit : ℕ) → time ≤ limit → predecessor ≤ limit → not_before last chain time predecessor ≤ limit
unfolding not_before
not_before_limit last chain time predecessor limit a b =
    by_test (eqb last chain) (λ e. rw e (omega arith)) (λ e. rw e (omega arith))
