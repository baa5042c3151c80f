-- What the theorems ask of a table: its chains come in order, and its ranges are ranges.
--   Ordered      the chains' numbers never fall along the table
--   WellFormed   ordered, and each job takes at least a tick, its least within its most, its earliest release within its latest
-- Assumes nothing.
use Prim.Native.Nat.{ℕ, zero, suc, ◌+◌, ◌-◌, ◌≤◌, ◌<◌}
use mathlib.Core.Path.{◌≡◌, subst}
use native.Mathlib.Omega.{arith}
use native.Mathlib.Nat.{add-zero, add-suc}
use Rattle.theory.specs.Table.{Table}

abbrev pub Ordered : Table → Type 0
Ordered t = (i : ℕ) → suc i < t.count → t.chain i ≤ t.chain (suc i)

pub record WellFormed (t : Table) : Type 0 where
  pub ordered : Ordered t
  pub positive : (u : ℕ) → u < t.count → 1 ≤ t.least u
  pub range : (u : ℕ) → u < t.count → t.least u ≤ t.most u
  pub releases : (u : ℕ) → u < t.count → t.earliest u ≤ t.latest u

module _ (t : Table) (ordered : Ordered t) where
  chain_add : (i d : ℕ) → i + d < t.count → t.chain i ≤ t.chain (i + d)
  chain_add i zero l = rw (add-zero i) (omega arith)
  chain_add i (suc d) l = rw (add-suc i d) (omega (arith, chain_add i d (omega arith), ordered (i + d) (omega arith)))

  pub chain_le : (i j : ℕ) → i ≤ j → j < t.count → t.chain i ≤ t.chain j
  chain_le i j l m =
      let e : i + (j - i) ≡ j = omega arith in
      subst (λ (z : ℕ). t.chain i ≤ t.chain z) e (chain_add i (j - i) (omega arith))

  -- between two jobs of one chain all jobs are of it
  pub chain_between : (i k j : ℕ) → i ≤ k → k ≤ j → j < t.count → t.chain i ≡ t.chain j → t.chain k ≡ t.chain j
  chain_between i k j ik kj jl e = omega (arith, chain_le i k ik (omega arith), chain_le k j kj jl)
