-- The first place of a job's chain, as a walk over the table finds it.
--   HeadOf    the first place of the chain of the job at j
--   Heading   what the walk over the jobs holds before place j of the chain that it is in
-- Assumes that the chains come in order.
use Prim.Native.Nat.{ℕ, zero, suc, ◌+◌, ◌-◌, ◌≤◌, ◌<◌}
use mathlib.Core.Path.{◌≡◌, refl, subst, ◌∙◌}
use mathlib.Core.Bool.{cond}
use native.Mathlib.Omega.{arith}
use lib.Dec.{eqb}
use borrow.Author.Tests.{eq-eqb, ne_eqb}
use Rattle.laws.proofs.Tests.{by_test, by_order, by_equal}
use Rattle.theory.specs.Table.{Table}
use Rattle.theory.proofs.WellFormed.{Ordered, chain_le}
use Rattle.theory.proofs.Endings.{First}
use Rattle.theory.proofs.Prior.{prior}

pub record HeadOf (chain : ℕ → ℕ) (own j : ℕ) : Type 0 where
  pub begins : own ≤ j
  pub head : First chain own
  pub same : chain own ≡ chain j

pub record Heading (chain : ℕ → ℕ) (own j : ℕ) : Type 0 where
  pub none : j ≡ 0 → own ≡ 0
  pub some : (p : ℕ) → j ≡ suc p → HeadOf chain own p

pub heading_none : (chain : ℕ → ℕ) → Heading chain 0 0
heading_none chain = record { none = λ e. refl; some = λ p e. absurd (omega arith) }

module _ {chain : ℕ → ℕ} {own j : ℕ} (h : Heading chain own j) where
  pub heading_within : own ≤ j
  heading_within = by_order j 0 (λ l. omega (arith, h.none (omega arith))) (λ l. omega (arith, (h.some (j - 1) (omega arith)).begins))

pub heading_on : {chain : ℕ → ℕ} {own j : ℕ} → HeadOf chain own j → Heading chain own (j + 1)
heading_on {chain} {own} {j} mine =
    record { none = λ e. absurd (omega arith); some = λ p e. let q : j ≡ p = omega arith in subst (λ (z : ℕ). HeadOf chain own z) q mine }

pub heading_next : (t : Table) → Ordered t → (own j : ℕ) → j < t.count → Heading t.chain own j → (own' : ℕ) → own' ≡ cond (eqb (prior t.chain j) (t.chain j)) own j
    → HeadOf t.chain own' j
unfolding prior
heading_next t o own zero l h own' e =
    let same : own' ≡ 0 = e ∙ by_test (eqb 0 (t.chain 0)) (λ b. rw b (h.none refl)) (λ b. rw b) in
    rw same (record { begins = omega arith; head = λ v vl. absurd (omega arith); same = refl })
heading_next t o own (suc p) l h own' e =
    by_equal (t.chain p) (t.chain (suc p))
    (λ q.
    let same : own' ≡ own = e ∙ rw (eq-eqb (t.chain p) (t.chain (suc p)) q) in
    let at = h.some p refl in
    rw same (record { begins = omega (arith, at.begins); head = at.head; same = at.same ∙ q }))
    (λ ne.
    let new : own' ≡ suc p = e ∙ rw (ne_eqb (t.chain p) (t.chain (suc p)) ne) in
    rw new (record { begins = omega arith; head = λ v vl q. ne (omega (arith, chain_le t o v p (omega arith) (omega arith), chain_le t o p (suc p) (omega arith) l, q)); same = refl }))
