-- Effective releases: the rule step by step, their limits, and those of a part. Assumes nothing but that the chains come in order, where it is said.
use Prim.Native.Nat.{ℕ, zero, suc, ◌+◌, ◌*◌, ◌≤◌, ◌<◌, max}
use mathlib.Core.Path.{◌≡◌, refl, sym, ap, ◌∙◌}
use mathlib.Core.List.{List}
use native.Mathlib.Omega.{arith}
use borrow.Author.Tests.{eq-eqb, ne_eqb}
use Rattle.laws.proofs.Tests.{by_equal}
use Rattle.jobs.specs.declared.job.Job.{Job}
use Rattle.theory.specs.Table.{Table, joined, table_of, effective_release}
use Rattle.theory.proofs.Given.{effective_earliest, effective, given}
use Rattle.theory.specs.Claims.{Part}
use Rattle.theory.proofs.WellFormed.{Ordered}
use Rattle.theory.proofs.Rules.{First, first_zero, first_after}
use Rattle.theory.proofs.Parts.{walk}

abbrev effective_latest : Table → ℕ → ℕ
effective_latest t i = max (t.latest i) (effective_earliest t i)

module _ (t : Table) where
  pub release_first : (i : ℕ) → First t i → effective_earliest t i ≡ t.earliest i
  unfolding effective_release joined
  release_first zero first = refl
  release_first (suc i) first = rw (ne_eqb (t.chain i) (t.chain (suc i)) (first i refl))

  pub release-next : (i : ℕ) → t.chain i ≡ t.chain (suc i)
      → effective_earliest t (suc i) ≡ max (t.earliest (suc i)) (effective_earliest t i + t.least i)
  unfolding effective_release joined
  release-next i e = rw (eq-eqb (t.chain i) (t.chain (suc i)) e)

  pub release_own : (i : ℕ) → t.earliest i ≤ effective_earliest t i
  release_own zero = omega (arith, release_first 0 (first_zero t))
  release_own (suc i) =
      by_equal (t.chain i) (t.chain (suc i))
      (λ e. omega (arith, release-next i e))
      (λ ne. omega (arith, release_first (suc i) (first_after t i ne)))

  pub release_range : (i : ℕ) → effective_earliest t i ≤ effective_latest t i
  release_range i = omega arith

  -- where one release is given, one is effective
  pub release_one : (i : ℕ) → t.latest i ≤ t.earliest i → effective_earliest t i ≡ effective_latest t i
  release_one i l = omega (arith, release_own i)

  module _ (R M : ℕ) (hr : (u : ℕ) → u < t.count → t.earliest u ≤ R) (hm : (u : ℕ) → u < t.count → t.least u ≤ M) where
    pub release_limit : (i : ℕ) → i < t.count → effective_earliest t i ≤ R + i * M
    release_limit zero l = omega (arith, release_first 0 (first_zero t), hr 0 l)
    release_limit (suc i) l =
        by_equal (t.chain i) (t.chain (suc i))
        (λ e. omega (arith, release-next i e, hr (suc i) l, hm i (omega arith), release_limit i (omega arith)))
        (λ ne. omega (arith, release_first (suc i) (first_after t i ne), hr (suc i) l))

-- the table of a list of jobs
pub earliest_latest : (js : List Job) (i : ℕ) → (table_of js).earliest i ≡ (table_of js).latest i
earliest_latest js i = release_one (given js) i (omega arith)

module _ {part t : Table} {place number : ℕ → ℕ} (h : Part part t place number) (o : Ordered t) where
  earliest_same : (i : ℕ) → i < part.count → effective_earliest t (place i) ≡ effective_earliest part i
  earliest_same =
      walk
      h
      o
      (λ i. effective_earliest t (place i) ≡ effective_earliest part i)
      (λ i il a b. release_first t (place i) b ∙ h.earliest i il ∙ sym (release_first part i a))
      (λ i il e n c before.
      let own : t.earliest (suc (place i)) ≡ part.earliest (suc i) = ap t.earliest (sym n) ∙ h.earliest (suc i) il in
      omega (arith, ap (effective_earliest t) n, release-next t (place i) c, release-next part i e, h.least i (omega arith)))

  latest-same : (i : ℕ) → i < part.count → effective_latest t (place i) ≡ effective_latest part i
  latest-same i l = omega (arith, earliest_same i l, h.latest i l)

  pub effective_part : Part (effective part) (effective t) place number
  effective_part =
      record {
        inside = h.inside;
        rises = h.rises;
        upwards = h.upwards;
        chain = h.chain;
        urgency = h.urgency;
        least = h.least;
        most = h.most;
        earliest = earliest_same;
        latest = latest-same;
        whole = h.whole;
      }
