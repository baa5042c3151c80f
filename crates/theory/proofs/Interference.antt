-- Interference grows with the weights, and is at most all the weight outside the target's chain.
--   outside   the weight of a job, 0 for one of the target's own chain
-- Assumes nothing.
use Prim.Native.Nat.{ℕ, zero, suc, ◌≤◌, ◌<◌}
use mathlib.Core.Path.{◌≡◌, refl}
use mathlib.Core.Logic.{◌≢◌}
use mathlib.Core.Bool.{cond}
use native.Mathlib.Omega.{arith}
use lib.Dec.{eqb}
use borrow.Author.Tests.{eqb-false, ne_eqb}
use Rattle.laws.specs.Words.{sum_below}
use Rattle.laws.proofs.Tests.{by_test, by_equal}
use Rattle.laws.proofs.Sums.{sum_mono, sum_zero}
use Rattle.theory.specs.Table.{Table}
use Rattle.theory.specs.Bounds.{largest_block, interference}
use Rattle.theory.proofs.Chains.{chains, chain_sum, chain_in, chain_out, by_chains}
use Rattle.theory.proofs.Blocks.{block_mono, block_sum_lem}

unfoldable pub outside : Table → ℕ → (ℕ → ℕ) → ℕ → ℕ
outside t own w u = cond (eqb (t.chain u) own) 0 (w u)

module _ (t : Table) (own target : ℕ) where
  -- what each other chain's largest block is at most, added up
  pub interference-within : (w g : ℕ → ℕ) → ((c : ℕ) → c ≢ own → largest_block t c target w t.count ≤ g c)
      → interference t own target w ≤ sum_below (suc (chains t)) (λ c. cond (eqb c own) 0 (g c))
  unfolding interference
  interference-within w g h =
      sum_mono _ _ _ (λ c l. by_test (eqb c own) (λ e. let none : 0 ≤ 0 = omega arith in rw e none) (λ e. rw e (h c (eqb-false c own e))))

  pub interference_mono : (w v : ℕ → ℕ) → ((u : ℕ) → u < t.count → t.chain u ≢ own → w u ≤ v u)
      → interference t own target w ≤ interference t own target v
  interference_mono w v h =
      unfold interference in
      interference-within w (λ c. largest_block t c target v t.count) (λ c ne. block_mono t c target w v t.count (λ u ul e. h u ul (omega arith)))

  pub interference-same : (w v : ℕ → ℕ) → ((u : ℕ) → u < t.count → t.chain u ≢ own → w u ≡ v u)
      → interference t own target w ≡ interference t own target v
  interference-same w v h =
      omega (
        arith,
        interference_mono w v (λ u ul ne. omega (arith, h u ul ne)),
        interference_mono v w (λ u ul ne. omega (arith, h u ul ne)),
      )

  sum_outside : (w : ℕ → ℕ) (c : ℕ) → c ≢ own → (n : ℕ) → chain_sum t w c n ≡ chain_sum t (outside t own w) c n
  sum_outside w c ne zero = unfold chain_sum sum_below in refl
  sum_outside w c ne (suc n) =
      by_equal (t.chain n) c
      (λ e.
      let same : outside t own w n ≡ w n = unfold outside in rw (ne_eqb (t.chain n) own (omega arith)) in
      omega (arith, chain_in t w c n e, chain_in t (outside t own w) c n e, sum_outside w c ne n))
      (λ e. omega (arith, chain_out t w c n e, chain_out t (outside t own w) c n e, sum_outside w c ne n))

  pub interference_most : (w : ℕ → ℕ) → interference t own target w ≤ sum_below t.count (outside t own w)
  interference_most w =
      let part : (c : ℕ) → ℕ = (λ c. chain_sum t (outside t own w) c t.count) in
      omega (
        arith,
        by_chains t (outside t own w) t.count (omega arith),
        interference-within w part (λ c ne. omega (arith, block_sum_lem t c target w t.count, sum_outside w c ne t.count)),
        sum_mono
            (suc (chains t))
            (λ c. cond (eqb c own) 0 (part c))
            part
            (λ c l. by_test (eqb c own) (λ e. rw e (omega arith)) (λ e. rw e (omega arith))),
      )

  -- where no job of another chain counts, there is none
  pub interference_none : (w : ℕ → ℕ) → ((u : ℕ) → u < t.count → t.chain u ≢ own → w u ≡ 0) → interference t own target w ≡ 0
  interference_none w h =
      omega (
        arith,
        interference_most w,
        sum_zero
            t.count
            (outside t own w)
            (λ u ul. unfold outside in by_test (eqb (t.chain u) own) (λ e. rw e) (λ e. rw e (h u ul (eqb-false (t.chain u) own e)))),
      )
