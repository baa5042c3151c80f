-- Blocks: the walk over a chain step by step, what the largest block is at most, and what is at most the largest block.
--   Together   what the jobs of a chain do, done by urgent jobs that stand together
-- Assumes nothing.
use Prim.Native.Nat.{ℕ, zero, suc, ◌+◌, ◌≤◌, ◌<◌, max}
use mathlib.Core.Path.{◌≡◌, refl, ap, ◌∙◌}
use mathlib.Core.Logic.{◌≢◌}
use mathlib.Core.Bool.{Bool, cond}
use native.Mathlib.Omega.{arith}
use native.Mathlib.Nat.{add-zero, add-suc}
use borrow.Author.Tests.{le-leb, lt-leb, eq-eqb, ne_eqb}
use Rattle.laws.specs.Words.{sum_below, greatest}
use Rattle.laws.proofs.Tests.{by_order, by_equal}
use Rattle.theory.specs.Table.{Table}
use Rattle.theory.specs.Bounds.{open_block, largest_block}
use Rattle.theory.proofs.Chains.{chain_sum, chain_in, chain_out, chain_none}

module _ (t : Table) (c target : ℕ) where
  -- a job of another chain, one that goes on with the block, and one that ends it
  pub by_place : {X : Type 0} (u : ℕ) → (t.chain u ≢ c → X) → (t.chain u ≡ c → target ≤ t.urgency u → X)
      → (t.chain u ≡ c → t.urgency u < target → X) → X
  by_place u out on ends = by_equal (t.chain u) c (λ e. by_order target (t.urgency u) (on e) (ends e)) out

  module _ (w : ℕ → ℕ) where
    pub block_out : (u : ℕ) → t.chain u ≢ c → open_block t c target w (suc u) ≡ open_block t c target w u
    unfolding open_block
    block_out u ne = rw ne_eqb

    pub block_on : (u : ℕ) → t.chain u ≡ c → target ≤ t.urgency u → open_block t c target w (suc u) ≡ open_block t c target w u + w u
    unfolding open_block
    block_on u e l = rw eq-eqb (ap (λ (b : Bool). cond b (open_block t c target w u + w u) 0) (le-leb target (t.urgency u) l))

    pub block-ends : (u : ℕ) → t.chain u ≡ c → t.urgency u < target → open_block t c target w (suc u) ≡ 0
    unfolding open_block
    block-ends u e l = rw (eq-eqb, lt-leb)

    pub largest_step : (u : ℕ) → largest_block t c target w (suc u) ≡ max (largest_block t c target w u) (open_block t c target w (suc u))
    unfolding largest_block greatest
    largest_step u = refl

    pub open_largest : (n : ℕ) → open_block t c target w n ≤ largest_block t c target w n
    open_largest zero = unfold open_block in omega arith
    open_largest (suc u) = omega (arith, largest_step u)

    pub largest_out : (u : ℕ) → t.chain u ≢ c → largest_block t c target w (suc u) ≡ largest_block t c target w u
    largest_out u ne = omega (arith, largest_step u, block_out u ne, open_largest u)

    -- places of other chains add nothing
    pub largest-rest : (n d : ℕ) → ((u : ℕ) → n ≤ u → u < n + d → t.chain u ≢ c) → largest_block t c target w (n + d) ≡ largest_block t c target w n
    largest-rest n zero h = ap (largest_block t c target w) (add-zero n)
    largest-rest n (suc d) h =
        rw (add-suc n d) (largest_out (n + d) (h (n + d) (omega arith) (omega (arith, add-suc n d))) ∙ largest-rest n d (λ u a b. h u a (omega (arith, add-suc n d))))

    -- the open block is at most the chain's sum, and so is the largest
    open_sum : (n : ℕ) → open_block t c target w n ≤ chain_sum t w c n
    open_sum zero = unfold open_block in omega arith
    open_sum (suc u) =
        by_place u
        (λ ne. omega (arith, block_out u ne, chain_out t w c u ne, open_sum u))
        (λ e l. omega (arith, block_on u e l, chain_in t w c u e, open_sum u))
        (λ e l. omega (arith, block-ends u e l))

    pub block_sum_lem : (n : ℕ) → largest_block t c target w n ≤ chain_sum t w c n
    block_sum_lem zero = unfold largest_block greatest in omega arith
    block_sum_lem (suc u) = omega (arith, largest_step u, block_sum_lem u, open_sum (suc u), grows)
      where
        grows : chain_sum t w c u ≤ chain_sum t w c (suc u)
        grows = by_equal (t.chain u) c (λ e. omega (arith, chain_in t w c u e)) (λ ne. omega (arith, chain_out t w c u ne))

    -- a chain with no urgent job has no block
    open_none : (n : ℕ) → ((u : ℕ) → u < n → t.chain u ≡ c → t.urgency u < target) → open_block t c target w n ≡ 0
    open_none zero h = unfold open_block in refl
    open_none (suc u) h =
        by_place u
        (λ ne. omega (arith, block_out u ne, open_none u (λ v vl. h v (omega arith))))
        (λ e l. absurd (omega (arith, h u (omega arith) e)))
        (λ e l. block-ends u e l)

    pub block_none : (n : ℕ) → ((u : ℕ) → u < n → t.chain u ≡ c → t.urgency u < target) → largest_block t c target w n ≡ 0
    block_none zero h = unfold largest_block greatest in refl
    block_none (suc u) h = omega (arith, largest_step u, block_none u (λ v vl. h v (omega arith)), open_none (suc u) h)

  -- blocks grow with their weights
  module _ (w v : ℕ → ℕ) where
    open_mono : (n : ℕ) → ((u : ℕ) → u < n → t.chain u ≡ c → w u ≤ v u) → open_block t c target w n ≤ open_block t c target v n
    open_mono zero h = unfold open_block in omega arith
    open_mono (suc u) h =
        let below : open_block t c target w u ≤ open_block t c target v u = open_mono u (λ i il. h i (omega arith)) in
        by_place u
        (λ ne. omega (arith, block_out w u ne, block_out v u ne))
        (λ e l. omega (arith, block_on w u e l, block_on v u e l, h u (omega arith) e))
        (λ e l. omega (arith, block-ends w u e l))

    pub block_mono : (n : ℕ) → ((u : ℕ) → u < n → t.chain u ≡ c → w u ≤ v u) → largest_block t c target w n ≤ largest_block t c target v n
    block_mono zero h = unfold largest_block greatest in omega arith
    block_mono (suc u) h = omega (arith, largest_step w u, largest_step v u, block_mono u (λ i il. h i (omega arith)), open_mono (suc u) h)

-- Job u does x u. What it does, it does as an urgent job whose weight is at least that; of three jobs of the chain the middle one does something if
-- the outer ones do.
pub record Together (t : Table) (c target : ℕ) (w x : ℕ → ℕ) : Type 0 where
  pub urgent : (u : ℕ) → u < t.count → t.chain u ≡ c → 0 < x u → target ≤ t.urgency u
  pub weighs : (u : ℕ) → u < t.count → t.chain u ≡ c → 0 < x u → x u ≤ w u
  pub middle : (a b e : ℕ) → a < b → b < e → e < t.count → t.chain a ≡ c → t.chain b ≡ c → t.chain e ≡ c → 0 < x a → 0 < x e → 0 < x b

-- Then what they all do is at most the largest block.
module _ (t : Table) (c target : ℕ) (w x : ℕ → ℕ) (g : Together t c target w x) where
  -- an idle job of the chain before a busy one has none but idle ones before it
  idle_before : (u e : ℕ) → u < e → e < t.count → t.chain u ≡ c → t.chain e ≡ c → x u ≡ 0 → 0 < x e → chain_sum t x c (suc u) ≡ 0
  idle_before u e ue el cu ce none some =
      chain_none t x c (suc u) (λ v vl cv.
      by_order 1 (x v)
      (λ xv.
      by_equal v u
      (λ q. absurd (omega (arith, ap x q)))
      (λ ne. absurd (omega (arith, g.middle v u e (omega arith) ue el cv cu ce xv some))))
      (λ xv. omega arith))

  open_busy : (u : ℕ) → u < t.count → t.chain u ≡ c → 0 < x u → chain_sum t x c u ≤ open_block t c target w u
      → chain_sum t x c (suc u) ≤ open_block t c target w (suc u)
  open_busy u ul cu xu before = omega (arith, chain_in t x c u cu, block_on t c target w u cu (g.urgent u ul cu xu), g.weighs u ul cu xu)

  -- before a busy job all that was done is in the open block
  open_holds : (n e : ℕ) → n ≤ e → e < t.count → t.chain e ≡ c → 0 < x e → chain_sum t x c n ≤ open_block t c target w n
  open_holds zero e ne el ce xe = unfold chain_sum sum_below open_block in omega arith
  open_holds (suc u) e ne el ce xe =
      by_equal (t.chain u) c
      (λ cu.
      by_order 1 (x u)
      (λ xu.
      open_busy u (omega arith) cu xu (open_holds u u (omega arith) (omega arith) cu xu))
      (λ xu. omega (arith, idle_before u e ne el cu ce (omega arith) xe)))
      (λ cu. omega (arith, chain_out t x c u cu, block_out t c target w u cu, open_holds u e (omega arith) el ce xe))

  pub block-holds : (n : ℕ) → n ≤ t.count → chain_sum t x c n ≤ largest_block t c target w n
  block-holds zero l = unfold chain_sum sum_below largest_block greatest in omega arith
  block-holds (suc u) l =
      let below : chain_sum t x c u ≤ largest_block t c target w u = block-holds u (omega arith) in
      by_equal (t.chain u) c
      (λ cu.
      by_order 1 (x u)
      (λ xu.
      omega (arith, largest_step t c target w u, open_busy u l cu xu (open_holds u u (omega arith) l cu xu)))
      (λ xu. omega (arith, chain_in t x c u cu, largest_step t c target w u)))
      (λ cu. omega (arith, chain_out t x c u cu, largest_step t c target w u))
