-- Sums over the jobs of one chain: a sum over all jobs is the sum over the chains of these.
--   chain_sum   the sum of x over the jobs of chain c among the first n
--   chains     the greatest chain number
-- Assumes nothing.
use Prim.Native.Nat.{ℕ, zero, suc, ◌+◌, ◌≤◌, ◌<◌}
use mathlib.Core.Path.{◌≡◌, refl, sym, ap}
use mathlib.Core.Logic.{◌≢◌}
use mathlib.Core.Bool.{cond}
use native.Mathlib.Omega.{arith}
use lib.Dec.{eqb}
use borrow.Author.Tests.{eqb-true, eq-eqb, ne_eqb}
use Rattle.laws.specs.Words.{sum_below, greatest}
use Rattle.laws.proofs.Tests.{by_test, by_order, by_equal, by_last}
use Rattle.laws.proofs.Sums.{sum_mono, sum_zero, sum_bump}
use Rattle.laws.proofs.Greatest.{greatest_above}
use Rattle.theory.specs.Table.{Table}
use Rattle.theory.specs.Bounds.{demand}
use Rattle.theory.proofs.Rules.{demand_more, demand_one}

unfoldable pub chain_sum : Table → (ℕ → ℕ) → ℕ → ℕ → ℕ
chain_sum t x c n = sum_below n (λ u. cond (eqb (t.chain u) c) (x u) 0)

abbrev pub chains : Table → ℕ
chains t = greatest t.count t.chain

pub chain_most : (t : Table) (u : ℕ) → u < t.count → t.chain u < suc (chains t)
chain_most t u l = omega (arith, greatest_above t.count t.chain u l)

module _ (t : Table) (x : ℕ → ℕ) where
  pub chain_in : (c n : ℕ) → t.chain n ≡ c → chain_sum t x c (suc n) ≡ chain_sum t x c n + x n
  unfolding chain_sum sum_below
  chain_in c n e = rw (eq-eqb (t.chain n) c e)

  pub chain_out : (c n : ℕ) → t.chain n ≢ c → chain_sum t x c (suc n) ≡ chain_sum t x c n
  unfolding chain_sum sum_below
  chain_out c n e = rw (ne_eqb (t.chain n) c e) (omega arith)

  chain_step : (c n : ℕ) → chain_sum t x c (suc n) ≤ chain_sum t x c n + x n
  chain_step c n = by_equal (t.chain n) c (λ e. omega (arith, chain_in c n e)) (λ e. omega (arith, chain_out c n e))

  pub chain_none : (c n : ℕ) → ((u : ℕ) → u < n → t.chain u ≡ c → x u ≡ 0) → chain_sum t x c n ≡ 0
  chain_none c zero h = unfold chain_sum sum_below in refl
  chain_none c (suc n) h =
      let below : chain_sum t x c n ≡ 0 = chain_none c n (λ u ul. h u (omega arith)) in
      by_equal (t.chain n) c
      (λ e. omega (arith, chain_in c n e, h n (omega arith) e))
      (λ e. omega (arith, chain_out c n e))

  pub by_chains : (n : ℕ) → n ≤ t.count → sum_below n x ≡ sum_below (suc (chains t)) (λ c. chain_sum t x c n)
  unfolding sum_below
  by_chains zero l = sym (sum_zero (suc (chains t)) (λ c. chain_sum t x c 0) (λ c cl. unfold chain_sum in refl))
  by_chains (suc n) l =
      omega (
        arith,
        by_chains n (omega arith),
        sum_bump
            (suc (chains t))
            (λ c. chain_sum t x c n)
            (λ c. chain_sum t x c (suc n))
            (t.chain n)
            (x n)
            (chain_most t n (omega arith))
            (chain_in (t.chain n) n refl)
            (λ c cl ne. chain_out c n (λ q. ne (sym q))),
      )

  -- all jobs' sum is at most that of one chain and what bounds each other chain
  pub own_and_others : (own : ℕ) (h : ℕ → ℕ) → own < suc (chains t) → ((c : ℕ) → chain_sum t x c t.count ≤ h c)
      → sum_below t.count x ≤ sum_below (suc (chains t)) (λ c. cond (eqb c own) 0 (h c)) + chain_sum t x own t.count
  own_and_others own h l each =
      let mine : ℕ = chain_sum t x own t.count in
      omega (
        arith,
        by_chains t.count (omega arith),
        sum_mono
            (suc (chains t))
            (λ c. chain_sum t x c t.count)
            (λ c. cond (eqb c own) mine (h c))
            (λ c cl.
            by_test (eqb c own)
            (λ e. rw e (omega (arith, ap (λ (d : ℕ). chain_sum t x d t.count) (eqb-true c own e))))
            (λ e. rw e (each c))),
        sum_bump
            (suc (chains t))
            (λ c. cond (eqb c own) 0 (h c))
            (λ c. cond (eqb c own) mine (h c))
            own
            mine
            l
            (rw (eq-eqb own own refl) (omega arith))
            (λ c cl ne. rw (ne_eqb c own ne)),
      )

-- A chain of which only the jobs from k to j do something, each at most its most time, and j less than that.
module _ (t : Table) (x : ℕ → ℕ) (c k j : ℕ) (kj : k ≤ j) (jl : j < t.count)
    (from : (u : ℕ) → u < t.count → t.chain u ≡ c → 0 < x u → k ≤ u)
    (to : (u : ℕ) → u < t.count → t.chain u ≡ c → 0 < x u → u ≤ j)
    (most : (u : ℕ) → u < t.count → x u ≤ t.most u)
    (less : x j < t.most j) where
  none_before : (n : ℕ) → n ≤ k → chain_sum t x c n ≡ 0
  none_before n l =
      chain_none t x c n (λ u ul cu. by_order 1 (x u) (λ some. absurd (omega (arith, from u (omega arith) cu some))) (λ none. omega arith))

  up_to : (i : ℕ) → k ≤ i → i < t.count → chain_sum t x c (suc i) + t.most i ≤ demand t k i + x i
  up_to zero ki il =
      let e : k ≡ 0 = omega arith in
      rw e (omega (arith, chain_step t x c 0, none_before 0 (omega arith), demand_one t 0))
  up_to (suc i) ki il =
      by_last k (suc i) (omega arith)
      (λ e. rw e (omega (arith, chain_step t x c (suc i), none_before (suc i) (omega arith), demand_one t (suc i))))
      (λ l. omega (arith, chain_step t x c (suc i), up_to i (omega arith) (omega arith), most i (omega arith), demand_more t k i (omega arith)))

  none_after : (n : ℕ) → j < n → n ≤ t.count → chain_sum t x c n ≤ chain_sum t x c (suc j)
  none_after zero jn nl = absurd (omega arith)
  none_after (suc n) jn nl =
      by_last j n jn
      (λ e. rw e (omega arith))
      (λ l.
      let below : chain_sum t x c n ≤ chain_sum t x c (suc j) = none_after n l (omega arith) in
      by_equal (t.chain n) c
      (λ e. by_order 1 (x n) (λ some. absurd (omega (arith, to n (omega arith) e some))) (λ none. omega (arith, chain_in t x c n e)))
      (λ e. omega (arith, chain_out t x c n e)))

  pub own_sum : chain_sum t x c t.count < demand t k j
  own_sum = omega (arith, up_to j kj jl, none_after t.count jl (omega arith))
