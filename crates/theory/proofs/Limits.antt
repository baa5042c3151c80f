-- How large the bounds get: with n of N jobs in its chain, a bound is at most the latest release and n times the most times of one of these and of
-- all others. Nothing here depends on the numbers of a table's limits. Assumes nothing.
use Prim.Native.Nat.{ℕ, zero, suc, ◌+◌, ◌*◌, ◌-◌, ◌≤◌, ◌<◌}
use mathlib.Core.Path.{◌≡◌, refl, ap, subst, ◌∙◌}
use mathlib.Core.Bool.{cond}
use native.Mathlib.Omega.{arith}
use native.Mathlib.Nat.{add-zero, add-suc, add_comm, mul-add, add-mul, mul_comm, mul_assoc, mul-le-mul_right}
use lib.Dec.{eqb}
use borrow.Author.Tests.{eq-eqb, ne_eqb}
use Rattle.laws.specs.Words.{sum_below, number_at}
use Rattle.laws.proofs.Tests.{by_order, by_equal, cond_one}
use Rattle.laws.proofs.Sums.{sum_const}
use Rattle.theory.specs.Table.{Table}
use Rattle.theory.specs.Bounds.{ert_rule, interference_at, ert}
use Rattle.theory.proofs.Rules.{ert_first, ert-next, first_zero, first_after, at_ert}
use Rattle.theory.proofs.Chains.{chain_sum, chain_in, chain_out}
use Rattle.theory.proofs.Interference.{outside, interference_most}

-- ---- a product is at most the square of half the sum
square : (n d : ℕ) → 4 * (n * (n + d)) ≤ (n + (n + d)) * (n + (n + d))
square n d = simp (mul-add, add-mul) (omega (arith, mul_comm d n))

pub product_most : (n m : ℕ) → 4 * (n * m) ≤ (n + m) * (n + m)
product_most n m =
    by_order n m
    (λ l.
    let e : n + (m - n) ≡ m = omega arith in
    subst (λ (z : ℕ). 4 * (n * z) ≤ (n + z) * (n + z)) e (square n (m - n)))
    (λ l.
    let e : m + (n - m) ≡ n = omega arith in
    rw (mul_comm n m, add_comm n m) (subst (λ (z : ℕ). 4 * (m * z) ≤ (m + z) * (m + z)) e (square m (n - m))))

-- ---- how many of the first n jobs are of chain c
abbrev in_chain : Table → ℕ → ℕ → ℕ
in_chain t c n = chain_sum t (λ u. 1) c n

module _ (t : Table) where
  in_chain-add : (c n d : ℕ) → in_chain t c n ≤ in_chain t c (n + d)
  in_chain-add c n zero = rw (add-zero n) (omega arith)
  in_chain-add c n (suc d) =
      rw (add-suc n d)
      (by_equal (t.chain (n + d)) c
      (λ e. omega (arith, in_chain-add c n d, chain_in t (λ u. 1) c (n + d) e))
      (λ ne. omega (arith, in_chain-add c n d, chain_out t (λ u. 1) c (n + d) ne)))

  in_chain_mono : (c n m : ℕ) → n ≤ m → in_chain t c n ≤ in_chain t c m
  in_chain_mono c n m l =
      let e : n + (m - n) ≡ m = omega arith in
      subst (λ (z : ℕ). in_chain t c n ≤ in_chain t c z) e (in_chain-add c n (m - n))

  in_chain_le : (c n : ℕ) → in_chain t c n ≤ n
  unfolding chain_sum
  in_chain_le c n = omega (arith, sum_const n 1 (λ u. cond (eqb (t.chain u) c) 1 0) (λ u ul. cond_one (eqb (t.chain u) c)))

  -- the most times of the others, and those of the chain at their limit, are at most all at their limit
  outside_count : (own limit n : ℕ) → ((u : ℕ) → u < n → t.most u ≤ limit)
      → sum_below n (outside t own t.most) + in_chain t own n * limit ≤ n * limit
  unfolding sum_below outside
  outside_count own limit zero h = unfold chain_sum in omega arith
  outside_count own limit (suc n) h =
      let before : sum_below n (outside t own t.most) + in_chain t own n * limit ≤ n * limit = outside_count own limit n (λ u ul. h u (omega arith)) in
      by_equal (t.chain n) own
      (λ e. rw (eq-eqb (t.chain n) own e, chain_in t (λ u. 1) own n e) (omega arith))
      (λ ne. rw (ne_eqb (t.chain n) own ne, chain_out t (λ u. 1) own n ne) (omega (arith, h n (omega arith))))

  -- with releases at most R, and most time and interference at most W for each job of its chain, a bound is at most R and W for each job up to it
  ert_most : (inter : ℕ → ℕ) (R W c i : ℕ) → i < t.count → t.chain i ≡ c → ((u : ℕ) → u < t.count → t.latest u ≤ R)
      → ((u : ℕ) → u < t.count → t.chain u ≡ c → t.most u + inter u ≤ W) → ert_rule t inter i ≤ R + in_chain t c (suc i) * W
  ert_most inter R W c zero l e hr hw =
      rw (ert_first t inter 0 (first_zero t), chain_in t (λ u. 1) c 0 e) (omega (arith, hr 0 l, hw 0 l e))
  ert_most inter R W c (suc i) l e hr hw =
      let r : t.latest (suc i) ≤ R = hr (suc i) l in
      let w : t.most (suc i) + inter (suc i) ≤ W = hw (suc i) l e in
      rw (chain_in t (λ u. 1) c (suc i) e)
      (by_equal (t.chain i) (t.chain (suc i))
      (λ q. rw (ert-next t inter i q) (omega (arith, ert_most inter R W c i (omega arith) (q ∙ e) hr hw)))
      (λ ne. rw (ert_first t inter (suc i) (first_after t i ne)) (omega arith)))

  -- at most J jobs, releases at most R, most times at most M
  module _ (J R M : ℕ) (hj : t.count ≤ J) (hr : (u : ℕ) → u < t.count → t.latest u ≤ R) (hm : (u : ℕ) → u < t.count → t.most u ≤ M) where
    in_and_out : (n m out : ℕ) → n + m ≡ suc J → out + n * M ≤ t.count * M → out + M ≤ m * M
    in_and_out n m out e h =
        let all : (n + m) * M ≡ n * M + m * M = add-mul n m M in
        let most : t.count * M ≤ J * M = mul-le-mul_right M hj in
        let same : (n + m) * M ≡ suc J * M = ap (λ (z : ℕ). z * M) e in
        omega arith

    ert-in_chain : (c n m : ℕ) → in_chain t c t.count ≡ n → n + m ≡ suc J → (i : ℕ) → i < t.count → t.chain i ≡ c
        → number_at (ert t) i ≤ R + n * (m * M)
    ert-in_chain c n m is e i l ci =
        let rest : sum_below t.count (outside t c t.most) + M ≤ m * M
        = in_and_out n m (sum_below t.count (outside t c t.most)) e (rw is at (outside_count c M t.count hm)) in
        let each : (u : ℕ) → u < t.count → t.chain u ≡ c → t.most u + interference_at t u ≤ m * M
        = (λ u ul cu. unfold interference_at in rw cu (omega (arith, hm u ul, interference_most t c (t.urgency u) t.most))) in
        let up_to : in_chain t c (suc i) ≤ n = omega (arith, is, in_chain_mono c (suc i) t.count l) in
        omega (arith, at_ert t i l, ert_most (interference_at t) R (m * M) c i l ci hr each, mul-le-mul_right (m * M) up_to)

    pub ert_limit : (i : ℕ) → i < t.count → 4 * number_at (ert t) i ≤ 4 * R + suc J * suc J * M
    ert_limit i l =
        let n : ℕ = in_chain t (t.chain i) t.count in
        let m : ℕ = suc J - n in
        let some : n ≤ J = omega (arith, hj, in_chain_le (t.chain i) t.count) in
        let e : n + m ≡ suc J = omega arith in
        let square : 4 * (n * m) * M ≤ suc J * suc J * M = mul-le-mul_right M (subst (λ (z : ℕ). 4 * (n * m) ≤ z * z) e (product_most n m)) in
        omega (arith, ert-in_chain (t.chain i) n m refl e i l refl, mul_assoc n m M, mul_assoc 4 (n * m) M)
