-- The rules of the bounds, step by step: the ERT rule, demand and lowest urgency of the jobs from k to j, the largest pair, and the bound at a place.
--   First     the job at a place has no predecessor
--   always    the choice that leaves no job out
--   counted   what a job counts in a pair
-- Assumes nothing.
use Prim.Native.Nat.{ℕ, zero, suc, ◌+◌, ◌≤◌, ◌<◌, max, min}
use mathlib.Core.Path.{◌≡◌, refl, ap, ◌∙◌}
use mathlib.Core.Logic.{◌≢◌}
use mathlib.Core.Bool.{Bool, true, cond}
use native.Mathlib.Omega.{arith}
use native.Mathlib.Nat.{zero-add}
use lib.Dec.{eqb}
use lib.ListN.{length}
use borrow.Author.Tests.{eqb-true, le-leb, lt-leb, eq-eqb, ne_eqb}
use Rattle.laws.specs.Words.{greatest, number_at}
use Rattle.laws.proofs.Tests.{by_test, by_last}
use Rattle.laws.proofs.Tabulate.{length-tabulate, get_d_tabulate}
use Rattle.theory.specs.Table.{Table, joined}
use Rattle.theory.specs.Bounds.{ert_rule, interference_at, ert, demand, lowest, pair_bound, largest_pair, cja_with, itr_start, overlap, round, after}

-- the job at v has no predecessor
abbrev pub First : Table → ℕ → Type 0
First t v = (w : ℕ) → v ≡ suc w → t.chain w ≢ t.chain v

abbrev pub always : ℕ → ℕ → ℕ → Bool
always k j u = true

abbrev pub counted : Table → (ℕ → ℕ → ℕ → Bool) → ℕ → ℕ → ℕ → ℕ
counted t keep k j u = cond (keep k j u) (t.most u) 0

module _ (t : Table) where
  pub first_zero : First t 0
  first_zero w e = absurd (omega arith)

  pub first_after : (i : ℕ) → t.chain i ≢ t.chain (suc i) → First t (suc i)
  first_after i ne w e c = let q : i ≡ w = omega arith in ne (ap t.chain q ∙ c)

  pub ert_first : (inter : ℕ → ℕ) (v : ℕ) → First t v → ert_rule t inter v ≡ t.latest v + t.most v + inter v
  unfolding ert_rule joined
  ert_first inter zero h = refl
  ert_first inter (suc w) h = rw (ne_eqb (t.chain w) (t.chain (suc w)) (h w refl))

  pub ert-next : (inter : ℕ → ℕ) (v : ℕ) → t.chain v ≡ t.chain (suc v)
      → ert_rule t inter (suc v) ≡ max (ert_rule t inter v) (t.latest (suc v)) + t.most (suc v) + inter (suc v)
  unfolding ert_rule joined
  ert-next inter v e = rw (eq-eqb (t.chain v) (t.chain (suc v)) e)

  pub ert_own : (inter : ℕ → ℕ) (i : ℕ) → t.latest i + t.most i + inter i ≤ ert_rule t inter i
  unfolding ert_rule
  ert_own inter zero = omega arith
  ert_own inter (suc i) = by_test (joined t i) (λ e. rw e (omega arith)) (λ e. rw e (omega arith))

  -- the rule grows with the interference
  pub ert_mono : (a b : ℕ → ℕ) → ((i : ℕ) → i < t.count → a i ≤ b i) → (i : ℕ) → i < t.count → ert_rule t a i ≤ ert_rule t b i
  unfolding ert_rule
  ert_mono a b h zero l = omega (arith, h 0 l)
  ert_mono a b h (suc i) l =
      let below : ert_rule t a i ≤ ert_rule t b i = ert_mono a b h i (omega arith) in
      by_test (joined t i) (λ e. rw e (omega (arith, h (suc i) l))) (λ e. rw e (omega (arith, h (suc i) l)))

  pub demand_one : (j : ℕ) → demand t j j ≡ t.most j
  unfolding demand
  demand_one zero = refl
  demand_one (suc j) = rw (lt-leb (suc j) j (omega arith)) (zero-add (t.most (suc j)))

  pub demand_more : (k j : ℕ) → k ≤ j → demand t k (suc j) ≡ demand t k j + t.most (suc j)
  unfolding demand
  demand_more k j l = rw (le-leb k j l)

  pub demand_own : (k j : ℕ) → t.most j ≤ demand t k j
  unfolding demand
  demand_own k zero = omega arith
  demand_own k (suc j) = omega arith

  -- one job more in front
  pub demand_front : (k j : ℕ) → k < j → demand t k j ≡ t.most k + demand t (suc k) j
  demand_front k zero l = absurd (omega arith)
  demand_front k (suc j) l =
      by_last k j l
      (λ e. rw e (omega (arith, demand_more j j (omega arith), demand_one j, demand_one (suc j))))
      (λ kj. omega (arith, demand_more k j (omega arith), demand_more (suc k) j kj, demand_front k j kj))

  pub lowest_one : (j : ℕ) → lowest t j j ≡ t.urgency j
  unfolding lowest
  lowest_one zero = refl
  lowest_one (suc j) = rw (lt-leb (suc j) j (omega arith))

  pub lowest_more : (k j : ℕ) → k ≤ j → lowest t k (suc j) ≡ min (lowest t k j) (t.urgency (suc j))
  unfolding lowest
  lowest_more k j l = rw (le-leb k j l)

  pub lowest_front : (k j : ℕ) → k < j → lowest t k j ≡ min (t.urgency k) (lowest t (suc k) j)
  lowest_front k zero l = absurd (omega arith)
  lowest_front k (suc j) l =
      by_last k j l
      (λ e. rw e (omega (arith, lowest_more j j (omega arith), lowest_one j, lowest_one (suc j))))
      (λ kj. omega (arith, lowest_more k j (omega arith), lowest_more (suc k) j kj, lowest_front k j kj))

  -- it is at most the urgency of each job, and no lower than all
  pub lowest_le : (k j m : ℕ) → k ≤ m → m ≤ j → lowest t k j ≤ t.urgency m
  lowest_le k zero m km mj =
      let e : m ≡ 0 = omega arith in
      rw e (unfold lowest in omega arith)
  lowest_le k (suc j) m km mj =
      by_last k (suc j) (omega arith)
      (λ e.
      let same : m ≡ suc j = omega arith in
      rw (e, same, lowest_one (suc j)) (omega arith))
      (λ kj.
      by_last m (suc j) (omega arith)
      (λ e. rw e (omega (arith, lowest_more k j (omega arith))))
      (λ mj. omega (arith, lowest_more k j (omega arith), lowest_le k j m km (omega arith))))

  pub lowest_above : (k j m : ℕ) → k ≤ j → ((i : ℕ) → i ≤ j → m < t.urgency i) → m < lowest t k j
  lowest_above k zero m kj h =
      let e : k ≡ 0 = omega arith in
      rw (e, lowest_one 0) (h 0 (omega arith))
  lowest_above k (suc j) m kj h =
      by_last k (suc j) (omega arith)
      (λ e. rw (e, lowest_one (suc j)) (h (suc j) (omega arith)))
      (λ l. omega (arith, lowest_more k j (omega arith), lowest_above k j m (omega arith) (λ i il. h i (omega arith)), h (suc j) (omega arith)))

  module _ (keep : ℕ → ℕ → ℕ → Bool) where
    -- what each pair is at most, the largest is at most
    pub pairs_least : (j m n : ℕ) → ((k : ℕ) → k < n → t.chain k ≡ t.chain j → pair_bound t keep k j ≤ m) → largest_pair t keep j n ≤ m
    unfolding largest_pair greatest
    pairs_least j m zero h = omega arith
    pairs_least j m (suc k) h =
        let rest : largest_pair t keep j k ≤ m = pairs_least j m k (λ i l. h i (omega arith)) in
        by_test (eqb (t.chain k) (t.chain j))
        (λ e. rw e (omega (arith, h k (omega arith) (eqb-true (t.chain k) (t.chain j) e))))
        (λ e. rw e (omega arith))

    pub pair_below : (k j n : ℕ) → k < n → t.chain k ≡ t.chain j → pair_bound t keep k j ≤ largest_pair t keep j n
    unfolding largest_pair greatest
    pair_below k j zero l e = absurd (omega arith)
    pair_below k j (suc n) l e =
        by_last k n l
        (λ q. rw (← q, eq-eqb (t.chain k) (t.chain j) e) (omega arith))
        (λ kl. omega (arith, pair_below k j n kl e))

    pub at_cja : (j : ℕ) → j < t.count → number_at (cja_with t keep) j ≡ largest_pair t keep j (suc j)
    unfolding cja_with
    at_cja j l = get_d_tabulate 0 t.count (λ i. largest_pair t keep i (suc i)) 0 j l ∙ ap (λ (i : ℕ). largest_pair t keep i (suc i)) (zero-add j)

    pub length-cja : length (cja_with t keep) ≡ t.count
    unfolding cja_with
    length-cja = length-tabulate 0 t.count (λ j. largest_pair t keep j (suc j))

  pub at_ert : (i : ℕ) → i < t.count → number_at (ert t) i ≡ ert_rule t (interference_at t) i
  unfolding ert
  at_ert i l = get_d_tabulate 0 t.count (ert_rule t (interference_at t)) 0 i l ∙ ap (ert_rule t (interference_at t)) (zero-add i)

  pub length-ert : length (ert t) ≡ t.count
  unfolding ert
  length-ert = length-tabulate 0 t.count (ert_rule t (interference_at t))

  pub at_start : (i : ℕ) → i < t.count → number_at (after t 0) i ≡ ert_rule t (λ k. 0) i
  unfolding after itr_start
  at_start i l = get_d_tabulate 0 t.count (ert_rule t (λ k. 0)) 0 i l ∙ ap (ert_rule t (λ k. 0)) (zero-add i)

  pub at_round : (n i : ℕ) → i < t.count → number_at (after t (suc n)) i ≡ largest_pair t (overlap t (after t n)) i (suc i)
  unfolding after round
  at_round n = at_cja (overlap t (after t n))

  pub length-after : (n : ℕ) → length (after t n) ≡ t.count
  unfolding after itr_start round
  length-after zero = length-tabulate 0 t.count (ert_rule t (λ k. 0))
  length-after (suc n) = length-cja (overlap t (after t n))
