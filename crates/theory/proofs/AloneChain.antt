-- A chain alone is delayed by nobody: a round gives it the bounds that ITR starts from, whatever the bounds before. Assumes one chain.
use Prim.Native.Nat.{ℕ, zero, suc, ◌+◌, ◌-◌, ◌≤◌, ◌<◌, max}
use mathlib.Core.Path.{◌≡◌, refl, ◌∙◌}
use mathlib.Core.Bool.{Bool}
use mathlib.Core.List.{List}
use native.Mathlib.Omega.{arith}
use borrow.Author.Tests.{eq-eqb}
use Rattle.laws.proofs.Tests.{by_last}
use Rattle.laws.proofs.Sums.{sum_const}
use Rattle.laws.proofs.Tabulate.{tabulate_ext}
use Rattle.theory.specs.Table.{Table}
use Rattle.theory.specs.Bounds.{interference, ert_rule, demand, pair_bound, largest_pair, lowest, cja_with, itr_start, overlap, round}
use Rattle.theory.proofs.Rules.{counted, ert-next, demand_one, demand_more, pairs_least, pair_below}
use Rattle.theory.proofs.Interference.{outside, interference_most}
use Rattle.theory.proofs.Columns.{figure}
use Rattle.theory.proofs.Endings.{Ended}

module _ (t : Table) (same : (u : ℕ) → u < t.count → t.chain u ≡ t.chain 0) where
  no_delay : (j target : ℕ) (w : ℕ → ℕ) → j < t.count → interference t (t.chain j) target w ≡ 0
  no_delay j target w l =
      omega (
        arith,
        interference_most t (t.chain j) target w,
        sum_const t.count 0 (outside t (t.chain j) w) (λ u ul. unfold outside in rw (eq-eqb (t.chain u) (t.chain j) (omega (arith, same u ul, same j l))) (omega arith)),
      )

  module _ (keep : ℕ → ℕ → ℕ → Bool) where
    pair_alone : (k j : ℕ) → j < t.count → pair_bound t keep k j ≡ t.latest k + demand t k j
    unfolding pair_bound
    pair_alone k j l = omega (arith, no_delay j (lowest t k j) (counted t keep k j) l)

    alone_at : (j : ℕ) → j < t.count → largest_pair t keep j (suc j) ≡ ert_rule t (λ i. 0) j
    alone_at zero l =
        let first : ert_rule t (λ i. 0) 0 ≡ t.latest 0 + t.most 0 = unfold ert_rule in omega arith in
        let this : pair_bound t keep 0 0 ≡ t.latest 0 + t.most 0 = omega (arith, pair_alone 0 0 l, demand_one t 0) in
        omega (
          arith,
          first,
          this,
          pairs_least t keep 0 (t.latest 0 + t.most 0) 1 (λ k kl c. by_last k 0 kl (λ e. rw e (omega (arith, this))) (λ none. absurd (omega arith))),
          pair_below t keep 0 0 1 (omega arith) refl,
        )
    alone_at (suc i) l =
        let c : t.chain i ≡ t.chain (suc i) = omega (arith, same i (omega arith), same (suc i) l) in
        let before : largest_pair t keep i (suc i) ≡ ert_rule t (λ k. 0) i = alone_at i (omega arith) in
        let whole : ℕ = largest_pair t keep (suc i) (suc (suc i)) in
        let next : ert_rule t (λ k. 0) (suc i) ≡ max (ert_rule t (λ k. 0) i) (t.latest (suc i)) + t.most (suc i) = omega (arith, ert-next t (λ k. 0) i c) in
        let last : pair_bound t keep (suc i) (suc i) ≡ t.latest (suc i) + t.most (suc i) = omega (arith, pair_alone (suc i) (suc i) l, demand_one t (suc i)) in
        let more : (k : ℕ) → k ≤ i → pair_bound t keep k (suc i) ≡ pair_bound t keep k i + t.most (suc i)
        = (λ k ki. omega (arith, pair_alone k (suc i) l, pair_alone k i (omega arith), demand_more t k i ki)) in
        let here : pair_bound t keep (suc i) (suc i) ≤ whole = pair_below t keep (suc i) (suc i) (suc (suc i)) (omega arith) refl in
        let below : (k : ℕ) → k < suc i → t.chain k ≡ t.chain i → pair_bound t keep k i + t.most (suc i) ≤ whole
        = (λ k kl ck. omega (arith, more k (omega arith), pair_below t keep k (suc i) (suc (suc i)) (omega arith) (ck ∙ c))) in
        let low : largest_pair t keep i (suc i) ≤ whole - t.most (suc i) = pairs_least t keep i (whole - t.most (suc i)) (suc i) (λ k kl ck. omega (arith, below k kl ck)) in
        let high : whole ≤ ert_rule t (λ k. 0) (suc i)
        = pairs_least t keep (suc i) (ert_rule t (λ k. 0) (suc i)) (suc (suc i)) (λ k kl ck.
        by_last k (suc i) kl
        (λ e. rw e (omega (arith, last, next)))
        (λ kj. omega (arith, more k (omega arith), pair_below t keep k i (suc i) kj (omega (arith, ck, c)), before, next))) in
        omega (arith, low, high, here, last, next, before)

  pub round-alone : (previous : List ℕ) → round t previous ≡ itr_start t
  unfolding round cja_with itr_start
  round-alone previous =
      tabulate_ext 0 t.count (λ j. largest_pair t (overlap t previous) j (suc j)) (ert_rule t (λ i. 0)) (λ j z l. alone_at (overlap t previous) j (omega arith))

-- a table whose first chain ends behind its last job has one chain
pub ended-alone : (count : ℕ) (columns : List (List ℕ)) → Ended count columns → figure columns 5 0 ≡ count → (u : ℕ) → u < count → figure columns 0 u ≡ figure columns 0 0
ended-alone count columns ended e u l = (ended 0 (omega arith) (λ v vl. absurd (omega arith))).same u (omega arith) (omega arith)
