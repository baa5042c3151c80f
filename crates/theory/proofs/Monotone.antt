-- The bounds in order: CJA grows with the jobs that are kept, a round with the bounds before it; ITR's start is at most a round, a round at most CJA,
-- and CJA at most ERT.
--   Fewer   one choice of jobs keeps no job of another chain that the other does not keep
-- Assumes nothing but that the chains come in order, where it is said.
use Prim.Native.Nat.{ℕ, zero, suc, ◌+◌, ◌≤◌, ◌<◌}
use mathlib.Core.Path.{◌≡◌, refl, sym, ◌∙◌}
use mathlib.Core.Logic.{◌≢◌}
use mathlib.Core.Bool.{Bool, true}
use mathlib.Core.List.{List}
use native.Mathlib.Omega.{arith}
use native.Mathlib.Nat.{min-eq_left, min-eq_right}
use Rattle.laws.proofs.Tests.{by_order, by_equal, by_last, cond_le}
use Rattle.theory.specs.Table.{Table}
use Rattle.theory.specs.Bounds.{interference, ert_rule, interference_at, ert, demand, lowest, pair_bound, largest_pair, cja_with, cja, overlap, round, after}
use Rattle.theory.specs.Claims.{AtMost}
use Rattle.theory.proofs.WellFormed.{Ordered, chain_between}
use Rattle.theory.proofs.Rules.{counted, always, first_zero, first_after, ert_first, ert-next, ert_own, demand_one, demand_more, lowest_one, lowest_more, pairs_least, pair_below, at_cja, at_ert, at_start}
use Rattle.theory.proofs.Interference.{interference_mono}
use Rattle.theory.proofs.Overlaps.{overlap_carry}

abbrev pub Fewer : Table → (ℕ → ℕ → ℕ → Bool) → (ℕ → ℕ → ℕ → Bool) → Type 0
Fewer t keep more = (k j u : ℕ) → k < t.count → j < t.count → u < t.count → t.chain u ≢ t.chain j → keep k j u ≡ true → more k j u ≡ true

module _ (t : Table) where
  module _ (keep more : ℕ → ℕ → ℕ → Bool) where
    pub pair_mono : (k j : ℕ) → ((u : ℕ) → u < t.count → t.chain u ≢ t.chain j → keep k j u ≡ true → more k j u ≡ true)
        → pair_bound t keep k j ≤ pair_bound t more k j
    unfolding pair_bound
    pair_mono k j h =
        omega (
          arith,
          interference_mono
              t
              (t.chain j)
              (lowest t k j)
              (counted t keep k j)
              (counted t more k j)
              (λ u ul ne. cond_le (keep k j u) (more k j u) (t.most u) (h u ul ne)),
        )

    pub pairs_mono : (j : ℕ)
        → ((k u : ℕ) → k ≤ j → t.chain k ≡ t.chain j → u < t.count → t.chain u ≢ t.chain j → keep k j u ≡ true → more k j u ≡ true)
        → largest_pair t keep j (suc j) ≤ largest_pair t more j (suc j)
    pairs_mono j h =
        pairs_least t keep j (largest_pair t more j (suc j)) (suc j) (λ k kl c.
        omega (arith, pair_mono k j (λ u. h k u (omega arith) c), pair_below t more k j (suc j) kl c))

    pub cja_mono : Fewer t keep more → AtMost t.count (cja_with t keep) (cja_with t more)
    cja_mono h j l = rw (at_cja t keep j l, at_cja t more j l) (pairs_mono j (λ k u kj c ul ne. h k j u (omega arith) l ul ne))

  pub overlap_mono : (a b : List ℕ) → AtMost t.count a b → Fewer t (overlap t a) (overlap t b)
  overlap_mono a b h k j u kl jl ul ne e = overlap_carry t t a b k j u k j u refl refl (h u ul) (h j jl) e

  pub round_mono : (a b : List ℕ) → AtMost t.count a b → AtMost t.count (round t a) (round t b)
  unfolding round
  round_mono a b h = cja_mono (overlap t a) (overlap t b) (overlap_mono a b h)

  pub round_le_cja : (b : List ℕ) → AtMost t.count (round t b) (cja t)
  unfolding round cja
  round_le_cja b = cja_mono (overlap t b) always (λ k j u kl jl ul ne e. refl)

  -- the start at j is what some pair takes without interference
  record Reached (j : ℕ) : Type 0 where
    from : ℕ
    below : from ≤ j
    same : t.chain from ≡ t.chain j
    enough : ert_rule t (λ i. 0) j ≤ t.latest from + demand t from j

  reached_here : (j : ℕ) → ert_rule t (λ i. 0) j ≤ t.latest j + t.most j → Reached j
  reached_here j h = record { from = j; below = omega arith; same = refl; enough = omega (arith, demand_one t j) }

  reached : (j : ℕ) → Reached j
  reached zero = reached_here 0 (omega (arith, ert_first t (λ i. 0) 0 (first_zero t)))
  reached (suc j) =
      by_equal (t.chain j) (t.chain (suc j))
      (λ e.
      let r = reached j in
      let next : ert_rule t (λ i. 0) (suc j) ≡ _ = ert-next t (λ i. 0) j e in
      by_order (ert_rule t (λ i. 0) j) (t.latest (suc j))
      (λ l. reached_here (suc j) (omega arith))
      (λ l.
      record {
        from = r.from;
        below = omega (arith, r.below);
        same = r.same ∙ e;
        enough = omega (arith, r.enough, demand_more t r.from j r.below);
      }))
      (λ ne. reached_here (suc j) (omega (arith, ert_first t (λ i. 0) (suc j) (first_after t j ne))))

  pub start_le : (keep : ℕ → ℕ → ℕ → Bool) → AtMost t.count (after t 0) (cja_with t keep)
  unfolding pair_bound
  start_le keep j l =
      let r = reached j in
      omega (
        arith,
        r.enough,
        at_start t j l,
        at_cja t keep j l,
        pair_below t keep r.from j (suc j) (omega (arith, r.below)) r.same,
      )

  -- each round's bounds are at most the next round's
  pub rounds_grow : (n : ℕ) → AtMost t.count (after t n) (after t (suc n))
  unfolding after round
  rounds_grow zero = start_le (overlap t (after t 0))
  rounds_grow (suc n) = round_mono (after t n) (round t (after t n)) (rounds_grow n)

module _ (t : Table) (o : Ordered t) where
  -- the interference of a pair is that of the last job, or that of the pair without it
  pair_le_ert : (k j : ℕ) → k ≤ j → j < t.count → t.chain k ≡ t.chain j → pair_bound t always k j ≤ ert_rule t (interference_at t) j
  unfolding pair_bound interference_at
  pair_le_ert k zero kj jl c =
      let e : k ≡ 0 = omega arith in
      rw (e, lowest_one t 0) (omega (arith, demand_one t 0, ert_own t (interference_at t) 0))
  pair_le_ert k (suc j) kj jl c =
      by_last k (suc j) (omega arith)
      (λ e. rw (e, lowest_one t (suc j)) (omega (arith, demand_one t (suc j), ert_own t (interference_at t) (suc j))))
      (λ l.
      let same : t.chain j ≡ t.chain (suc j) = chain_between t o k j (suc j) (omega arith) (omega arith) jl c in
      let before : pair_bound t always k j ≤ ert_rule t (interference_at t) j = pair_le_ert k j (omega arith) (omega arith) (c ∙ sym same) in
      let sum : demand t k (suc j) ≡ demand t k j + t.most (suc j) = demand_more t k j (omega arith) in
      let next : ert_rule t (interference_at t) (suc j) ≡ _ = ert-next t (interference_at t) j same in
      by_order (lowest t k j) (t.urgency (suc j))
      (λ low.
      let m : lowest t k (suc j) ≡ lowest t k j = lowest_more t k j (omega arith) ∙ min-eq_left low in
      let f : interference t (t.chain (suc j)) (lowest t k (suc j)) t.most ≡ interference t (t.chain j) (lowest t k j) t.most = cc in
      omega arith)
      (λ low.
      let m : lowest t k (suc j) ≡ t.urgency (suc j) = lowest_more t k j (omega arith) ∙ min-eq_right (omega arith) in
      let f : interference t (t.chain (suc j)) (lowest t k (suc j)) t.most ≡ interference t (t.chain (suc j)) (t.urgency (suc j)) t.most = cc in
      omega arith))

  pub cja_le_ert : AtMost t.count (cja t) (ert t)
  unfolding cja
  cja_le_ert j l =
      rw (at_cja t always j l, at_ert t j l)
      (pairs_least t always j (ert_rule t (interference_at t) j) (suc j) (λ k kl c. pair_le_ert k j (omega arith) l c))
