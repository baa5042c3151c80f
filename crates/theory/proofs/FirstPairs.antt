-- The first pair that gives a bound, found by a walk from k = j down to the chain's first job that knows the bound.
--   Found   what the walk holds of it with the pairs from k on behind it
-- Assumes that the chains come in order.
use Prim.Native.Nat.{ℕ, suc, ◌+◌, ◌≤◌, ◌<◌, min}
use mathlib.Core.Path.{◌≡◌, sym, ◌∙◌}
use mathlib.Core.Logic.{◌≢◌}
use mathlib.Core.Bool.{Bool, true, false, cond}
use native.Mathlib.Omega.{arith}
use lib.Dec.{eqb}
use borrow.Author.Tests.{eq-eqb, ne_eqb}
use Rattle.laws.proofs.Tests.{by_order, by_equal, both_ways, never_true}
use Rattle.laws.proofs.First.{first_is}
use Rattle.theory.specs.Table.{Table}
use Rattle.theory.specs.Bounds.{pair_bound, largest_pair}
use Rattle.theory.specs.Delays.{is_largest, first_pair}
use Rattle.theory.proofs.WellFormed.{Ordered, chain_between}
use Rattle.theory.proofs.Rules.{pair_below}
use Rattle.theory.proofs.Delays.{is_largest_lem, largest_chain, largest_is, pair_within, pair_holds}
use Rattle.theory.proofs.Pairs.{Walked, walked_none, walked_next}

-- The first k so far, after the pair of p: p where its sum is the bound.
unfoldable pub earlier : ℕ → ℕ → ℕ → ℕ → ℕ
earlier value bound p first = cond (eqb value bound) p first

pub record Found (t : Table) (keep : ℕ → ℕ → ℕ → Bool) (j k first : ℕ) : Type 0 where
  pub within : first ≤ suc j
  pub none : (u : ℕ) → k ≤ u → u < first → is_largest t keep j u ≡ false
  pub some : first ≤ j → is_largest t keep j first ≡ true

module _ (t : Table) (keep : ℕ → ℕ → ℕ → Bool) (j : ℕ) where
  abbrev bound : ℕ
  bound = largest_pair t keep j (suc j)

  pub found_none : Found t keep j (suc j) (suc j)
  found_none = record { within = omega arith; none = λ u a b. absurd (omega arith); some = λ l. absurd (omega arith) }

  pub found_next : {k p first : ℕ} → k ≡ suc p → p ≤ j → t.chain p ≡ t.chain j → (value first' : ℕ) → value ≡ pair_bound t keep p j → first' ≡ earlier value bound p first
      → Found t keep j k first → Found t keep j p first'
  unfolding earlier
  found_next {k} {p} {first} e l c value first' qv qf h =
      by_equal value bound
      (λ q.
      let here : first' ≡ p = qf ∙ rw (eq-eqb value bound q) in
      record {
        within = omega arith;
        none = λ u a b. absurd (omega arith);
        some = λ m. rw here (is_largest_lem t keep j p c (sym qv ∙ q));
      })
      (λ ne.
      let stays : first' ≡ first = qf ∙ rw (ne_eqb value bound ne) in
      record {
        within = omega (arith, h.within);
        none = λ u a b.
            by_order (suc p) u
            (λ up. h.none u (omega arith) (omega arith))
            (λ at.
            let same : u ≡ p = omega arith in
            rw same (never_true (is_largest t keep j p) (λ q. ne (qv ∙ largest_is t keep j p q))));
        some = λ m. rw stays (h.some (omega arith));
      })

  found_is : {first : ℕ} → first ≤ suc j → ((u : ℕ) → u < first → is_largest t keep j u ≡ false) → (first ≤ j → is_largest t keep j first ≡ true) → first ≡ first_pair t keep j
  found_is {first} within none some =
      by_order first j
      (λ l. unfold first_pair in sym (first_is (is_largest t keep j) (suc j) first (omega arith) (some l) none))
      (λ l. absurd (both_ways (pair_holds t keep j) (none (first_pair t keep j) (omega (arith, pair_within t keep j)))))

  pub found_all : {k first : ℕ} → k ≡ 0 → Found t keep j k first → first ≡ first_pair t keep j
  found_all e h = found_is h.within (λ u l. h.none u (omega arith) l) h.some

  -- the chain's first job is behind the walk
  pub found_stop : Ordered t → j < t.count → {k p first : ℕ} → k ≡ suc p → p ≤ j → t.chain p ≢ t.chain j → Found t keep j k first → first ≡ first_pair t keep j
  found_stop o jl {k} {p} e l ne h =
      found_is h.within
      (λ u ul.
      by_order k u
      (λ a. h.none u a ul)
      (λ b. never_true (is_largest t keep j u) (λ q. ne (chain_between t o u p j (omega arith) l jl (largest_chain t keep j u q)))))
      h.some

  -- ---- the walk that knows the bound is the one that finds it
  module _ (m : ℕ) where
    pub known_none : Walked t keep m j (suc j) 0 (t.urgency j) bound
    known_none =
        let h = walked_none t j keep m in
        record { inside = h.inside; sum_is = h.sum_is; low_is = h.low_is; best_is = omega arith; small = h.small }

    pub known_next : {k p sum low : ℕ} → Walked t keep m j k sum low bound → k ≡ suc p → (low' value : ℕ) → t.chain p ≡ t.chain j → t.most p ≤ m
        → low' ≡ min low (t.urgency p) → value ≡ pair_bound t keep p j → Walked t keep m j p (sum + t.most p) low' bound
    known_next {k} {p} h e low' value c mp ql qv =
        walked_next t j keep m h e low' value bound c mp ql qv (omega (arith, qv, pair_below t keep p j (suc j) (omega (arith, h.inside)) c))
