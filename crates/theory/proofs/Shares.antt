-- Chain by chain the shares of the interference are added up: over the places of one chain only its own share grows, from nothing to its largest block.
--   share      what a chain adds over the first n places
--   shares_of   all shares, added up
--   Shared     what the walk over the chains holds at the first place of one
-- Assumes that the chains come in order.
use Prim.Native.Nat.{ℕ, suc, ◌+◌, ◌*◌, ◌-◌, ◌≤◌, ◌<◌}
use mathlib.Core.Path.{◌≡◌, refl, sym, ap, subst, ◌∙◌}
use mathlib.Core.Logic.{◌≢◌}
use mathlib.Core.Bool.{cond}
use native.Mathlib.Omega.{arith}
use native.Mathlib.Nat.{zero-add, add-mul}
use lib.Dec.{eqb}
use borrow.Author.Tests.{eq-eqb, ne_eqb}
use Rattle.laws.specs.Words.{sum_below, greatest}
use Rattle.laws.proofs.Tests.{by_test, by_equal}
use Rattle.laws.proofs.Sums.{sum_zero, sum_bump}
use Rattle.theory.specs.Table.{Table}
use Rattle.theory.specs.Bounds.{largest_block, interference}
use Rattle.theory.proofs.WellFormed.{Ordered, chain_le}
use Rattle.theory.proofs.Chains.{chains, chain_most}
use Rattle.theory.proofs.Blocks.{largest-rest}
use Rattle.theory.proofs.Stretches.{largest_over, largest_small, largest_over_lem}
use Rattle.theory.proofs.Endings.{First, EndsAt}

unfoldable pub share : Table → ℕ → ℕ → (ℕ → ℕ) → ℕ → ℕ → ℕ
share t own target w n c = cond (eqb c own) 0 (largest_block t c target w n)

unfoldable pub shares_of : Table → ℕ → ℕ → (ℕ → ℕ) → ℕ → ℕ
shares_of t own target w n = sum_below (suc (chains t)) (share t own target w n)

-- no weight is beyond m
pub record Shared (t : Table) (own target : ℕ) (w : ℕ → ℕ) (m i total : ℕ) : Type 0 where
  pub inside : i ≤ t.count
  pub first : i < t.count → First t.chain i
  pub sum : total ≡ shares_of t own target w i
  pub small : total ≤ i * m

module _ (t : Table) (own target : ℕ) (w : ℕ → ℕ) where
  share_own : (n c : ℕ) → c ≡ own → share t own target w n c ≡ 0
  unfolding share
  share_own n c e = rw (eq-eqb c own e)

  share_other : (n c : ℕ) → c ≢ own → share t own target w n c ≡ largest_block t c target w n
  unfolding share
  share_other n c ne = rw (ne_eqb c own ne)

  share-same : (n k c : ℕ) → largest_block t c target w n ≡ largest_block t c target w k → share t own target w n c ≡ share t own target w k c
  unfolding share
  share-same n k c e = ap (cond (eqb c own) 0) e

  share_none : (n c : ℕ) → largest_block t c target w n ≡ 0 → share t own target w n c ≡ 0
  share_none n c e = by_equal c own (share_own n c) (λ ne. share_other n c ne ∙ e)

  shares_all : shares_of t own target w t.count ≡ interference t own target w
  unfolding shares_of share interference
  shares_all = refl

  pub shared_all : (m i total : ℕ) → t.count ≤ i → Shared t own target w m i total → total ≡ interference t own target w
  shared_all m i total l h = h.sum ∙ ap (shares_of t own target w) (omega (arith, h.inside)) ∙ shares_all

  module _ (m : ℕ) where
    pub shared_none : Shared t own target w m 0 0
    unfolding shares_of largest_block greatest
    shared_none =
        record {
          inside = omega arith;
          first = λ l v vl. absurd (omega arith);
          sum = sym (sum_zero (suc (chains t)) (share t own target w 0) (λ c l. share_none 0 c refl));
          small = omega arith;
        }

    module _ (o : Ordered t) (i e : ℕ) (l : i < t.count) (ends : EndsAt t.count t.chain i e) (total : ℕ) (h : Shared t own target w m i total) where
      -- the chain that begins at i has no block before
      no_block : largest_block t (t.chain i) target w i ≡ 0
      unfolding largest_block greatest
      no_block =
          subst (λ (n : ℕ). largest_block t (t.chain i) target w n ≡ 0) (zero-add i)
          (largest-rest t (t.chain i) target w 0 i (λ v a b. h.first l v (omega arith)))

      whole : i + (e - i) ≡ e
      whole = omega (arith, ends.later)

      share-grown : share t own target w e (t.chain i) ≡ cond (eqb (t.chain i) own) 0 (largest_over t.urgency target w i (e - i))
      unfolding share
      share-grown =
          ap (cond (eqb (t.chain i) own) 0)
          (subst (λ (n : ℕ). largest_block t (t.chain i) target w n ≡ largest_over t.urgency target w i (e - i)) whole
          (largest_over_lem t (t.chain i) target w i no_block (e - i) (λ u a b. ends.same u a (omega (arith, whole)))))

      -- the places are of no other chain
      others_stay : (c : ℕ) → c ≢ t.chain i → largest_block t c target w e ≡ largest_block t c target w i
      others_stay c ne =
          subst (λ (n : ℕ). largest_block t c target w n ≡ largest_block t c target w i) whole
          (largest-rest t c target w i (e - i) (λ u a b q. ne (sym q ∙ ends.same u a (omega (arith, whole)))))

      shares_grown : (y : ℕ) → y ≡ share t own target w e (t.chain i) → shares_of t own target w e ≡ shares_of t own target w i + y
      unfolding shares_of
      shares_grown y q =
          sum_bump (suc (chains t)) (share t own target w i) (share t own target w e) (t.chain i) y (chain_most t i l)
          (omega (arith, q, share_none i (t.chain i) no_block))
          (λ c cl ne. share-same e i c (others_stay c ne))

      first_next : e < t.count → First t.chain e
      first_next el v vl q =
          let last : t.chain (e - 1) ≡ t.chain i = ends.same (e - 1) (omega (arith, ends.later)) (omega (arith, ends.later)) in
          let before : t.chain v ≤ t.chain (e - 1) = chain_le t o v (e - 1) (omega arith) (omega arith) in
          let after : t.chain i ≤ t.chain e = chain_le t o i e (omega (arith, ends.later)) el in
          ends.other el (omega (arith, last, before, after, q))

      share_small : ((u : ℕ) → u < e → w u ≤ m) → cond (eqb (t.chain i) own) 0 (largest_over t.urgency target w i (e - i)) ≤ (e - i) * m
      share_small wm =
          by_test (eqb (t.chain i) own)
          (λ b. rw b (omega arith))
          (λ b. rw b (largest_small t.urgency target w i m (e - i) (λ u ul. wm u (omega (arith, whole)))))

      pub shared_next : ((u : ℕ) → u < e → w u ≤ m) → (y : ℕ) → y ≡ cond (eqb (t.chain i) own) 0 (largest_over t.urgency target w i (e - i)) → Shared t own target w m e (total + y)
      shared_next wm y q =
          record {
            inside = ends.within;
            first = first_next;
            sum = omega (arith, h.sum, shares_grown y (q ∙ sym share-grown));
            small = subst (λ (n : ℕ). total + y ≤ n * m) whole (rw (add-mul i (e - i) m) (omega (arith, h.small, q, share_small wm)));
          }
