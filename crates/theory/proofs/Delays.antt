-- What a bound comes from: the blocks taken add up to the interference, and with the first pair's release and demand to the bound; no pair before it does.
-- Assumes that the chains come in order.
use Prim.Native.Nat.{ℕ, zero, suc, ◌+◌, ◌≤◌, ◌<◌}
use mathlib.Core.Path.{◌≡◌, refl, sym, ap, subst, ◌∙◌}
use mathlib.Core.Logic.{◌≢◌}
use mathlib.Core.Bool.{Bool, true, cond}
use native.Mathlib.Omega.{arith}
use lib.Dec.{eqb}
use borrow.Author.Tests.{eq-eqb, eqb-true}
use Rattle.std.specs.Prelude.{List}
use Rattle.laws.specs.Words.{number_at}
use Rattle.laws.proofs.Tests.{by_test, by_equal, both_ways, and_left, and_right, and_both}
use Rattle.laws.proofs.Sums.{sum_ext}
use Rattle.laws.proofs.Greatest.{attained}
use Rattle.laws.proofs.First.{first_before, first_holds, first_least}
use Rattle.theory.specs.Table.{Table}
use Rattle.theory.specs.Bounds.{largest_block, interference, ert_rule, interference_at, ert, demand, lowest, pair_bound, largest_pair, cja_with, cja, overlap, round, after, itr}
use Rattle.theory.specs.Claims.{Repeats}
use Rattle.theory.specs.Delays.{block_sum, taken_block, blocks_on, is_largest, first_pair, counts, delay_sum, Names, delay_at, ert_delay, cja_delay, itr_delay, ert_begin, ByErt, ByPair}
use Rattle.theory.proofs.WellFormed.{Ordered}
use Rattle.theory.proofs.Rules.{always, pair_below, at_cja, at_ert}
use Rattle.theory.proofs.Chains.{chains}
use Rattle.theory.proofs.Settling.{itr_settled, itr_fixed}
use Rattle.theory.proofs.TakenBlock.{no_block_sum, block_own, block_other, taken_none, none_taken, some_taken, taken_only, taken_sum}

-- ---- the blocks taken add up to the interference
module _ (t : Table) (o : Ordered t) where
  block-share : (own target : ℕ) (w : ℕ → ℕ) (c : ℕ) → block_sum w (blocks_on t own target w c) ≡ cond (eqb c own) 0 (largest_block t c target w t.count)
  unfolding blocks_on
  block-share own target w c =
      by_test (eqb c own)
      (λ e. rw e (no_block_sum w))
      (λ e. rw e (taken_sum t c target w o))

  pub blocks_interference : (own target : ℕ) (w : ℕ → ℕ) → delay_sum t w (blocks_on t own target w) ≡ interference t own target w
  unfolding interference
  blocks_interference own target w = sum_ext (suc (chains t)) _ _ (λ c l. block-share own target w c)

  pub blocks_name : (own target : ℕ) (w : ℕ → ℕ) → Names t own target w (blocks_on t own target w)
  blocks_name own target w =
      let other : (c : ℕ) → c ≢ own → blocks_on t own target w c ≡ taken_block t c target w = block_other t own target w in
      record {
        own_none = block_own t own target w own refl;
        none = λ c ne. (λ e. none_taken t c target w o (sym (other c ne) ∙ e), λ h. other c ne ∙ taken_none t c target w o h);
        taken = λ c ne some. rw (other c ne) (some_taken t c target w o (λ e. some (other c ne ∙ e)));
        only = λ c ne block h. taken_only t c target w o block h ∙ sym (other c ne);
        sums = blocks_interference own target w;
      }

  -- the rule, its predecessor's bound read from the bounds
  ert_sum : (j : ℕ) → j < t.count → ert_begin t (ert t) j + t.most j + interference_at t j ≡ number_at (ert t) j
  unfolding ert_begin ert_rule
  ert_sum zero l = sym (at_ert t 0 l)
  ert_sum (suc i) l = rw (at_ert t i (omega arith)) (sym (at_ert t (suc i) l))

  ert_blocks : (j : ℕ) → delay_sum t t.most (ert_delay t j).block ≡ interference_at t j
  unfolding ert_delay interference_at
  ert_blocks j = blocks_interference (t.chain j) (t.urgency j) t.most

  pub ert_explains : (j : ℕ) → j < t.count → ByErt t j (ert_delay t j)
  ert_explains j l =
      record {
        itself = unfold ert_delay in refl;
        named = unfold ert_delay in blocks_name (t.chain j) (t.urgency j) t.most;
        sum = omega (arith, ert_blocks j, ert_sum j l);
      }

module _ (t : Table) (keep : ℕ → ℕ → ℕ → Bool) (j : ℕ) where
  -- ---- the first pair
  pub is_largest_lem : (k : ℕ) → t.chain k ≡ t.chain j → pair_bound t keep k j ≡ largest_pair t keep j (suc j) → is_largest t keep j k ≡ true
  unfolding is_largest
  is_largest_lem k c e = and_both (eqb (t.chain k) (t.chain j)) _ (eq-eqb (t.chain k) (t.chain j) c) (eq-eqb (pair_bound t keep k j) (largest_pair t keep j (suc j)) e)

  pub largest_chain : (k : ℕ) → is_largest t keep j k ≡ true → t.chain k ≡ t.chain j
  unfolding is_largest
  largest_chain k e = eqb-true _ _ (and_left (eqb (t.chain k) (t.chain j)) _ e)

  pub largest_is : (k : ℕ) → is_largest t keep j k ≡ true → pair_bound t keep k j ≡ largest_pair t keep j (suc j)
  unfolding is_largest
  largest_is k e = eqb-true _ _ (and_right (eqb (t.chain k) (t.chain j)) _ e)

  -- some pair has the largest sum
  record Given : Type 0 where
    at : ℕ
    below : at < suc j
    largest : is_largest t keep j at ≡ true

  given : Given
  unfolding largest_pair
  given =
      let f : ℕ → ℕ = (λ k. cond (eqb (t.chain k) (t.chain j)) (pair_bound t keep k j) 0) in
      let a = attained (suc j) f (omega arith) in
      by_test (eqb (t.chain a.at) (t.chain j))
      (λ e. record { at = a.at; below = a.below; largest = is_largest_lem a.at (eqb-true _ _ e) (sym (ap (λ (b : Bool). cond b (pair_bound t keep a.at j) 0) e) ∙ a.greatest_is) })
      (λ e.
      let none : 0 ≡ largest_pair t keep j (suc j) = sym (ap (λ (b : Bool). cond b (pair_bound t keep a.at j) 0) e) ∙ a.greatest_is in
      record { at = j; below = omega arith; largest = is_largest_lem j refl (omega (arith, none, pair_below t keep j j (suc j) (omega arith) refl)) })

  pub pair_within : first_pair t keep j ≤ j
  unfolding first_pair
  pair_within = omega (arith, first_least (is_largest t keep j) (suc j) given.at given.largest, given.below)

  pub pair_holds : is_largest t keep j (first_pair t keep j) ≡ true
  unfolding first_pair
  pair_holds = first_holds (is_largest t keep j) (suc j) (unfold first_pair in omega (arith, pair_within))

  pub pair_chain : t.chain (first_pair t keep j) ≡ t.chain j
  pair_chain = largest_chain (first_pair t keep j) pair_holds

  pub pair_largest : pair_bound t keep (first_pair t keep j) j ≡ largest_pair t keep j (suc j)
  pair_largest = largest_is (first_pair t keep j) pair_holds

  pub pair_first : (k : ℕ) → k < first_pair t keep j → t.chain k ≡ t.chain j → pair_bound t keep k j < largest_pair t keep j (suc j)
  unfolding first_pair
  pair_first k l c =
      by_equal (pair_bound t keep k j) (largest_pair t keep j (suc j))
      (λ e. absurd (both_ways (is_largest_lem k c e) (first_before (is_largest t keep j) (suc j) k l)))
      (λ ne. omega (arith, ne, pair_below t keep k j (suc j) (unfold first_pair in omega (arith, pair_within)) c))

module _ (t : Table) (o : Ordered t) where
  pub delay_explains : (keep : ℕ → ℕ → ℕ → Bool) (j : ℕ) → j < t.count → ByPair t keep j (number_at (cja_with t keep) j) (delay_at t keep j)
  unfolding delay_at
  delay_explains keep j l =
      let k : ℕ = first_pair t keep j in
      let pair : t.latest k + demand t k j + interference t (t.chain j) (lowest t k j) (counts t keep k j) ≡ largest_pair t keep j (suc j)
      = unfold pair_bound in pair_largest t keep j in
      rw (at_cja t keep j l)
      (record {
        within = pair_within t keep j;
        chain = pair_chain t keep j;
        named = blocks_name t o (t.chain j) (lowest t k j) (counts t keep k j);
        sum = omega (arith, pair, blocks_interference t o (t.chain j) (lowest t k j) (counts t keep k j));
        first = pair_first t keep j;
      })

  pub cja_explains : (j : ℕ) → j < t.count → ByPair t always j (number_at (cja t) j) (cja_delay t j)
  unfolding cja cja_delay
  cja_explains j l = delay_explains always j l

  pub itr_explains : (j : ℕ) → j < t.count → ByPair t (overlap t (itr t).bounds) j (number_at (itr t).bounds j) (itr_delay t j)
  unfolding itr_delay
  itr_explains j l =
      let fixed : cja_with t (overlap t (itr t).bounds) ≡ (itr t).bounds = unfold round in itr_fixed t in
      subst (λ (b : List ℕ). ByPair t (overlap t (itr t).bounds) j (number_at b j) (delay_at t (overlap t (itr t).bounds) j)) fixed
      (delay_explains (overlap t (itr t).bounds) j l)

-- the bounds that the last round started from are the ones that it gave
pub last_round : (t : Table) (n : ℕ) → (itr t).rounds ≡ suc n → after t n ≡ (itr t).bounds
last_round t n e =
    let h = itr_settled t in
    let repeats : Repeats t (suc n) = subst (Repeats t) e h.last in
    sym repeats ∙ ap (after t) (sym e) ∙ sym h.made
