-- Blocks over a stretch of the table whose places are all of one chain.
--   Blocked   what a walk over the stretch holds at place i
-- Assumes nothing.
use Prim.Native.Nat.{ℕ, zero, suc, ◌+◌, ◌*◌, ◌-◌, ◌≤◌, ◌<◌, max}
use mathlib.Core.Path.{◌≡◌, refl, sym, ap, subst, ◌∙◌}
use mathlib.Core.Bool.{cond}
use native.Mathlib.Omega.{arith}
use native.Mathlib.Nat.{add-zero, add-suc}
use lib.Dec.{leb}
use borrow.Author.Tests.{le-leb, lt-leb}
use Rattle.laws.proofs.Tests.{by_order}
use Rattle.theory.specs.Table.{Table}
use Rattle.theory.specs.Bounds.{open_block, largest_block}
use Rattle.theory.proofs.Blocks.{block_on, block-ends, largest_step, open_largest}

-- The open block after one more job of its chain: an urgent one goes on with it, any other ends it.
unfoldable pub opened : ℕ → ℕ → ℕ → ℕ → ℕ
opened block target urgency weight = cond (leb target urgency) (block + weight) 0

-- The block that reaches the last of n places from `first` on, where all are of one chain.
unfoldable pub open_over : (ℕ → ℕ) → ℕ → (ℕ → ℕ) → ℕ → ℕ → ℕ
open_over urgency target weight first zero = 0
open_over urgency target weight first (suc n) =
    let before = open_over urgency target weight first n in
    opened before target (urgency (first + n)) (weight (first + n))

-- The largest block among them.
unfoldable pub largest_over : (ℕ → ℕ) → ℕ → (ℕ → ℕ) → ℕ → ℕ → ℕ
largest_over urgency target weight first zero = 0
largest_over urgency target weight first (suc n) =
    max (largest_over urgency target weight first n) (open_over urgency target weight first (suc n))

pub record Blocked (urgency : ℕ → ℕ) (target : ℕ) (w : ℕ → ℕ) (first end i block largest : ℕ) : Type 0 where
  pub after : first ≤ i
  pub inside : i ≤ end
  pub block_is : block ≡ open_over urgency target w first (i - first)
  pub largest_is : largest ≡ largest_over urgency target w first (i - first)

module _ (urgency : ℕ → ℕ) (target : ℕ) (w : ℕ → ℕ) (first : ℕ) where
  pub over_none : open_over urgency target w first 0 ≡ 0
  unfolding open_over
  over_none = refl

  pub largest_none : largest_over urgency target w first 0 ≡ 0
  unfolding largest_over
  largest_none = refl

  pub over_next : (n : ℕ) → open_over urgency target w first (suc n) ≡ opened (open_over urgency target w first n) target (urgency (first + n)) (w (first + n))
  unfolding open_over
  over_next n = refl

  pub largest-next : (n : ℕ) → largest_over urgency target w first (suc n) ≡ max (largest_over urgency target w first n) (open_over urgency target w first (suc n))
  unfolding largest_over
  largest-next n = refl

  pub over_on : (n : ℕ) → target ≤ urgency (first + n) → open_over urgency target w first (suc n) ≡ open_over urgency target w first n + w (first + n)
  unfolding opened
  over_on n l = over_next n ∙ rw (le-leb target (urgency (first + n)) l)

  pub over_ends : (n : ℕ) → urgency (first + n) < target → open_over urgency target w first (suc n) ≡ 0
  unfolding opened
  over_ends n l = over_next n ∙ rw (lt-leb target (urgency (first + n)) l)

  module _ (m : ℕ) where
    -- no weight is beyond m
    pub over_small : (n : ℕ) → ((u : ℕ) → u < first + n → w u ≤ m) → open_over urgency target w first n ≤ n * m
    over_small zero h = omega (arith, over_none)
    over_small (suc n) h =
        let below : open_over urgency target w first n ≤ n * m = over_small n (λ u l. h u (omega (arith, add-suc first n))) in
        let this : w (first + n) ≤ m = h (first + n) (omega (arith, add-suc first n)) in
        by_order target (urgency (first + n)) (λ l. omega (arith, over_on n l)) (λ l. omega (arith, over_ends n l))

    pub largest_small : (n : ℕ) → ((u : ℕ) → u < first + n → w u ≤ m) → largest_over urgency target w first n ≤ n * m
    largest_small zero h = omega (arith, largest_none)
    largest_small (suc n) h =
        let below : largest_over urgency target w first n ≤ n * m = largest_small n (λ u l. h u (omega (arith, add-suc first n))) in
        omega (arith, largest-next n, over_small (suc n) h)

  module _ (end : ℕ) where
    pub blocked_none : first ≤ end → Blocked urgency target w first end first 0 0
    blocked_none l =
        let none : 0 ≡ first - first = omega arith in
        record {
          after = omega arith;
          inside = l;
          block_is = subst (λ (n : ℕ). 0 ≡ open_over urgency target w first n) none (sym over_none);
          largest_is = subst (λ (n : ℕ). 0 ≡ largest_over urgency target w first n) none (sym largest_none);
        }

    module _ {i block largest : ℕ} (h : Blocked urgency target w first end i block largest) where
      pub blocked_small : (m : ℕ) → ((u : ℕ) → u < end → w u ≤ m) → block ≤ (i - first) * m
      blocked_small m wm = omega (arith, h.block_is, over_small m (i - first) (λ u l. wm u (omega (arith, h.after, h.inside))))

      pub blocked_next : i < end → (b l : ℕ) → b ≡ opened block target (urgency i) (w i) → l ≡ max largest b → Blocked urgency target w first end (i + 1) b l
      blocked_next il b l be le =
          let more : suc (i - first) ≡ i + 1 - first = omega (arith, h.after) in
          let here : first + (i - first) ≡ i = omega (arith, h.after) in
          let block-next : b ≡ open_over urgency target w first (suc (i - first))
          = be ∙ ap (λ (z : ℕ). opened z target (urgency i) (w i)) h.block_is ∙ sym (subst (λ (u : ℕ). open_over urgency target w first (suc (i - first)) ≡ opened (open_over urgency target w first (i - first)) target (urgency u) (w u)) here (over_next (i - first))) in
          record {
            after = omega (arith, h.after);
            inside = omega arith;
            block_is = subst (λ (n : ℕ). b ≡ open_over urgency target w first n) more block-next;
            largest_is = subst (λ (n : ℕ). l ≡ largest_over urgency target w first n) more (omega (arith, le, h.largest_is, block-next, largest-next (i - first)));
          }

      pub blocked_all : end ≤ i → largest ≡ largest_over urgency target w first (end - first)
      blocked_all l = h.largest_is ∙ ap (λ (n : ℕ). largest_over urgency target w first (n - first)) (omega (arith, h.inside))

-- where a chain begins at `first`, these are its blocks
module _ (t : Table) (c target : ℕ) (w : ℕ → ℕ) (first : ℕ) (none : largest_block t c target w first ≡ 0) where
  open_over_lem : (n : ℕ) → ((u : ℕ) → first ≤ u → u < first + n → t.chain u ≡ c) → open_block t c target w (first + n) ≡ open_over t.urgency target w first n
  open_over_lem zero h = rw (add-zero first) (omega (arith, none, open_largest t c target w first, over_none t.urgency target w first))
  open_over_lem (suc n) h =
      let this : t.chain (first + n) ≡ c = h (first + n) (omega arith) (omega (arith, add-suc first n)) in
      let below : open_block t c target w (first + n) ≡ open_over t.urgency target w first n = open_over_lem n (λ u a b. h u a (omega (arith, add-suc first n))) in
      rw (add-suc first n)
      (by_order target (t.urgency (first + n))
      (λ l. omega (arith, below, block_on t c target w (first + n) this l, over_on t.urgency target w first n l))
      (λ l. omega (arith, block-ends t c target w (first + n) this l, over_ends t.urgency target w first n l)))

  pub largest_over_lem : (n : ℕ) → ((u : ℕ) → first ≤ u → u < first + n → t.chain u ≡ c) → largest_block t c target w (first + n) ≡ largest_over t.urgency target w first n
  largest_over_lem zero h = rw (add-zero first) (none ∙ sym (largest_none t.urgency target w first))
  largest_over_lem (suc n) h =
      let below : largest_block t c target w (first + n) ≡ largest_over t.urgency target w first n = largest_over_lem n (λ u a b. h u a (omega (arith, add-suc first n))) in
      let opens : open_block t c target w (first + suc n) ≡ open_over t.urgency target w first (suc n) = open_over_lem (suc n) h in
      let step = largest_step t c target w (first + n) in
      rw (add-suc first n) (omega (arith, below, rw (add-suc first n) at opens, step, largest-next t.urgency target w first n))
