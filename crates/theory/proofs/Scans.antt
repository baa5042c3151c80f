-- The block taken of a chain, found by a walk over its places that knows the largest sum: the first block to end with that sum.
--   Scanned   what the walk holds at place i
--   Sought    what a walk over the chains, for one of a given number, holds at the first place of one
-- Assumes that the chains come in order.
use Prim.Native.Nat.{ℕ, zero, suc, ◌+◌, ◌*◌, ◌-◌, ◌≤◌, ◌<◌}
use mathlib.Core.Path.{◌≡◌, refl, sym, ap, subst, ◌∙◌}
use mathlib.Core.Logic.{◌≢◌}
use mathlib.Core.Bool.{Bool, true, false, cond, ◌&&◌}
use native.Mathlib.Omega.{arith}
use native.Mathlib.Nat.{zero-add}
use native.Mathlib.Numerals.{add-one}
use lib.Dec.{leb, ltb, eqb}
use borrow.Author.Tests.{lt-ltb, le-ltb, ltb-true, le-leb, lt-leb, eq-eqb, eqb-true}
use Rattle.laws.specs.Words.{greatest, first_below}
use Rattle.laws.proofs.Tests.{by_order, by_equal, by_last, both_ways, and_left, and_right, and_both, never_true}
use Rattle.laws.proofs.First.{first_is, first_none}
use Rattle.theory.specs.Table.{Table}
use Rattle.theory.specs.Bounds.{open_block, largest_block}
use Rattle.theory.specs.Delays.{no_block, urgent_in, ends_block, start_of, ends_largest, block_to, taken_block}
use Rattle.theory.proofs.WellFormed.{Ordered, chain_le, chain_between}
use Rattle.theory.proofs.Blocks.{block_on, block-ends, open_largest, largest-rest}
use Rattle.theory.proofs.LargestBlock.{largest_grows}
use Rattle.theory.proofs.Stretches.{opened, largest_over, largest_small, largest_over_lem}
use Rattle.theory.proofs.Endings.{First, EndsAt}
use Rattle.theory.proofs.TakenBlock.{urgent_in_lem, not_in, ends_at, ends_not, ends_out, start_on, start-new, start-run, open_start, largest_ends, largest_open, ends_largest_lem, taken_none}

-- the tests of the walk
pub largest-test : {start i sum largest : ℕ} → ltb start i && eqb sum largest ≡ true → (start < i) × (sum ≡ largest)
largest-test {start} {i} {sum} {largest} e =
    (ltb-true start i (and_left (ltb start i) (eqb sum largest) e), eqb-true sum largest (and_right (ltb start i) (eqb sum largest) e))

pub largest_fails : {start i sum largest : ℕ} → ltb start i && eqb sum largest ≡ false → start < i → sum ≡ largest → ⊥
largest_fails {start} {i} {sum} {largest} e a b = both_ways (and_both (ltb start i) (eqb sum largest) (lt-ltb start i a) (eq-eqb sum largest b)) e

pub ends_fails : {start i sum largest urgency target : ℕ} → ltb urgency target && (ltb start i && eqb sum largest) ≡ false → start < i → sum ≡ largest → urgency < target → ⊥
ends_fails {start} {i} {sum} {largest} {urgency} {target} e a b l =
    largest_fails (sym (ap (λ (q : Bool). q && (ltb start i && eqb sum largest)) (lt-ltb urgency target l)) ∙ e) a b

-- Where the open block starts after one more job at place i.
unfoldable pub start_next : ℕ → ℕ → ℕ → ℕ → ℕ
start_next start target urgency i = cond (leb target urgency) start (suc i)

pub record Scanned (t : Table) (c target : ℕ) (w : ℕ → ℕ) (first end i start block : ℕ) : Type 0 where
  pub after : first ≤ i
  pub inside : i ≤ end
  pub start_is : start ≡ start_of t c target i
  pub block_is : block ≡ open_block t c target w i
  -- no block before the open one is taken
  pub none : (u : ℕ) → u < start → ends_largest t c target w u ≡ false

module _ (t : Table) (o : Ordered t) (target : ℕ) (w : ℕ → ℕ) (first end : ℕ) (l : first < t.count) (ends : EndsAt t.count t.chain first end) (ff : First t.chain first) where
  abbrev c : ℕ
  c = t.chain first

  abbrev largest : ℕ
  largest = largest_block t c target w t.count

  -- ---- the chain is the stretch
  before_out : (u : ℕ) → u < first → urgent_in t c target u ≡ false
  before_out u ul = not_in t c target u (λ q. absurd (ff u ul q))

  behind_out : (u : ℕ) → end ≤ u → u < t.count → t.chain u ≢ c
  behind_out u a b q =
      ends.other (omega arith) (chain_between t o first end u (omega (arith, ends.later)) a b (sym q) ∙ q)

  pub largest_stretch : largest_block t c target w t.count ≡ largest_over t.urgency target w first (end - first)
  unfolding largest_block greatest
  largest_stretch =
      let none : largest_block t c target w first ≡ 0
      = subst (λ (n : ℕ). largest_block t c target w n ≡ 0) (zero-add first) (largest-rest t c target w 0 first (λ v a b. ff v (omega arith))) in
      let whole : first + (end - first) ≡ end = omega (arith, ends.later) in
      let rest : end + (t.count - end) ≡ t.count = omega (arith, ends.within) in
      let over : largest_block t c target w (first + (end - first)) ≡ largest_over t.urgency target w first (end - first)
      = largest_over_lem t c target w first none (end - first) (λ u a b. ends.same u a (omega arith)) in
      let behind : largest_block t c target w (end + (t.count - end)) ≡ largest_block t c target w end
      = largest-rest t c target w end (t.count - end) (λ u a b. behind_out u a (omega arith)) in
      ap (largest_block t c target w) (sym rest) ∙ behind ∙ ap (largest_block t c target w) (sym whole) ∙ over

  -- ---- which places end a block that is taken
  not_ends : (u : ℕ) → ends_block t c target u ≡ false → ends_largest t c target w u ≡ false
  not_ends u e = never_true (ends_largest t c target w u) (λ q. both_ways (largest_ends t c target w o u q) e)

  not_out : (u : ℕ) → urgent_in t c target u ≡ false → ends_largest t c target w u ≡ false
  not_out u e = not_ends u (ends_out t c target u e)

  -- ---- the walk
  start_first : (n : ℕ) → n ≤ first → start_of t c target n ≡ n
  start_first zero a = unfold start_of in refl
  start_first (suc u) a = start-new t c target u (before_out u a)

  pub scanned_none : Scanned t c target w first end first first 0
  scanned_none =
      record {
        after = omega arith;
        inside = omega (arith, ends.later);
        start_is = sym (start_first first (omega arith));
        block_is = sym (open_start t c target w o first l refl (λ u e q. absurd (ff u (omega arith) q)));
        none = λ u ul. not_out u (before_out u ul);
      }

  module _ {i start block : ℕ} (h : Scanned t c target w first end i start block) where
    pub scanned_small : (m : ℕ) → ((u : ℕ) → u < end → w u ≤ m) → block ≤ (end - first) * m
    scanned_small m wm =
        omega (
          arith,
          h.block_is,
          open_largest t c target w i,
          largest_grows t c target w i t.count (omega (arith, h.inside, ends.within)),
          largest_stretch,
          largest_small t.urgency target w first m (end - first) (λ u ul. wm u (omega (arith, ends.later))),
        )

    -- the open block goes up to before i
    inner : (u : ℕ) → start ≤ u → suc u < i → ends_largest t c target w u ≡ false
    inner u a b =
        not_ends u
        (ends_not t c target u (omega (arith, h.inside, ends.within)) (start-run t c target i (suc u) (omega (arith, h.start_is)) b))

    -- no place before the last of the open block is taken
    earlier : (u : ℕ) → suc u < i → ends_largest t c target w u ≡ false
    earlier u b = by_order start u (λ a. inner u a b) (λ a. h.none u a)

    -- where the open block has not the largest sum, or is empty, its last place is not taken either
    last_not : (start < i → block ≡ largest → ⊥) → (u : ℕ) → u < i → ends_largest t c target w u ≡ false
    last_not other u ul =
        by_order start u
        (λ a.
        by_equal (suc u) i
        (λ e. never_true (ends_largest t c target w u) (λ q. other (omega arith) (h.block_is ∙ ap (open_block t c target w) (sym e) ∙ largest_open t c target w o u q)))
        (λ ne. inner u a (omega arith)))
        (λ a. h.none u a)

    pub scanned-next : i < end → (start < i → block ≡ largest → t.urgency i < target → ⊥) → (start' block' : ℕ)
        → start' ≡ start_next start target (t.urgency i) i → block' ≡ opened block target (t.urgency i) (w i)
        → Scanned t c target w first end (i + 1) start' block'
    unfolding start_next opened
    scanned-next il other start' block' es eb =
        let ci : t.chain i ≡ c = ends.same i h.after il in
        rw add-one
        (by_order target (t.urgency i)
        (λ a.
        let here : urgent_in t c target i ≡ true = urgent_in_lem t c target i ci a in
        let keeps : start' ≡ start = es ∙ rw (le-leb target (t.urgency i) a) in
        let grows : block' ≡ block + w i = eb ∙ rw (le-leb target (t.urgency i) a) in
        record {
          after = omega (arith, h.after);
          inside = il;
          start_is = keeps ∙ h.start_is ∙ sym (start_on t c target i here);
          block_is = omega (arith, grows, h.block_is, block_on t c target w i ci a);
          none = λ u ul. h.none u (omega arith);
        })
        (λ b.
        let here : urgent_in t c target i ≡ false = not_in t c target i (λ q. b) in
        let moves : start' ≡ suc i = es ∙ rw (lt-leb target (t.urgency i) b) in
        let falls : block' ≡ 0 = eb ∙ rw (lt-leb target (t.urgency i) b) in
        record {
          after = omega (arith, h.after);
          inside = il;
          start_is = moves ∙ sym (start-new t c target i here);
          block_is = falls ∙ sym (block-ends t c target w i ci b);
          none = λ u ul. by_last u i (omega arith) (λ q. rw q (not_out i here)) (λ ui. last_not (λ x y. other x y b) u ui);
        }))

    -- the open block ends before i with the largest sum
    pub scanned_found : start < i → block ≡ largest → (i < end → t.urgency i < target) → taken_block t c target w ≡ record { first = start; end = i }
    unfolding taken_block block_to
    scanned_found some sum stops =
        let p : ℕ = i - 1 in
        let last : suc p ≡ i = omega arith in
        let inside : p < t.count = omega (arith, h.inside, ends.within) in
        let behind : suc p < t.count → urgent_in t c target (suc p) ≡ false
        = (λ more.
        rw last
        (not_in t c target i (λ q.
        by_last i end (omega (arith, h.inside)) (λ e. absurd (behind_out i (omega arith) (omega arith) q)) (λ il. stops il)))) in
        let ends_p : ends_block t c target p ≡ true = ends_at t c target p (start-run t c target i p (omega (arith, h.start_is)) (omega arith)) behind in
        let taken_p : ends_largest t c target w p ≡ true
        = ends_largest_lem t c target w o p inside ends_p (rw last (omega (arith, sum, h.block_is))) in
        let place : first_below t.count (ends_largest t c target w) ≡ p
        = first_is (ends_largest t c target w) t.count p inside taken_p (λ u ul. earlier u (omega arith)) in
        rw (place, lt-ltb p t.count inside, last, sym h.start_is)

    -- no block has it: there is none
    pub scanned_all : end ≤ i → (start < i → block ≡ largest → ⊥) → taken_block t c target w ≡ no_block
    unfolding taken_block block_to
    scanned_all all other =
        let place : first_below t.count (ends_largest t c target w) ≡ t.count
        = first_none (ends_largest t c target w) t.count (λ u ul.
        by_order i u
        (λ a. not_out u (not_in t c target u (λ q. absurd (behind_out u (omega (arith, h.inside)) ul q))))
        (λ b. last_not other u b)) in
        rw (place, le-ltb t.count t.count (omega arith))

-- ---- the chain of a number
pub record Sought (t : Table) (c i : ℕ) : Type 0 where
  pub inside : i ≤ t.count
  pub first : i < t.count → First t.chain i
  pub none : (u : ℕ) → u < i → t.chain u ≢ c

module _ (t : Table) (c : ℕ) where
  pub sought_none : Sought t c 0
  sought_none = record { inside = omega arith; first = λ l v vl. absurd (omega arith); none = λ u l. absurd (omega arith) }

  pub sought_next : Ordered t → {i : ℕ} (e : ℕ) → i < t.count → EndsAt t.count t.chain i e → t.chain i ≢ c → Sought t c i → Sought t c e
  sought_next o {i} e l ends ne h =
      record {
        inside = ends.within;
        first = λ el v vl q.
            let last : t.chain (e - 1) ≡ t.chain i = ends.same (e - 1) (omega (arith, ends.later)) (omega (arith, ends.later)) in
            ends.other el
            (omega (arith, last, q, chain_le t o v (e - 1) (omega arith) (omega (arith, ends.later)), chain_le t o i e (omega (arith, ends.later)) el));
        none = λ u ul q. by_order i u (λ a. ne (sym (ends.same u a ul) ∙ q)) (λ b. h.none u b q);
      }

  -- the chain has no job
  pub sought_all : Ordered t → (target : ℕ) (w : ℕ → ℕ) {i : ℕ} → t.count ≤ i → Sought t c i → taken_block t c target w ≡ no_block
  sought_all o target w l h = taken_none t c target w o (λ u ul q. absurd (h.none u (omega (arith, h.inside)) q))
