-- The block that a figure of interference takes: it is a block, sums to the largest, and no earlier block does.
-- Assumes that the chains come in order.
use Prim.Native.Nat.{ℕ, zero, suc, ◌+◌, ◌-◌, ◌≤◌, ◌<◌}
use mathlib.Core.Path.{◌≡◌, refl, sym, ap, subst, ◌∙◌}
use mathlib.Core.Logic.{◌≢◌}
use mathlib.Core.Bool.{true, false, not, ◌&&◌}
use native.Mathlib.Omega.{arith}
use native.Mathlib.Nat.{add-zero, add-suc}
use lib.Dec.{leb, ltb, eqb}
use borrow.Author.Tests.{lt-ltb, le-ltb, le-leb, leb-true, eq-eqb, ne_eqb, eqb-true, not-true}
use Rattle.laws.specs.Words.{sum_below, first_below}
use Rattle.laws.proofs.Tests.{by_test, by_order, by_equal, by_last, both_ways, and_left, and_right, and_both, never_true}
use Rattle.laws.proofs.First.{first_holds, first_least, first_none}
use Rattle.theory.specs.Table.{Table}
use Rattle.theory.specs.Bounds.{open_block, largest_block}
use Rattle.theory.specs.Delays.{Block, no_block, IsBlock, block_sum, urgent_in, ends_block, start_of, ends_largest, block_to, taken_block, Taken, NoneUrgent, blocks_on}
use Rattle.theory.proofs.WellFormed.{Ordered, chain_between}
use Rattle.theory.proofs.Blocks.{block_on, block-ends, block_none, open_largest}
use Rattle.theory.proofs.LargestBlock.{run_sum, open_above, largest_grows, block_attained}

-- no block sums to nothing
pub no_block_sum : (w : ℕ → ℕ) → block_sum w no_block ≡ 0
unfolding block_sum sum_below
no_block_sum w = refl

-- a block taken lies within the table, also where there is none
pub taken_within : (t : Table) (c target : ℕ) (w : ℕ → ℕ) → (taken_block t c target w).end ≤ t.count
unfolding taken_block block_to
taken_within t c target w =
    let u : ℕ = first_below t.count (ends_largest t c target w) in
    by_order t.count u (λ l. rw (le-ltb u t.count l) (omega arith)) (λ l. rw (lt-ltb u t.count l) l)

pub blocks_within : (t : Table) (own target : ℕ) (w : ℕ → ℕ) (c : ℕ) → (blocks_on t own target w c).end ≤ t.count
unfolding blocks_on
blocks_within t own target w c = by_test (eqb c own) (λ e. rw e (omega arith)) (λ e. rw e (taken_within t c target w))

-- the block of another chain, and none of the target's own
pub block_own : (t : Table) (own target : ℕ) (w : ℕ → ℕ) (c : ℕ) → c ≡ own → blocks_on t own target w c ≡ no_block
unfolding blocks_on
block_own t own target w c e = rw (eq-eqb c own e)

pub block_other : (t : Table) (own target : ℕ) (w : ℕ → ℕ) (c : ℕ) → c ≢ own → blocks_on t own target w c ≡ taken_block t c target w
unfolding blocks_on
block_other t own target w c ne = rw (ne_eqb c own ne)

module _ (t : Table) (c target : ℕ) where
  -- ---- a job that belongs to a block
  pub urgent_in_lem : (u : ℕ) → t.chain u ≡ c → target ≤ t.urgency u → urgent_in t c target u ≡ true
  unfolding urgent_in
  urgent_in_lem u e l = and_both (eqb (t.chain u) c) (leb target (t.urgency u)) (eq-eqb (t.chain u) c e) (le-leb target (t.urgency u) l)

  pub in_chain : (u : ℕ) → urgent_in t c target u ≡ true → t.chain u ≡ c
  unfolding urgent_in
  in_chain u e = eqb-true (t.chain u) c (and_left (eqb (t.chain u) c) (leb target (t.urgency u)) e)

  pub in_urgent : (u : ℕ) → urgent_in t c target u ≡ true → target ≤ t.urgency u
  unfolding urgent_in
  in_urgent u e = leb-true target (t.urgency u) (and_right (eqb (t.chain u) c) (leb target (t.urgency u)) e)

  pub not_urgent : (u : ℕ) → urgent_in t c target u ≡ false → t.chain u ≡ c → t.urgency u < target
  not_urgent u e q = by_order target (t.urgency u) (λ l. absurd (both_ways (urgent_in_lem u q l) e)) (λ l. l)

  pub not_in : (u : ℕ) → (t.chain u ≡ c → t.urgency u < target) → urgent_in t c target u ≡ false
  not_in u h = never_true (urgent_in t c target u) (λ e. omega (arith, h (in_chain u e), in_urgent u e))

  -- ---- a job that ends one
  pub ends_in : (u : ℕ) → ends_block t c target u ≡ true → urgent_in t c target u ≡ true
  unfolding ends_block
  ends_in u e = and_left (urgent_in t c target u) _ e

  pub ends-behind : (u : ℕ) → ends_block t c target u ≡ true → suc u < t.count → urgent_in t c target (suc u) ≡ false
  unfolding ends_block
  ends-behind u e l =
      let no : ltb (suc u) t.count && urgent_in t c target (suc u) ≡ false
      = not-true _ (and_right (urgent_in t c target u) (not (ltb (suc u) t.count && urgent_in t c target (suc u))) e) in
      never_true (urgent_in t c target (suc u)) (λ q. both_ways (and_both (ltb (suc u) t.count) (urgent_in t c target (suc u)) (lt-ltb (suc u) t.count l) q) no)

  pub ends_at : (u : ℕ) → urgent_in t c target u ≡ true → (suc u < t.count → urgent_in t c target (suc u) ≡ false) → ends_block t c target u ≡ true
  unfolding ends_block
  ends_at u e h =
      by_order t.count (suc u)
      (λ l. rw (e, le-ltb (suc u) t.count l))
      (λ l. rw (e, lt-ltb (suc u) t.count l, h l))

  pub ends_not : (u : ℕ) → suc u < t.count → urgent_in t c target (suc u) ≡ true → ends_block t c target u ≡ false
  ends_not u l e = never_true (ends_block t c target u) (λ q. both_ways e (ends-behind u q l))

  pub ends_out : (u : ℕ) → urgent_in t c target u ≡ false → ends_block t c target u ≡ false
  ends_out u e = never_true (ends_block t c target u) (λ q. both_ways (ends_in u q) e)

  -- ---- where a block starts
  pub start_on : (u : ℕ) → urgent_in t c target u ≡ true → start_of t c target (suc u) ≡ start_of t c target u
  unfolding start_of
  start_on u e = rw e

  pub start-new : (u : ℕ) → urgent_in t c target u ≡ false → start_of t c target (suc u) ≡ suc u
  unfolding start_of
  start-new u e = rw e

  pub start-within : (n : ℕ) → start_of t c target n ≤ n
  start-within zero = unfold start_of in omega arith
  start-within (suc u) =
      by_test (urgent_in t c target u)
      (λ e. omega (arith, start_on u e, start-within u))
      (λ e. omega (arith, start-new u e))

  pub start-run : (n u : ℕ) → start_of t c target n ≤ u → u < n → urgent_in t c target u ≡ true
  start-run zero u a b = absurd (omega arith)
  start-run (suc n) u a b =
      by_test (urgent_in t c target n)
      (λ e. by_last u n b (λ q. rw q e) (λ l. start-run n u (omega (arith, start_on n e)) l))
      (λ e. absurd (omega (arith, start-new n e)))

  pub start-before : (n u : ℕ) → suc u ≡ start_of t c target n → urgent_in t c target u ≡ false
  start-before zero u e = absurd (omega (arith, none))
    where
      none : start_of t c target 0 ≡ 0
      none = unfold start_of in refl
  start-before (suc n) u e =
      by_test (urgent_in t c target n)
      (λ q. start-before n u (e ∙ start_on n q))
      (λ q. let same : u ≡ n = omega (arith, start-new n q) in rw same q)

  -- ---- its sum
  module _ (w : ℕ → ℕ) where
    pub sum_run : (s d : ℕ) → open_block t c target w s ≡ 0 → ((u : ℕ) → s ≤ u → u < s + d → urgent_in t c target u ≡ true)
        → open_block t c target w (s + d) ≡ sum_below d (λ i. w (s + i))
    unfolding sum_below
    sum_run s zero z h = rw (add-zero s) z
    sum_run s (suc d) z h =
        let here : urgent_in t c target (s + d) ≡ true = h (s + d) (omega arith) (omega (arith, add-suc s d)) in
        rw (add-suc s d)
        (omega (arith, block_on t c target w (s + d) (in_chain (s + d) here) (in_urgent (s + d) here), sum_run s d z (λ u a b. h u a (omega (arith, add-suc s d)))))

    module _ (o : Ordered t) where
      -- nothing is open where a block starts
      pub open_start : (s : ℕ) → s < t.count → t.chain s ≡ c → ((u : ℕ) → suc u ≡ s → t.chain u ≡ c → t.urgency u < target)
          → open_block t c target w s ≡ 0
      open_start zero l e h = unfold open_block in refl
      open_start (suc u) l e h =
          by_equal (t.chain u) c
          (λ q. block-ends t c target w u q (h u refl q))
          (λ ne.
          omega (
            arith,
            open_largest t c target w (suc u),
            block_none t c target w (suc u) (λ v vl q. absurd (ne (chain_between t o v u (suc u) (omega arith) (omega arith) l (q ∙ sym e) ∙ e))),
          ))

      pub block_open : (b : Block) → IsBlock t c target b → open_block t c target w b.end ≡ block_sum w b
      unfolding block_sum
      block_open b h =
          let start : b.first < t.count = omega (arith, h.some, h.inside) in
          let whole : b.first + (b.end - b.first) ≡ b.end = omega (arith, h.some) in
          subst (λ (n : ℕ). open_block t c target w n ≡ sum_below (b.end - b.first) (λ i. w (b.first + i))) whole
          (sum_run b.first (b.end - b.first) (open_start b.first start (h.chain b.first (omega arith) h.some) h.before)
          (λ u a l. urgent_in_lem u (h.chain u a (omega arith)) (h.urgent u a (omega arith))))

      pub block_most : (b : Block) → IsBlock t c target b → block_sum w b ≤ largest_block t c target w t.count
      block_most b h = omega (arith, block_open b h, open_largest t c target w b.end, largest_grows t c target w b.end t.count h.inside)

      -- ---- a block that sums to the largest
      -- the block that a job belongs to ends
      record EndsLater (u : ℕ) : Type 0 where
        place : ℕ
        later : u ≤ place
        within : place < t.count
        ends : ends_block t c target place ≡ true
        sum : open_block t c target w (suc u) ≤ open_block t c target w (suc place)

      ends_later : (d u : ℕ) → suc u + d ≡ t.count → urgent_in t c target u ≡ true → EndsLater u
      ends_later zero u e q = record { place = u; later = omega arith; within = omega arith; ends = ends_at u q (λ l. absurd (omega arith)); sum = omega arith }
      ends_later (suc d) u e q =
          by_test (urgent_in t c target (suc u))
          (λ more.
          let r = ends_later d (suc u) (omega (arith, add-suc (suc u) d)) more in
          record { place = r.place; later = omega (arith, r.later); within = r.within; ends = r.ends; sum = omega (arith, r.sum, block_on t c target w (suc u) (in_chain (suc u) more) (in_urgent (suc u) more)) })
          (λ no. record { place = u; later = omega arith; within = omega (arith, add-suc (suc u) d); ends = ends_at u q (λ l. no); sum = omega arith })

      pub ends_largest_lem : (u : ℕ) → u < t.count → ends_block t c target u ≡ true → largest_block t c target w t.count ≤ open_block t c target w (suc u) → ends_largest t c target w u ≡ true
      unfolding ends_largest
      ends_largest_lem u l e h =
          and_both (ends_block t c target u) _ e
          (eq-eqb (open_block t c target w (suc u)) (largest_block t c target w t.count)
          (omega (arith, open_largest t c target w (suc u), largest_grows t c target w (suc u) t.count l)))

      -- an urgent job whose open block is the largest
      record Reaches : Type 0 where
        place : ℕ
        within : place < t.count
        urgent : urgent_in t c target place ≡ true
        reached : largest_block t c target w t.count ≤ open_block t c target w (suc place)

      reaches : (u : ℕ) → u < t.count → urgent_in t c target u ≡ true → Reaches
      reaches u l e =
          let a = block_attained t c target w o t.count (omega arith) in
          by_order 1 a.size
          (λ some.
          let last : suc (a.from + (a.size - 1)) ≡ a.from + a.size = omega arith in
          record {
            place = a.from + (a.size - 1);
            within = omega (arith, a.inside);
            urgent = urgent_in_lem (a.from + (a.size - 1)) (a.run.chain (a.size - 1) (omega arith)) (a.run.urgent (a.size - 1) (omega arith));
            reached = rw last (omega (arith, a.sums, open_above t c target w a.from a.size a.run));
          })
          (λ none.
          record {
            place = u;
            within = l;
            urgent = e;
            reached = omega (arith, a.sums, ap (run_sum w a.from) (zero_of none), no_run_sum a.from);
          })
        where
          zero_of : {k : ℕ} → k < 1 → k ≡ 0
          zero_of l = omega arith

          no_run_sum : (n : ℕ) → run_sum w n 0 ≡ 0
          no_run_sum n = unfold run_sum sum_below in refl

      found : (u : ℕ) → u < t.count → urgent_in t c target u ≡ true → first_below t.count (ends_largest t c target w) < t.count
      found u l e =
          let r = reaches u l e in
          let d : ℕ = t.count - suc r.place in
          let v = ends_later d r.place (omega (arith, r.within)) r.urgent in
          omega (arith, v.within, first_least (ends_largest t c target w) t.count v.place (ends_largest_lem v.place v.within v.ends (omega (arith, v.sum, r.reached))))

      -- ---- the block taken
      pub largest_ends : (u : ℕ) → ends_largest t c target w u ≡ true → ends_block t c target u ≡ true
      unfolding ends_largest
      largest_ends u e = and_left (ends_block t c target u) _ e

      pub largest_open : (u : ℕ) → ends_largest t c target w u ≡ true → open_block t c target w (suc u) ≡ largest_block t c target w t.count
      unfolding ends_largest
      largest_open u e = eqb-true _ _ (and_right (ends_block t c target u) _ e)

      -- a block's last job ends it
      block_ends_it : (b : Block) → IsBlock t c target b → ends_block t c target (b.end - 1) ≡ true
      block_ends_it b h =
          let last : suc (b.end - 1) ≡ b.end = omega (arith, h.some) in
          let l : b.first ≤ b.end - 1 = omega (arith, h.some) in
          ends_at (b.end - 1) (urgent_in_lem (b.end - 1) (h.chain (b.end - 1) l (omega arith)) (h.urgent (b.end - 1) l (omega arith)))
          (λ more. rw last (not_in b.end (λ q. h.behind (omega arith) q)))

      -- of two blocks the one that starts earlier ends before the other starts
      blocks_apart : (a b : Block) → IsBlock t c target a → IsBlock t c target b → a.first < b.first → a.end ≤ b.first
      blocks_apart a b ha hb l =
          by_order a.end b.first
          (λ q. q)
          (λ q.
          let p : ℕ = b.first - 1 in
          let cp : t.chain p ≡ c = ha.chain p (omega arith) (omega arith) in
          absurd (omega (arith, ha.urgent p (omega arith) (omega arith), hb.before p (omega arith) cp)))

      pub one_block : (a b : Block) → IsBlock t c target a → IsBlock t c target b → a.first ≡ b.first → a.end ≤ b.end
      one_block a b ha hb e =
          by_order a.end b.end
          (λ q. q)
          (λ q.
          let ce : t.chain b.end ≡ c = ha.chain b.end (omega (arith, hb.some)) q in
          absurd (omega (arith, ha.urgent b.end (omega (arith, hb.some)) q, hb.behind (omega (arith, ha.inside)) ce)))

      block_to_lem : (u : ℕ) → u < t.count → block_to t c target u ≡ record { first = start_of t c target (suc u); end = suc u }
      unfolding block_to
      block_to_lem u l = rw (lt-ltb u t.count l)

      pub block_to_is : (u : ℕ) → u < t.count → ends_block t c target u ≡ true → IsBlock t c target (block_to t c target u)
      block_to_is u l e =
          let start : ℕ = start_of t c target (suc u) in
          rw (block_to_lem u l)
          (record {
            some = omega (arith, start_on u (ends_in u e), start-within u);
            inside = l;
            chain = λ v a b. in_chain v (start-run (suc u) v a b);
            urgent = λ v a b. in_urgent v (start-run (suc u) v a b);
            before = λ v q cv. not_urgent v (start-before (suc u) v q) cv;
            behind = λ more cv. not_urgent (suc u) (ends-behind u e more) cv;
          })

      abbrev place : ℕ
      place = first_below t.count (ends_largest t c target w)

      taken_found : place < t.count → Taken t c target w (taken_block t c target w)
      unfolding taken_block
      taken_found l =
          let at : ends_largest t c target w place ≡ true = first_holds (ends_largest t c target w) t.count l in
          let is : IsBlock t c target (block_to t c target place) = block_to_is place l (largest_ends place at) in
          let end_is : (block_to t c target place).end ≡ suc place = ap (λ (b : Block). b.end) (block_to_lem place l) in
          let sum : block_sum w (block_to t c target place) ≡ largest_block t c target w t.count
          = sym (block_open (block_to t c target place) is) ∙ ap (open_block t c target w) end_is ∙ largest_open place at in
          record {
            is_block = is;
            largest = sum;
            most = λ other h. omega (arith, sum, block_most other h);
            earliest = λ other h before.
                by_order (block_sum w (block_to t c target place)) (block_sum w other)
                (λ as-large.
                let apart : other.end ≤ (block_to t c target place).first = blocks_apart other (block_to t c target place) h is before in
                let last : suc (other.end - 1) ≡ other.end = omega (arith, h.some) in
                let other_ends : ends_largest t c target w (other.end - 1) ≡ true
                = ends_largest_lem (other.end - 1) (omega (arith, h.inside, h.some)) (block_ends_it other h)
                (rw last (omega (arith, sum, block_open other h))) in
                absurd (omega (arith, first_least (ends_largest t c target w) t.count (other.end - 1) other_ends, is.some, end_is, h.some)))
                (λ less. less);
          }

      -- a chain with an urgent job has a block, and it is taken
      pub taken : (u : ℕ) → u < t.count → t.chain u ≡ c → target ≤ t.urgency u → Taken t c target w (taken_block t c target w)
      taken u l e q = taken_found (found u l (urgent_in_lem u e q))

      -- a chain with none has no block
      pub taken_none : NoneUrgent t c target → taken_block t c target w ≡ no_block
      unfolding taken_block block_to
      taken_none h =
          let none : place ≡ t.count
          = first_none (ends_largest t c target w) t.count (λ u l.
          never_true (ends_largest t c target w u) (λ e. both_ways (ends_in u (largest_ends u e)) (not_in u (h u l)))) in
          rw (none, le-ltb t.count t.count (omega arith))

      pub none_taken : taken_block t c target w ≡ no_block → NoneUrgent t c target
      none_taken e u l q =
          by_order target (t.urgency u)
          (λ a. absurd (omega (arith, (taken u l q a).is_block.some, ap (λ (b : Block). b.end) e)))
          (λ b. b)

      -- ---- its sum is the figure that the bounds add
      pub taken_sum : block_sum w (taken_block t c target w) ≡ largest_block t c target w t.count
      taken_sum =
          by_order t.count place
          (λ all.
          let h : NoneUrgent t c target
          = (λ u l q. by_order target (t.urgency u) (λ a. absurd (omega (arith, found u l (urgent_in_lem u q a)))) (λ b. b)) in
          ap (block_sum w) (taken_none h) ∙ no_block_sum w ∙ sym (block_none t c target w t.count h))
          (λ some. (taken_found some).largest)

      -- where there is a block, one is taken
      pub some_taken : taken_block t c target w ≢ no_block → Taken t c target w (taken_block t c target w)
      some_taken some =
          by_order t.count place
          (λ all. absurd (some (unfold taken_block block_to in rw (le-ltb place t.count all))))
          taken_found

      -- no other block is it
      taken_unique : (a b : Block) → Taken t c target w a → Taken t c target w b → a ≡ b
      taken_unique a b ha hb =
          let same : a.first ≡ b.first
          = by_order a.first b.first
          (λ l. by_equal a.first b.first (λ e. e) (λ ne. absurd (omega (arith, hb.earliest a ha.is_block (omega arith), ha.most b hb.is_block))))
          (λ l. absurd (omega (arith, ha.earliest b hb.is_block l, hb.most a ha.is_block))) in
          let ends : a.end ≡ b.end = omega (arith, one_block a b ha.is_block hb.is_block same, one_block b a hb.is_block ha.is_block (sym same)) in
          λ i. record { first = same i; end = ends i }

      pub taken_only : (other : Block) → Taken t c target w other → other ≡ taken_block t c target w
      taken_only other h =
          let is = h.is_block in
          let u : ℕ = other.first in
          taken_unique other (taken_block t c target w) h (taken u (omega (arith, is.some, is.inside)) (is.chain u (omega arith) is.some) (is.urgent u (omega arith) is.some))
