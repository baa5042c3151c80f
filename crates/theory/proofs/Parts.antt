-- A table and a part of it: which jobs follow one another, the rules of ERT and of pairs, and the blocks are the same in both. Assumes that the
-- table's chains come in order.
--   Found   whether a place of the table is that of one of the part's first n jobs
use Prim.Native.Nat.{ℕ, zero, suc, ◌≤◌, ◌<◌}
use mathlib.Core.Path.{◌≡◌, refl, sym, ap, ◌∙◌}
use mathlib.Core.Logic.{◌≢◌}
use native.Mathlib.Omega.{arith}
use Rattle.laws.specs.Words.{greatest}
use Rattle.laws.proofs.Tests.{by_order, by_equal, by_last}
use Rattle.theory.specs.Table.{Table}
use Rattle.theory.specs.Bounds.{open_block, largest_block, ert_rule, demand, lowest}
use Rattle.theory.specs.Claims.{Left, Part}
use Rattle.theory.proofs.WellFormed.{Ordered, chain_le, chain_between}
use Rattle.theory.proofs.Rules.{First, first_zero, first_after, ert_first, ert-next, demand_one, demand_more, lowest_one, lowest_more}
use Rattle.theory.proofs.Blocks.{by_place, block_out, block_on, block-ends, largest_step, largest_out}
use Rattle.theory.proofs.Rising.{rise_lt, rise_le, rise_back, up_back, up_same}

pub data Found (place : ℕ → ℕ) (n u : ℕ) : Type 0 where
  here : (i : ℕ) → i < n → place i ≡ u → Found place n u
  nowhere : ((i : ℕ) → i < n → place i ≢ u) → Found place n u

found_more : (place : ℕ → ℕ) (n u : ℕ) → Found place n u → Found place (suc n) u
found_more place n u (here i l e) = here i (omega arith) e
found_more place n u (nowhere g) =
    by_equal (place n) u
    (λ e. here n (omega arith) e)
    (λ ne. nowhere (λ i l. by_last i n l (λ z. rw z ne) (λ il. g i il)))

found : (place : ℕ → ℕ) (n u : ℕ) → Found place n u
found place zero u = nowhere (λ i l. absurd (omega arith))
found place (suc n) u = found_more place n u (found place n u)

by_found : {X : Type 0} (place : ℕ → ℕ) (n u : ℕ) → Found place n u → ((i : ℕ) → i < n → place i ≡ u → X) → (((i : ℕ) → i < n → place i ≢ u) → X) → X
by_found place n u (here i l e) a b = a i l e
by_found place n u (nowhere g) a b = b g

-- a place of the table is one of the part's, or left
pub by_part : {X : Type 0} (part : Table) (place : ℕ → ℕ) (u : ℕ) → ((i : ℕ) → i < part.count → place i ≡ u → X) → (Left part place u → X) → X
by_part part place u a b = by_found place part.count u (found place part.count u) a b

module _ {part t : Table} {place number : ℕ → ℕ} (h : Part part t place number) (o : Ordered t) where
  pub place_lt : (i j : ℕ) → i < j → j < part.count → place i < place j
  place_lt = rise_lt place part.count h.rises

  pub place_le : (i j : ℕ) → i ≤ j → j < part.count → place i ≤ place j
  place_le = rise_le place part.count h.rises

  place_back : (i j : ℕ) → i < part.count → place i < place j → i < j
  place_back = rise_back place part.count h.rises

  pub chain_up : (i j : ℕ) → i < part.count → j < part.count → part.chain i ≡ part.chain j → t.chain (place i) ≡ t.chain (place j)
  chain_up i j il jl e = h.chain i il ∙ ap number e ∙ sym (h.chain j jl)

  pub chain_down : (i j : ℕ) → i < part.count → j < part.count → t.chain (place i) ≡ t.chain (place j) → part.chain i ≡ part.chain j
  chain_down i j il jl e = up_same number h.upwards (part.chain i) (part.chain j) (sym (h.chain i il) ∙ e ∙ h.chain j jl)

  pub part_ordered : Ordered part
  part_ordered i l =
      up_back
      number
      h.upwards
      (part.chain i)
      (part.chain (suc i))
      (omega (arith, h.chain i (omega arith), h.chain (suc i) l, chain_le t o (place i) (place (suc i)) (omega (arith, h.rises i l)) (h.inside (suc i) l)))

  -- ---- jobs that follow one another in a chain do so in both
  pub place-next : (i : ℕ) → suc i < part.count → part.chain i ≡ part.chain (suc i) → place (suc i) ≡ suc (place i)
  place-next i l e =
      by_equal (place (suc i)) (suc (place i))
      (λ q. q)
      (λ ne.
      let gap : suc (place i) < place (suc i) = omega (arith, h.rises i l) in
      let top : place (suc i) < t.count = h.inside (suc i) l in
      let same : t.chain (suc (place i)) ≡ t.chain (place (suc i))
      = chain_between t o (place i) (suc (place i)) (place (suc i)) (omega arith) (omega arith) top (chain_up i (suc i) (omega arith) l e) in
      let between : t.chain (suc (place i)) ≡ number (part.chain i) = same ∙ h.chain (suc i) l ∙ ap number (sym e) in
      absurd
      (h.whole (suc (place i)) (part.chain i) (omega arith) between (λ k kl z.
      omega (arith, place_back i k (omega arith) (omega arith), place_back k (suc i) kl (omega arith)))))

  pub first_place : (i : ℕ) → i < part.count → First part i → First t (place i)
  first_place i il first w e c =
      h.whole w (part.chain i) (omega (arith, h.inside i il)) (c ∙ h.chain i il) (λ k kl z.
      let ki : k < i = place_back k i kl (omega arith) in
      by_equal (suc k) i
      (λ q. first k (sym q) (chain_down k i kl il (ap t.chain z ∙ c)))
      (λ ne. omega (arith, h.rises k (omega arith), place_lt (suc k) i (omega arith) il)))

  -- a fact of each job, from the first of its chain on
  pub walk : (P : ℕ → Type 0)
      → ((i : ℕ) → i < part.count → First part i → First t (place i) → P i)
      → ((i : ℕ) → suc i < part.count → part.chain i ≡ part.chain (suc i) → place (suc i) ≡ suc (place i)
      → t.chain (place i) ≡ t.chain (suc (place i)) → P i → P (suc i))
      → (i : ℕ) → i < part.count → P i
  walk P first next zero l = first 0 l (first_zero part) (first_place 0 l (first_zero part))
  walk P first next (suc i) l =
      by_equal (part.chain i) (part.chain (suc i))
      (λ e.
      let n : place (suc i) ≡ suc (place i) = place-next i l e in
      next i l e n (chain_up i (suc i) (omega arith) l e ∙ ap t.chain n) (walk P first next i (omega arith)))
      (λ ne. first (suc i) l (first_after part i ne) (first_place (suc i) l (first_after part i ne)))

  -- ---- the ERT rule, and the jobs of a pair
  pub ert-same : (inter : ℕ → ℕ) (i : ℕ) → i < part.count → ert_rule part (λ k. inter (place k)) i ≡ ert_rule t inter (place i)
  ert-same inter =
      walk
      (λ i. ert_rule part (λ k. inter (place k)) i ≡ ert_rule t inter (place i))
      (λ i il a b. omega (arith, ert_first part (λ k. inter (place k)) i a, ert_first t inter (place i) b, h.latest i il, h.most i il))
      (λ i il e n c before.
      let l : t.latest (suc (place i)) ≡ part.latest (suc i) = ap t.latest (sym n) ∙ h.latest (suc i) il in
      let m : t.most (suc (place i)) ≡ part.most (suc i) = ap t.most (sym n) ∙ h.most (suc i) il in
      omega (arith, ert-next part (λ k. inter (place k)) i e, ert-next t inter (place i) c, ap inter n, ap (ert_rule t inter) n))

  pub record SamePair (k j : ℕ) : Type 0 where
    pub demands : demand part k j ≡ demand t (place k) (place j)
    pub lows : lowest part k j ≡ lowest t (place k) (place j)

  same_one : (j : ℕ) → j < part.count → SamePair j j
  same_one j jl =
      record {
        demands = omega (arith, demand_one part j, demand_one t (place j), h.most j jl);
        lows = omega (arith, lowest_one part j, lowest_one t (place j), h.urgency j jl);
      }

  pub same_pair : (k j : ℕ) → k ≤ j → j < part.count → part.chain k ≡ part.chain j → SamePair k j
  same_pair k zero kj jl e =
      let z : k ≡ 0 = omega arith in
      rw z (same_one 0 jl)
  same_pair k (suc j) kj jl e =
      by_last k (suc j) (omega arith)
      (λ z. rw z (same_one (suc j) jl))
      (λ l.
      let same : part.chain j ≡ part.chain (suc j) = chain_between part part_ordered k j (suc j) (omega arith) (omega arith) jl e in
      let before = same_pair k j (omega arith) (omega arith) (e ∙ sym same) in
      let n : place (suc j) ≡ suc (place j) = place-next j jl same in
      let m : t.most (suc (place j)) ≡ part.most (suc j) = ap t.most (sym n) ∙ h.most (suc j) jl in
      let y : t.urgency (suc (place j)) ≡ part.urgency (suc j) = ap t.urgency (sym n) ∙ h.urgency (suc j) jl in
      let le : place k ≤ place j = place_le k j (omega arith) (omega arith) in
      record {
        demands = rw n (omega (arith, demand_more part k j (omega arith), demand_more t (place k) (place j) le, before.demands));
        lows = rw n (omega (arith, lowest_more part k j (omega arith), lowest_more t (place k) (place j) le, before.lows));
      })

  -- ---- blocks, up to a place of the part and the place before which it stands in the table
  module _ (x target : ℕ) (w : ℕ → ℕ) where
    abbrev in_part : ℕ → ℕ
    in_part i = w (place i)

    record SameBlocks (m n : ℕ) : Type 0 where
      opens : open_block part x target in_part m ≡ open_block t (number x) target w n
      largest : largest_block part x target in_part m ≡ largest_block t (number x) target w n

    same_left : (m u : ℕ) → u < t.count → Left part place u → SameBlocks m u → SameBlocks m (suc u)
    same_left m u ul left before =
        let other : t.chain u ≢ number x = (λ e. h.whole u x ul e left) in
        record {
          opens = omega (arith, block_out t (number x) target w u other, before.opens);
          largest = omega (arith, largest_out t (number x) target w u other, before.largest);
        }

    open_kept : (m u : ℕ) → m < part.count → place m ≡ u → SameBlocks m u
        → open_block part x target in_part (suc m) ≡ open_block t (number x) target w (suc u)
    open_kept m u ml e before =
        let chain : t.chain u ≡ number (part.chain m) = ap t.chain (sym e) ∙ h.chain m ml in
        let urgency : t.urgency u ≡ part.urgency m = ap t.urgency (sym e) ∙ h.urgency m ml in
        by_place part x target m
        (λ ne.
        omega (
          arith,
          block_out part x target in_part m ne,
          block_out t (number x) target w u (λ z. ne (up_same number h.upwards (part.chain m) x (sym chain ∙ z))),
          before.opens,
        ))
        (λ c l. omega (arith, block_on part x target in_part m c l, block_on t (number x) target w u (chain ∙ ap number c) (omega arith), before.opens, ap w e))
        (λ c l. omega (arith, block-ends part x target in_part m c l, block-ends t (number x) target w u (chain ∙ ap number c) (omega arith)))

    same_kept : (m u : ℕ) → m < part.count → place m ≡ u → SameBlocks m u → SameBlocks (suc m) (suc u)
    same_kept m u ml e before =
        let step : open_block part x target in_part (suc m) ≡ open_block t (number x) target w (suc u) = open_kept m u ml e before in
        record { opens = step; largest = omega (arith, largest_step part x target in_part m, largest_step t (number x) target w u, before.largest) }

    same_blocks : (m n : ℕ) → m ≤ part.count → n ≤ t.count → ((i : ℕ) → i < m → place i < n) → ((i : ℕ) → m ≤ i → i < part.count → n ≤ place i)
        → SameBlocks m n
    same_blocks zero zero ml nl lo hi = record { opens = unfold open_block in refl; largest = unfold largest_block greatest in refl }
    same_blocks (suc m) zero ml nl lo hi = absurd (omega (arith, lo m (omega arith)))
    same_blocks zero (suc u) ml nl lo hi =
        same_left 0 u nl
        (λ i il z. omega (arith, hi i (omega arith) il))
        (same_blocks 0 u ml (omega arith) (λ i l. absurd (omega arith)) (λ i l il. omega (arith, hi i l il)))
    same_blocks (suc m) (suc u) ml nl lo hi =
        by_equal (place m) u
        (λ e.
        same_kept m u ml e
        (same_blocks m u (omega arith) (omega arith) (λ i l. omega (arith, place_lt i m l ml)) (λ i l il. omega (arith, place_le m i l il))))
        (λ ne.
        let below : (i : ℕ) → i < suc m → place i < u = (λ i l. omega (arith, lo m (omega arith), place_le i m (omega arith) ml)) in
        same_left (suc m) u nl
        (λ i il z. by_order (suc m) i (λ g. omega (arith, hi i g il)) (λ g. omega (arith, below i g)))
        (same_blocks (suc m) u ml (omega arith) below (λ i l il. omega (arith, hi i l il))))

    pub largest_same : largest_block part x target in_part part.count ≡ largest_block t (number x) target w t.count
    largest_same = (same_blocks part.count t.count (omega arith) (omega arith) h.inside (λ i l il. absurd (omega arith))).largest
