-- No bound of a part is later than in the table: a part has the blocks of its own chains, and the table has others besides. Assumes that the table's
-- chains come in order.
--   pulled   a choice of jobs of the table, seen from the part
--   others   what a chain adds to the interference
use Prim.Native.Nat.{ℕ, zero, suc, ◌+◌, ◌≤◌, ◌<◌}
use mathlib.Core.Path.{◌≡◌, sym, ap, ◌∙◌}
use mathlib.Core.Bool.{Bool, cond}
use native.Mathlib.Omega.{arith}
use lib.Dec.{eqb}
use borrow.Author.Tests.{eq-eqb, ne_eqb, eqb-true, eqb-false}
use Rattle.laws.specs.Words.{sum_below, number_at}
use Rattle.laws.proofs.Tests.{by_test}
use Rattle.laws.proofs.Sums.{sum_ext}
use Rattle.laws.proofs.Greatest.{attained}
use Rattle.theory.specs.Table.{Table}
use Rattle.theory.specs.Bounds.{largest_block, interference, interference_at, ert, lowest, pair_bound, largest_pair, cja, overlap, after}
use Rattle.theory.specs.Claims.{Part, Compared}
use Rattle.theory.proofs.WellFormed.{Ordered}
use Rattle.theory.proofs.Rules.{counted, always, ert_mono, pairs_least, pair_below, at_cja, at_ert, at_start, at_round}
use Rattle.theory.proofs.Chains.{chains, chain_most}
use Rattle.theory.proofs.Interference.{interference-same}
use Rattle.theory.proofs.Overlaps.{overlap_carry}
use Rattle.theory.proofs.Monotone.{pairs_mono}
use Rattle.theory.proofs.Least.{itr_order}
use Rattle.theory.proofs.Rising.{up_le, up_same, sum_part}
use Rattle.theory.proofs.Parts.{place_le, chain_up, ert-same, same_pair, largest_same}

abbrev pub pulled : (ℕ → ℕ) → (ℕ → ℕ → ℕ → Bool) → ℕ → ℕ → ℕ → Bool
pulled place keep k j u = keep (place k) (place j) (place u)

unfoldable pub others : Table → ℕ → ℕ → (ℕ → ℕ) → ℕ → ℕ
others t own target w c = cond (eqb c own) 0 (largest_block t c target w t.count)

module _ {part t : Table} {place number : ℕ → ℕ} (h : Part part t place number) (o : Ordered t) where
  -- ---- interference: the table's terms at the part's chains
  pub part_terms : (own target : ℕ) (w : ℕ → ℕ)
      → interference part own target (λ i. w (place i)) ≡ sum_below (suc (chains part)) (λ x. others t (number own) target w (number x))
  unfolding interference others
  part_terms own target w =
      sum_ext
      (suc (chains part))
      (λ x. cond (eqb x own) 0 (largest_block part x target (λ i. w (place i)) part.count))
      (λ x. others t (number own) target w (number x))
      (λ x xl.
      by_test (eqb x own)
      (λ e. rw (e, eq-eqb (number x) (number own) (ap number (eqb-true x own e))))
      (λ e.
      rw (e, ne_eqb (number x) (number own) (λ z. eqb-false x own e (up_same number h.upwards x own z)))
      (largest_same h o x target w)))

  pub chains_below : 0 < part.count → (x : ℕ) → x < suc (chains part) → number x < suc (chains t)
  chains_below some x l =
      let a = attained part.count part.chain some in
      omega (
        arith,
        up_le number h.upwards x (chains part) (omega arith),
        ap number a.greatest_is,
        h.chain a.at a.below,
        chain_most t (place a.at) (h.inside a.at a.below),
      )

  interference_part : (own target : ℕ) (w : ℕ → ℕ) → 0 < part.count
      → interference part own target (λ i. w (place i)) ≤ interference t (number own) target w
  unfolding interference others
  interference_part own target w some =
      omega (
        arith,
        part_terms own target w,
        sum_part number h.upwards (others t (number own) target w) (suc (chains t)) (suc (chains part)) (chains_below some),
      )

  -- ---- pairs
  counted_part : (keep : ℕ → ℕ → ℕ → Bool) (k j own target : ℕ)
      → interference part own target (counted part (pulled place keep) k j) ≡ interference part own target (λ i. counted t keep (place k) (place j) (place i))
  counted_part keep k j own target =
      interference-same
      part
      own
      target
      (counted part (pulled place keep) k j)
      (λ i. counted t keep (place k) (place j) (place i))
      (λ u ul ne. rw (h.most u ul))

  -- the sums of a pair differ as the interference does
  pub pair_sums : (keep : ℕ → ℕ → ℕ → Bool) (k j : ℕ) → k ≤ j → j < part.count → part.chain k ≡ part.chain j
      → pair_bound part (pulled place keep) k j + interference t (number (part.chain j)) (lowest part k j) (counted t keep (place k) (place j))
      ≡ pair_bound t keep (place k) (place j) + interference part (part.chain j) (lowest part k j) (λ i. counted t keep (place k) (place j) (place i))
  unfolding pair_bound
  pair_sums keep k j kj jl e =
      let same = same_pair h o k j kj jl e in
      rw (h.chain j jl, ← same.lows, ← same.demands)
      (omega (arith, h.latest k (omega arith), counted_part keep k j (part.chain j) (lowest part k j)))

  pair_part : (keep : ℕ → ℕ → ℕ → Bool) (k j : ℕ) → k ≤ j → j < part.count → part.chain k ≡ part.chain j
      → pair_bound part (pulled place keep) k j ≤ pair_bound t keep (place k) (place j)
  pair_part keep k j kj jl e =
      omega (arith, pair_sums keep k j kj jl e, interference_part (part.chain j) (lowest part k j) (counted t keep (place k) (place j)) (omega arith))

  pairs_part : (keep : ℕ → ℕ → ℕ → Bool) (j : ℕ) → j < part.count
      → largest_pair part (pulled place keep) j (suc j) ≤ largest_pair t keep (place j) (suc (place j))
  pairs_part keep j jl =
      pairs_least part (pulled place keep) j (largest_pair t keep (place j) (suc (place j))) (suc j) (λ k kl e.
      omega (
        arith,
        pair_part keep k j (omega arith) jl e,
        pair_below t keep (place k) (place j) (suc (place j)) (omega (arith, place_le h o k j (omega arith) jl)) (chain_up h o k j (omega arith) jl e),
      ))

  -- ---- the three bounds
  pub at_table : (i : ℕ) → i < part.count → interference_at t (place i) ≡ interference t (number (part.chain i)) (part.urgency i) t.most
  unfolding interference_at
  at_table i l = rw (h.chain i l, h.urgency i l)

  pub at_part : (i : ℕ) → i < part.count → interference_at part i ≡ interference part (part.chain i) (part.urgency i) (λ u. t.most (place u))
  unfolding interference_at
  at_part i l = interference-same part (part.chain i) (part.urgency i) part.most (λ u. t.most (place u)) (λ u ul ne. sym (h.most u ul))

  interference_at_lem : (i : ℕ) → i < part.count → interference_at part i ≤ interference_at t (place i)
  interference_at_lem i l = omega (arith, at_part i l, at_table i l, interference_part (part.chain i) (part.urgency i) t.most (omega arith))

  pub ert_part : (i : ℕ) → i < part.count → number_at (ert part) i ≤ number_at (ert t) (place i)
  ert_part i l =
      omega (
        arith,
        at_ert part i l,
        at_ert t (place i) (h.inside i l),
        ert_mono part (interference_at part) (λ k. interference_at t (place k)) interference_at_lem i l,
        ert-same h o (interference_at t) i l,
      )

  pub cja_part : (i : ℕ) → i < part.count → number_at (cja part) i ≤ number_at (cja t) (place i)
  unfolding cja
  cja_part i l = rw (at_cja part always i l, at_cja t always (place i) (h.inside i l)) (pairs_part always i l)

  pub start-same : (i : ℕ) → i < part.count → number_at (after part 0) i ≡ number_at (after t 0) (place i)
  start-same i l = at_start part i l ∙ ert-same h o (λ k. 0) i l ∙ sym (at_start t (place i) (h.inside i l))

  pub after_part : (n i : ℕ) → i < part.count → number_at (after part n) i ≤ number_at (after t n) (place i)
  after_part zero i l = omega (arith, start-same i l)
  after_part (suc n) i l =
      omega (
        arith,
        at_round part n i l,
        at_round t n (place i) (h.inside i l),
        pairs_part (overlap t (after t n)) i l,
        pairs_mono part (overlap part (after part n)) (pulled place (overlap t (after t n))) i (λ k u kl c ul ne.
            overlap_carry part t (after part n) (after t n) k i u (place k) (place i) (place u)
            (sym (h.earliest k (omega arith))) (sym (h.earliest u ul)) (after_part n u ul) (after_part n i l)),
      )

  pub part_no_later : Compared ◌≤◌ part t place
  part_no_later =
      record { by_ert = ert_part; by_cja = cja_part; by_itr = λ i l. itr_order part t i (place i) (h.inside i l) (λ n. after_part n i l) }
