-- Where every job that is not of the part is strictly less urgent than every job of it, the part's bounds are those of the table: such jobs are in no
-- block of theirs. Assumes that the table's chains come in order.
use Prim.Native.Nat.{ℕ, zero, suc, ◌≤◌, ◌<◌}
use mathlib.Core.Path.{◌≡◌, sym, ap, subst, ◌∙◌}
use mathlib.Core.Bool.{Bool}
use native.Mathlib.Omega.{arith}
use lib.Dec.{eqb}
use Rattle.laws.specs.Words.{number_at}
use Rattle.laws.proofs.Tests.{by_test, by_order}
use Rattle.theory.specs.Table.{Table}
use Rattle.theory.specs.Bounds.{interference, interference_at, ert, lowest, pair_bound, largest_pair, cja, overlap, after}
use Rattle.theory.specs.Claims.{Left, Part, LessUrgent, Compared}
use Rattle.theory.proofs.WellFormed.{Ordered}
use Rattle.theory.proofs.Rules.{counted, always, lowest_above, ert_mono, pairs_least, pair_below, at_cja, at_ert, at_round}
use Rattle.theory.proofs.Chains.{chains, chain_most}
use Rattle.theory.proofs.Blocks.{block_none}
use Rattle.theory.proofs.Overlaps.{overlap_carry}
use Rattle.theory.proofs.Monotone.{pairs_mono}
use Rattle.theory.proofs.Least.{itr_order}
use Rattle.theory.proofs.Rising.{sum_whole}
use Rattle.theory.proofs.Parts.{by_part, place_lt, chain_down, ert-same}
use Rattle.theory.proofs.PartBounds.{pulled, others, part_terms, chains_below, pair_sums, at_table, at_part, ert_part, cja_part, start-same, after_part}

module _ {part t : Table} {place number : ℕ → ℕ} (h : Part part t place number) (o : Ordered t) (less : LessUrgent part t place) where
  interference_whole : (own target : ℕ) (w : ℕ → ℕ) → 0 < part.count → ((u : ℕ) → u < t.count → Left part place u → t.urgency u < target)
      → interference t (number own) target w ≤ interference part own target (λ i. w (place i))
  unfolding interference others
  interference_whole own target w some low =
      omega (
        arith,
        part_terms h o own target w,
        sum_whole
            number
            h.upwards
            (others t (number own) target w)
            (suc (chains t))
            (suc (chains part))
            (chains_below h o some)
            (λ y yl none.
            by_test (eqb y (number own))
            (λ e. rw e)
            (λ e.
            rw e
            (block_none t y target w t.count (λ u ul c.
            low u ul (λ i il z. none (part.chain i) (chain_most part i il) (sym (h.chain i il) ∙ ap t.chain z ∙ c)))))),
      )

  pair_whole : (keep : ℕ → ℕ → ℕ → Bool) (k j : ℕ) → k ≤ j → j < part.count → part.chain k ≡ part.chain j
      → pair_bound t keep (place k) (place j) ≤ pair_bound part (pulled place keep) k j
  pair_whole keep k j kj jl e =
      omega (
        arith,
        pair_sums h o keep k j kj jl e,
        interference_whole (part.chain j) (lowest part k j) (counted t keep (place k) (place j)) (omega arith) (λ u ul left.
            lowest_above part k j (t.urgency u) kj (λ i il. less u i ul left (omega arith))),
      )

  pairs_whole : (keep : ℕ → ℕ → ℕ → Bool) (j : ℕ) → j < part.count
      → largest_pair t keep (place j) (suc (place j)) ≤ largest_pair part (pulled place keep) j (suc j)
  pairs_whole keep j jl =
      pairs_least t keep (place j) (largest_pair part (pulled place keep) j (suc j)) (suc (place j)) (λ v vl e.
      by_part part place v
      (λ k kl z.
      let c : part.chain k ≡ part.chain j = chain_down h o k j kl jl (ap t.chain z ∙ e) in
      let kj : k < suc j = by_order k j (λ l. omega arith) (λ l. absurd (omega (arith, place_lt h o j k l kl))) in
      subst
      (λ (y : ℕ). pair_bound t keep y (place j) ≤ largest_pair part (pulled place keep) j (suc j))
      z
      (omega (arith, pair_whole keep k j (omega arith) jl c, pair_below part (pulled place keep) k j (suc j) kj c)))
      (λ left. absurd (h.whole v (part.chain j) (omega (arith, h.inside j jl)) (e ∙ h.chain j jl) left)))

  interference_at_lem : (i : ℕ) → i < part.count → interference_at t (place i) ≤ interference_at part i
  interference_at_lem i l =
      omega (
        arith,
        at_part h o i l,
        at_table h o i l,
        interference_whole (part.chain i) (part.urgency i) t.most (omega arith) (λ u ul left. less u i ul left l),
      )

  ert_whole : (i : ℕ) → i < part.count → number_at (ert t) (place i) ≤ number_at (ert part) i
  ert_whole i l =
      omega (
        arith,
        at_ert part i l,
        at_ert t (place i) (h.inside i l),
        ert_mono part (λ k. interference_at t (place k)) (interference_at part) interference_at_lem i l,
        ert-same h o (interference_at t) i l,
      )

  cja_whole : (i : ℕ) → i < part.count → number_at (cja t) (place i) ≤ number_at (cja part) i
  unfolding cja
  cja_whole i l = rw (at_cja part always i l, at_cja t always (place i) (h.inside i l)) (pairs_whole always i l)

  after_whole : (n i : ℕ) → i < part.count → number_at (after t n) (place i) ≤ number_at (after part n) i
  after_whole zero i l = omega (arith, start-same h o i l)
  after_whole (suc n) i l =
      omega (
        arith,
        at_round part n i l,
        at_round t n (place i) (h.inside i l),
        pairs_whole (overlap t (after t n)) i l,
        pairs_mono part (pulled place (overlap t (after t n))) (overlap part (after part n)) i (λ k u kl c ul ne.
            overlap_carry t part (after t n) (after part n) (place k) (place i) (place u) k i u
            (h.earliest k (omega arith)) (h.earliest u ul) (after_whole n u ul) (after_whole n i l)),
      )

  pub after_same : (n i : ℕ) → i < part.count → number_at (after part n) i ≡ number_at (after t n) (place i)
  after_same n i l = omega (arith, after_part h o n i l, after_whole n i l)

  pub part_unmoved : Compared ◌≡◌ part t place
  part_unmoved =
      record {
        by_ert = λ i l. omega (arith, ert_part h o i l, ert_whole i l);
        by_cja = λ i l. omega (arith, cja_part h o i l, cja_whole i l);
        by_itr = λ i l.
            omega (
              arith,
              itr_order part t i (place i) (h.inside i l) (λ n. after_part h o n i l),
              itr_order t part (place i) i l (λ n. after_whole n i l),
            );
      }
