-- What one chain adds to the interference on all pairs that end with job j: a sweep over the pairs, from the shortest on.
--   share_in     what the jobs from `first` to before `end` add in the pair that begins at p
--   Sweepable   what the sweep asks of the two chains
--   Small       figures of the pairs no larger than n jobs of other chains make them
--   Aside       no place from `own` to j
--   Raised      each pair's figure is raised by its share, and no other is changed
--   Sweeping    what the sweep holds with the pairs from k on behind it
-- Assumes nothing.
use Prim.Native.Nat.{ℕ, suc, ◌+◌, ◌*◌, ◌-◌, ◌≤◌, ◌<◌, min}
use mathlib.Core.Path.{◌≡◌, refl, sym, ap, ◌∙◌}
use mathlib.Core.List.{List}
use native.Mathlib.Omega.{arith}
use lib.ListN.{length, get_or, set, length-set}
use lib.Seq.{get_or-set_same, get_or-set_other}
use Rattle.laws.proofs.Tests.{by_equal}
use Rattle.jobs.specs.Limits.{max_jobs, max_time}
use Rattle.theory.specs.Bounds.{lowest}
use Rattle.theory.proofs.Columns.{figure, lent}
use Rattle.theory.proofs.Weights.{spanned, weight_le}
use Rattle.theory.proofs.Stretches.{largest_over, largest_small}
use Rattle.theory.proofs.Pairs.{lowest_from, lowest_in_lem, lowest_out, lowest-next}
use Rattle.theory.proofs.ChainWindow.{Climbs, Released, Late, SweptIn, WholeIn, Chained, urgencies_in, mosts_in, releases_in, bounds_in, chained_less, late_nothing, swept_none, swept_earlier, whole_is}

-- the lowest urgency of a pair
abbrev lowest_in : List (List ℕ) → ℕ → ℕ → ℕ
lowest_in columns k j = lowest (lent 0 columns) k j

abbrev lowest_from_in : List (List ℕ) → ℕ → ℕ → ℕ
lowest_from_in columns k j = lowest_from (lent 0 columns) k j

unfoldable pub share_in : List (List ℕ) → List ℕ → ℕ → ℕ → ℕ → ℕ → ℕ
share_in columns bound j first end p = largest_over (λ u. figure columns 1 u) (lowest (lent 0 columns) p j) (spanned columns bound (releases_in columns p) (bounds_in bound j)) first (end - first)

pub record Sweepable (columns : List (List ℕ)) (bound : List ℕ) (own j first end : ℕ) : Type 0 where
  pub chain : Chained columns bound first end
  pub begins : own ≤ j
  pub inside : j < max_jobs
  pub own_releases : Climbs (releases_in columns) own (suc j)

pub record Small (own j n : ℕ) (delay : List ℕ) : Type 0 where
  pub room : length delay ≡ max_jobs
  pub small : (p : ℕ) → own ≤ p → p ≤ j → get_or delay p 0 ≤ n * max_time

abbrev pub Aside : ℕ → ℕ → ℕ → Type 0
Aside own j p = own ≤ p → p ≤ j → ⊥

pub record Raised (own j : ℕ) (share : ℕ → ℕ) (before after : List ℕ) : Type 0 where
  pub room : length after ≡ max_jobs
  pub raised : (p : ℕ) → own ≤ p → p ≤ j → get_or after p 0 ≡ get_or before p 0 + share p
  pub kept : (p : ℕ) → Aside own j p → get_or after p 0 ≡ get_or before p 0

pub record Sweeping (columns : List (List ℕ)) (bound : List ℕ) (own j first hi : ℕ) (before : List ℕ) (k low lo edge largest : ℕ) (delay : List ℕ) : Type 0 where
  pub above : own ≤ k
  pub below : k ≤ suc j
  pub room : length delay ≡ max_jobs
  pub low_is : low ≡ lowest_from_in columns k j
  pub window : (p : ℕ) → own ≤ p → p < k → SweptIn columns bound low (releases_in columns p) first lo hi edge largest
  pub still : (p : ℕ) → p < k → get_or delay p 0 ≡ get_or before p 0
  pub raised : (p : ℕ) → k ≤ p → p ≤ j → get_or delay p 0 ≡ get_or before p 0 + share_in columns bound j first hi p
  pub kept : (p : ℕ) → Aside own j p → get_or delay p 0 ≡ get_or before p 0

pub sweepable_less : {columns : List (List ℕ)} {bound : List ℕ} {own j first end hi : ℕ} → Sweepable columns bound own j first end → first ≤ hi → hi ≤ end
    → Sweepable columns bound own j first hi
sweepable_less able a b = record { chain = chained_less able.chain a b; begins = able.begins; inside = able.inside; own_releases = able.own_releases }

module _ {columns : List (List ℕ)} {bound : List ℕ} {own j first hi : ℕ} (able : Sweepable columns bound own j first hi) where
  -- no share is beyond the chain's most times at their limit
  pub share_limit : (p : ℕ) → share_in columns bound j first hi p ≤ (hi - first) * max_time
  unfolding share_in
  share_limit p =
      largest_small (urgencies_in columns) (lowest_in columns p j) (spanned columns bound (releases_in columns p) (bounds_in bound j)) first max_time (hi - first) (λ u l.
      omega (arith, weight_le (releases_in columns p) (bounds_in bound j) (mosts_in columns u) (releases_in columns u) (bounds_in bound u), able.chain.mosts u (omega (arith, able.chain.before))))

  -- where the jobs from hi on are released too late, it is the whole chain's
  pub share_whole : (end : ℕ) → hi ≤ end → Late (releases_in columns) (bounds_in bound j) hi end → (p : ℕ) → share_in columns bound j first hi p ≡ share_in columns bound j first end p
  unfolding share_in
  share_whole end l late p =
      sym (late_nothing (urgencies_in columns) (mosts_in columns) (releases_in columns) (bounds_in bound) (lowest_in columns p j) (releases_in columns p) (bounds_in bound j) first hi end able.chain.before l late)

  module _ {before : List ℕ} where
    pub sweeping_none : length before ≡ max_jobs → Sweeping columns bound own j first hi before (suc j) (figure columns 1 j) hi 0 0 before
    sweeping_none room =
        record {
          above = omega (arith, able.begins);
          below = omega arith;
          room = room;
          low_is = sym (lowest_out (lent 0 columns) j);
          window = λ p a b. swept_none (releases_in columns p) first hi able.chain.before;
          still = λ p b. refl;
          raised = λ p a b. absurd (omega arith);
          kept = λ p b. refl;
        }

    module _ {k p low lo edge largest : ℕ} {delay : List ℕ} (h : Sweeping columns bound own j first hi before k low lo edge largest delay) (e : k ≡ suc p) (op : own ≤ p) where
      -- the window that the pair beginning at p is met with
      pub sweeping_window : SweptIn columns bound low (releases_in columns p) first lo hi edge largest
      sweeping_window = h.window p op (omega arith)

      sweeping_low : min low (figure columns 1 p) ≡ lowest_from_in columns p j
      sweeping_low = omega (arith, h.low_is, ap (λ (z : ℕ). lowest_from_in columns z j) e, lowest-next (lent 0 columns) j p (omega (arith, h.below)))

      module _ (released : Released (releases_in columns) (bounds_in bound j) first hi) {low' lo' edge' largest' : ℕ} (low_is : low' ≡ min low (figure columns 1 p))
          (whole : WholeIn columns bound low' (releases_in columns p) first lo' hi edge' largest') where
        pub sweeping_share : largest' ≡ share_in columns bound j first hi p
        unfolding share_in
        sweeping_share =
            whole_is whole (releases_in columns) (bounds_in bound j) released
            ∙ ap (λ (z : ℕ). largest_over (urgencies_in columns) z (spanned columns bound (releases_in columns p) (bounds_in bound j)) first (hi - first)) (low_is ∙ sweeping_low ∙ lowest_in_lem (lent 0 columns) j p (omega (arith, h.below)))

        pub sweeping_next : (x : ℕ) → x ≡ get_or delay p 0 + largest' → Sweeping columns bound own j first hi before p low' lo' edge' largest' (set delay p x)
        sweeping_next x q =
            let there : p < length delay = omega (arith, h.room, h.below, able.inside) in
            record {
              above = op;
              below = omega (arith, h.below);
              room = length-set delay p x ∙ h.room;
              low_is = low_is ∙ sweeping_low;
              window = λ i a b. swept_earlier whole.swept (releases_in columns i) (able.own_releases i p a (omega arith) (omega (arith, h.below)));
              still = λ i b. get_or-set_other delay p i x 0 (omega arith) ∙ h.still i (omega arith);
              raised = λ i a b. by_equal i p
                  (λ z. rw (z, get_or-set_same delay p x 0 there) (omega (arith, q, h.still p (omega arith), sweeping_share)))
                  (λ ne. get_or-set_other delay p i x 0 ne ∙ h.raised i (omega arith) b);
              kept = λ i b. get_or-set_other delay p i x 0 (λ z. b (omega arith) (omega (arith, h.below))) ∙ h.kept i b;
            }

    pub sweeping_all : {k low lo edge largest : ℕ} {delay : List ℕ} → Sweeping columns bound own j first hi before k low lo edge largest delay → k ≤ own
        → Raised own j (share_in columns bound j first hi) before delay
    sweeping_all h l = record { room = h.room; raised = λ p a b. h.raised p (omega arith) b; kept = h.kept }
