-- The interference on all pairs that end with job j: the shares of all chains, added up pair by pair as the chains go by.
--   Roundable   a table in its limits with its chains' ends, and bounds that rise along its chains
--   Pairable    the same with a job and the first place of its chain
--   CountedAt   at the first place of a chain, a number of its jobs
--   Counted     the same of each chain
--   Moved       another number for one chain
--   other_in     what a chain adds in the pair that begins at p, nothing where it is j's own
--   delay_in     the interference on that pair
--   Delayed     each pair's figure is the interference on it, and no other place has one
--   Delaying    what the walk over the chains holds at the first place of one
-- Assumes a table in its limits, and bounds that rise along its chains.
use Prim.Native.Nat.{ℕ, zero, suc, ◌+◌, ◌-◌, ◌≤◌, ◌<◌, min}
use mathlib.Core.Path.{◌≡◌, refl, sym, ap, ◌∙◌}
use mathlib.Core.Logic.{◌≢◌}
use mathlib.Core.Bool.{cond}
use mathlib.Core.List.{List}
use native.Mathlib.Omega.{arith}
use lib.Dec.{eqb, leb}
use lib.ListN.{length, get_or, set, length-set}
use lib.Seq.{get_or-set_same, get_or-set_other}
use borrow.Author.Tests.{eq-eqb, ne_eqb}
use Rattle.laws.proofs.Tests.{by_equal}
use Rattle.jobs.specs.Limits.{max_jobs, max_time}
use Rattle.theory.specs.Bounds.{interference, lowest}
use Rattle.theory.proofs.WellFormed.{chain_between}
use Rattle.theory.proofs.Columns.{figure, lent, Fit}
use Rattle.theory.proofs.Weights.{spanned, weight_le}
use Rattle.theory.proofs.Stretches.{largest_over}
use Rattle.theory.proofs.Endings.{First, Ended, EndsAt}
use Rattle.theory.proofs.Shares.{Shared, shared_none, shared_next, shared_all}
use Rattle.theory.proofs.OwnChains.{HeadOf}
use Rattle.theory.proofs.RisingBounds.{Upwards, upwards_le}
use Rattle.theory.proofs.ChainWindow.{Climbs, releases_in, bounds_in}
use Rattle.theory.proofs.PairShares.{share_in, Sweepable, Small, Aside, Raised}

pub record Roundable (count : ℕ) (columns : List (List ℕ)) (bound : List ℕ) : Type 0 where
  pub fit : Fit (lent count columns)
  pub ended : Ended count columns
  pub rises : Upwards (lent count columns) (bounds_in bound)

pub record Pairable (count : ℕ) (columns : List (List ℕ)) (bound : List ℕ) (own j : ℕ) : Type 0 where
  pub table : Roundable count columns bound
  pub inside : j < count
  pub mine : HeadOf (λ i. figure columns 0 i) own j

pub record CountedAt (first end : ℕ) (numbers : List ℕ) : Type 0 where
  pub there : first < max_jobs
  pub room : length numbers ≡ max_jobs
  pub few : first + get_or numbers first 0 ≤ end

pub record Counted (count : ℕ) (columns : List (List ℕ)) (numbers : List ℕ) : Type 0 where
  pub room : length numbers ≡ max_jobs
  pub few : (i : ℕ) → i < count → First (figure columns 0) i → i + get_or numbers i 0 ≤ figure columns 5 i

pub record Moved (first end : ℕ) (before after : List ℕ) : Type 0 where
  pub counted : CountedAt first end after
  pub kept : (i : ℕ) → i ≢ first → get_or after i 0 ≡ get_or before i 0

abbrev pub other_in : List (List ℕ) → List ℕ → ℕ → ℕ → ℕ → ℕ
other_in columns bound j first p = cond (eqb (figure columns 0 first) (figure columns 0 j)) 0 (share_in columns bound j first (figure columns 5 first) p)

abbrev pub delay_in : ℕ → List (List ℕ) → List ℕ → ℕ → ℕ → ℕ
delay_in count columns bound j p =
    interference (lent count columns) (figure columns 0 j) (lowest (lent count columns) p j) (spanned columns bound (releases_in columns p) (bounds_in bound j))

pub record Delayed (count : ℕ) (columns : List (List ℕ)) (bound : List ℕ) (own j : ℕ) (delay : List ℕ) : Type 0 where
  pub room : length delay ≡ max_jobs
  pub delays : (p : ℕ) → own ≤ p → p ≤ j → get_or delay p 0 ≡ delay_in count columns bound j p
  pub clear : (p : ℕ) → Aside own j p → get_or delay p 0 ≡ 0

pub record Delaying (count : ℕ) (columns : List (List ℕ)) (bound : List ℕ) (own j i : ℕ) (numbers delay : List ℕ) : Type 0 where
  pub counted : Counted count columns numbers
  pub room : length delay ≡ max_jobs
  pub shared : (p : ℕ) → own ≤ p → p ≤ j
      → Shared (lent count columns) (figure columns 0 j) (lowest (lent count columns) p j) (spanned columns bound (releases_in columns p) (bounds_in bound j)) max_time i (get_or delay p 0)
  pub clear : (p : ℕ) → Aside own j p → get_or delay p 0 ≡ 0

-- the lowest urgency does not depend on how many jobs there are
lowest-lent : (columns : List (List ℕ)) (a b k j : ℕ) → lowest (lent a columns) k j ≡ lowest (lent b columns) k j
unfolding lowest
lowest-lent columns a b k zero = refl
lowest-lent columns a b k (suc j) = ap (λ (z : ℕ). cond (leb k j) (min z (figure columns 1 (suc j))) (figure columns 1 (suc j))) (lowest-lent columns a b k j)

-- ---- another number for one chain
module _ {first end : ℕ} {before : List ℕ} (h : CountedAt first end before) where
  pub moved_none : Moved first end before before
  moved_none = record { counted = h; kept = λ i ne. refl }

  pub moved_to : (x : ℕ) → first + x ≤ end → Moved first end before (set before first x)
  moved_to x few =
      record {
        counted = record { there = h.there; room = length-set before first x ∙ h.room; few = rw (get_or-set_same before first x 0 (omega (arith, h.room, h.there))) few };
        kept = λ i ne. get_or-set_other before first i x 0 ne;
      }

pub counted_next : {count : ℕ} {columns : List (List ℕ)} {first : ℕ} {before after : List ℕ} → Counted count columns before → Moved first (figure columns 5 first) before after
    → Counted count columns after
counted_next {first = first} h moved =
    record {
      room = moved.counted.room;
      few = λ i l f. by_equal i first (λ e. rw e moved.counted.few) (λ ne. rw (moved.kept i ne) (h.few i l f));
    }

-- ---- one chain: j's own adds nothing, another its share
module _ (columns : List (List ℕ)) (bound : List ℕ) (own j first : ℕ) (before : List ℕ) where
  pub other_none : figure columns 0 first ≡ figure columns 0 j → length before ≡ max_jobs → Raised own j (other_in columns bound j first) before before
  other_none e room = record { room = room; raised = λ p a b. rw (eq-eqb (figure columns 0 first) (figure columns 0 j) e) (omega arith); kept = λ p l. refl }

  pub other_raised : figure columns 0 first ≢ figure columns 0 j → (hi : ℕ) → ((p : ℕ) → share_in columns bound j first hi p ≡ share_in columns bound j first (figure columns 5 first) p)
      → (after : List ℕ) → Raised own j (share_in columns bound j first hi) before after → Raised own j (other_in columns bound j first) before after
  other_raised ne hi whole after h =
      record { room = h.room; raised = λ p a b. rw (ne_eqb (figure columns 0 first) (figure columns 0 j) ne) (omega (arith, h.raised p a b, whole p)); kept = h.kept }

module _ {count : ℕ} {columns : List (List ℕ)} {bound : List ℕ} {own j : ℕ} (able : Pairable count columns bound own j) where
  pub delaying_none : {numbers delay : List ℕ} → Counted count columns numbers → length delay ≡ max_jobs → ((p : ℕ) → get_or delay p 0 ≡ 0) → Delaying count columns bound own j 0 numbers delay
  delaying_none counted room clear =
      record {
        counted = counted;
        room = room;
        shared = λ p a b. rw (clear p) (shared_none (lent count columns) (figure columns 0 j) (lowest (lent count columns) p j) (spanned columns bound (releases_in columns p) (bounds_in bound j)) max_time);
        clear = λ p aside. clear p;
      }

  module _ {i : ℕ} {numbers delay : List ℕ} (h : Delaying count columns bound own j i numbers delay) where
    pub delaying_all : count ≤ i → Delayed count columns bound own j delay
    delaying_all l =
        record {
          room = h.room;
          delays = λ p a b. shared_all (lent count columns) (figure columns 0 j) (lowest (lent count columns) p j) (spanned columns bound (releases_in columns p) (bounds_in bound j)) max_time i (get_or delay p 0) l (h.shared p a b);
          clear = h.clear;
        }

    pub delaying_small : Small own j i delay
    delaying_small = record { room = h.room; small = λ p a b. (h.shared p a b).small }

    module _ (il : i < count) where
      delaying_first : First (figure columns 0) i
      delaying_first = (h.shared j able.mine.begins (omega arith)).first il

      pub delaying_ends : EndsAt count (lent count columns).chain i (figure columns 5 i)
      delaying_ends = able.table.ended i il delaying_first

      pub delaying_counted : CountedAt i (figure columns 5 i) numbers
      delaying_counted = record { there = omega (arith, able.table.fit.few); room = h.counted.room; few = h.counted.few i il delaying_first }

      -- figures that rise along chains rise over this one, and over the places from own to j
      climbs_chain : (f : ℕ → ℕ) → Upwards (lent count columns) f → Climbs f i (figure columns 5 i)
      climbs_chain f up u v a b c =
          upwards_le (lent count columns) able.table.fit.ordered f up u v b (omega (arith, delaying_ends.within)) (delaying_ends.same u a (omega arith) ∙ sym (delaying_ends.same v (omega arith) c))

      climbs_own : (f : ℕ → ℕ) → Upwards (lent count columns) f → Climbs f own (suc j)
      climbs_own f up u v a b c =
          upwards_le (lent count columns) able.table.fit.ordered f up u v b (omega arith) (of_chain u a (omega arith) ∙ sym (of_chain v (omega arith) (omega arith)))
        where
          of_chain : (u : ℕ) → own ≤ u → u ≤ j → (lent count columns).chain u ≡ (lent count columns).chain j
          of_chain u a b = chain_between (lent count columns) able.table.fit.ordered own u j a b able.inside able.mine.same

      pub delaying_able : Sweepable columns bound own j i (figure columns 5 i)
      delaying_able =
          record {
            chain = record {
              before = omega (arith, delaying_ends.later);
              within = omega (arith, delaying_ends.within, able.table.fit.few);
              releases = climbs_chain (lent count columns).earliest able.table.fit.rises;
              bounds = climbs_chain (bounds_in bound) able.table.rises;
              mosts = λ u l. able.table.fit.mosts u (omega (arith, delaying_ends.within));
            };
            begins = able.mine.begins;
            inside = omega (arith, able.table.fit.few);
            own_releases = climbs_own (lent count columns).earliest able.table.fit.rises;
          }

      pub delaying_next : {numbers' delay' : List ℕ} → Moved i (figure columns 5 i) numbers numbers' → Raised own j (other_in columns bound j i) delay delay'
          → Delaying count columns bound own j (figure columns 5 i) numbers' delay'
      unfolding share_in
      delaying_next moved raised =
          record {
            counted = counted_next h.counted moved;
            room = raised.room;
            shared = λ p a b.
                rw (raised.raised p a b)
                (shared_next (lent count columns) (figure columns 0 j) (lowest (lent count columns) p j) (spanned columns bound (releases_in columns p) (bounds_in bound j)) max_time able.table.fit.ordered i (figure columns 5 i) il delaying_ends (get_or delay p 0) (h.shared p a b)
                (λ u l. omega (arith, weight_le (releases_in columns p) (bounds_in bound j) ((lent count columns).most u) ((lent count columns).earliest u) (bounds_in bound u), able.table.fit.mosts u (omega (arith, delaying_ends.within)))) _
                (ap (λ (z : ℕ). cond (eqb (figure columns 0 i) (figure columns 0 j)) 0 (largest_over (lent count columns).urgency z (spanned columns bound (releases_in columns p) (bounds_in bound j)) i (figure columns 5 i - i))) (lowest-lent columns 0 count p j)));
            clear = λ p aside. raised.kept p aside ∙ h.clear p aside;
          }
