-- The largest sum over the pairs that end with job j, from the interference on each of them.
--   Ready     what a sweep is lent: a number for each chain, and no figure
--   Rounded   the bounds of a round, and what its sweeps were lent is ready again
--   Pairing   what the walk over the pairs holds with those from k on behind it, their figures cleared
-- Assumes a table in its limits, and bounds that rise along its chains.
use Prim.Native.Nat.{ℕ, suc, ◌+◌, ◌*◌, ◌-◌, ◌≤◌, ◌<◌, min, max}
use mathlib.Core.Path.{◌≡◌, refl, sym, ◌∙◌}
use mathlib.Core.List.{List, []}
use native.Mathlib.Omega.{arith}
use lib.ListN.{length, get_or, set, length-set, replicate, length-replicate}
use lib.Seq.{get_or-set_same, get_or-set_other}
use Rattle.laws.specs.Words.{padded}
use Rattle.laws.proofs.Tests.{by_order, by_equal}
use Rattle.laws.proofs.Lists.{get_d_padded}
use Rattle.jobs.specs.Limits.{max_jobs, max_time}
use Rattle.theory.specs.Bounds.{lowest, overlap, round}
use Rattle.theory.proofs.WellFormed.{chain_between}
use Rattle.theory.proofs.Columns.{figure, lent}
use Rattle.theory.proofs.Endings.{Ended}
use Rattle.theory.proofs.Pairs.{round_at, lowest_from, lowest_in_lem, lowest_out, lowest-next, Walked, walked_none, walked_sum, walked_next, walked_stop, walked_all, pair_is, delay_limit}
use Rattle.theory.proofs.ChainWindow.{releases_in, bounds_in}
use Rattle.theory.proofs.PairDelays.{Pairable, Counted, delay_in, Delayed}

pub record Ready (count : ℕ) (columns : List (List ℕ)) (numbers delay : List ℕ) : Type 0 where
  pub counted : Counted count columns numbers
  pub room : length delay ≡ max_jobs
  pub clear : (p : ℕ) → get_or delay p 0 ≡ 0

abbrev pub Rounded : ℕ → List (List ℕ) → List ℕ → List ℕ → List ℕ → List ℕ → Type 0
Rounded count columns bound numbers delay next = (next ≡ padded max_jobs 0 (round (lent count columns) bound)) × Ready count columns numbers delay

pub record Pairing (count : ℕ) (columns : List (List ℕ)) (bound : List ℕ) (own j : ℕ) (before : List ℕ) (k sum best : ℕ) (delay : List ℕ) : Type 0 where
  pub above : own ≤ k
  pub walked : Walked (lent count columns) (overlap (lent count columns) bound) max_time j k sum (lowest_from (lent count columns) k j) best
  pub room : length delay ≡ max_jobs
  pub still : (p : ℕ) → p < k → get_or delay p 0 ≡ get_or before p 0
  pub clear : (p : ℕ) → (own ≤ p → p < k → ⊥) → get_or delay p 0 ≡ 0

pub ready_none : {count : ℕ} {columns : List (List ℕ)} → Ended count columns → Ready count columns (replicate max_jobs 0) (replicate max_jobs 0)
ready_none {columns = columns} ended =
    record {
      counted = record { room = length-replicate {A = ℕ} max_jobs 0; few = λ i l f. let at = ended i l f in omega (arith, zeros i, at.later) };
      room = length-replicate {A = ℕ} max_jobs 0;
      clear = zeros;
    }
  where
    zeros : (p : ℕ) → ◌≡◌ {A = ℕ} (get_or (replicate max_jobs 0) p 0) 0
    zeros p = get_d_padded max_jobs 0 [] p

module _ {count : ℕ} {columns : List (List ℕ)} {bound : List ℕ} {own j : ℕ} (able : Pairable count columns bound own j) {before : List ℕ} (delayed : Delayed count columns bound own j before) where
  pub pairing_none : Pairing count columns bound own j before (suc j) 0 0 before
  pairing_none =
      record {
        above = omega (arith, able.mine.begins);
        walked = rw (lowest_out (lent count columns) j) (walked_none (lent count columns) j (overlap (lent count columns) bound) max_time);
        room = delayed.room;
        still = λ p l. refl;
        clear = λ p aside. delayed.clear p (λ a b. aside a (omega arith));
      }

  module _ {k p sum best : ℕ} {delay : List ℕ} (h : Pairing count columns bound own j before k sum best delay) (e : k ≡ suc p) (op : own ≤ p) where
    pub pairing_inside : p ≤ j
    pairing_inside = omega (arith, h.walked.inside)

    pub pairing_delay : get_or delay p 0 ≡ delay_in count columns bound j p
    pairing_delay = h.still p (omega arith) ∙ delayed.delays p op pairing_inside

    pub pairing_small : get_or delay p 0 ≤ count * max_time
    pairing_small = delay_limit count columns bound able.table.fit.mosts (figure columns 0 j) (lowest (lent count columns) p j) (releases_in columns p) (bounds_in bound j) (get_or delay p 0) pairing_delay

    pub pairing_next : (best' : ℕ) → best' ≡ max best ((lent count columns).latest p + (sum + (lent count columns).most p) + get_or delay p 0)
        → Pairing count columns bound own j before p (sum + (lent count columns).most p) best' (set delay p 0)
    pairing_next best' eb =
        let low : lowest_from (lent count columns) p j ≡ min (lowest_from (lent count columns) k j) ((lent count columns).urgency p) = rw e (lowest-next (lent count columns) j p pairing_inside) in
        let same : lowest (lent count columns) p j ≡ lowest_from (lent count columns) p j = sym (lowest_in_lem (lent count columns) j p pairing_inside) in
        let there : p < length delay = omega (arith, h.room, pairing_inside, able.inside, able.table.fit.few) in
        record {
          above = op;
          walked = walked_next (lent count columns) j (overlap (lent count columns) bound) max_time h.walked e (lowest_from (lent count columns) p j) _ best'
              (chain_between (lent count columns) able.table.fit.ordered own p j op pairing_inside able.inside able.mine.same)
              (able.table.fit.mosts p (omega (arith, pairing_inside)))
              low
              (pair_is count columns bound p j _ _ _ pairing_inside (walked_sum (lent count columns) j (overlap (lent count columns) bound) max_time h.walked e) refl (pairing_delay ∙ rw same))
              eb;
          room = length-set delay p 0 ∙ h.room;
          still = λ i l. get_or-set_other delay p i 0 0 (omega arith) ∙ h.still i (omega arith);
          clear = λ i aside. by_equal i p (λ z. rw (z, get_or-set_same delay p 0 0 there)) (λ ne. get_or-set_other delay p i 0 0 ne ∙ h.clear i (λ a b. aside a (omega arith)));
        }

  pub pairing_all : {k sum best : ℕ} {delay : List ℕ} → Pairing count columns bound own j before k sum best delay → k ≤ own → best ≡ round_at (lent count columns) bound j
  pairing_all {k} h l =
      by_order k 0
      (λ none. walked_all (lent count columns) j (overlap (lent count columns) bound) max_time k (omega arith) h.walked)
      (λ some.
      let e : k ≡ suc (k - 1) = omega arith in
      walked_stop (lent count columns) j (overlap (lent count columns) bound) max_time h.walked e able.table.fit.ordered able.inside (λ q. able.mine.head (k - 1) (omega (arith, h.above)) (q ∙ sym able.mine.same)))

  pub pairing_clear : {k sum best : ℕ} {delay : List ℕ} → Pairing count columns bound own j before k sum best delay → k ≤ own → (p : ℕ) → get_or delay p 0 ≡ 0
  pairing_clear h l p = h.clear p (λ a b. omega arith)
