-- Where chains end, found by a walk over a table whose chains come in order.
--   Heads   what the walk holds at place i: the first place of the chain that it is in, and the ends so far
-- Assumes nothing.
use Prim.Native.Nat.{ℕ, zero, suc, ◌+◌, ◌≤◌, ◌<◌}
use mathlib.Core.Path.{◌≡◌, sym, ap, ◌∙◌}
use mathlib.Core.Logic.{◌≢◌}
use mathlib.Core.Bool.{cond}
use mathlib.Core.List.{List}
use native.Mathlib.Omega.{arith}
use native.Mathlib.Numerals.{add-one}
use lib.Dec.{eqb}
use lib.ListN.{length, get_or, set}
use lib.Seq.{get_or-set_same, get_or-set_other}
use borrow.Author.Tests.{eq-eqb, ne_eqb}
use Rattle.laws.proofs.Tests.{by_test, by_order, by_equal}
use Rattle.theory.proofs.Columns.{figure}
use Rattle.theory.proofs.Prior.{prior}

-- The chain of the job at i ends before e.
pub record EndsAt (count : ℕ) (chain : ℕ → ℕ) (i e : ℕ) : Type 0 where
  pub later : i < e
  pub within : e ≤ count
  pub same : (u : ℕ) → i ≤ u → u < e → chain u ≡ chain i
  pub other : e < count → chain e ≢ chain i

-- The job at i is the first of its chain.
abbrev pub First : (ℕ → ℕ) → ℕ → Type 0
First chain i = (v : ℕ) → v < i → chain v ≢ chain i

-- At the first place of each chain, the place after its last job.
abbrev pub Ended : ℕ → List (List ℕ) → Type 0
Ended count columns = (i : ℕ) → i < count → First (figure columns 0) i → EndsAt count (figure columns 0) i (figure columns 5 i)

pub record Heads (chain : ℕ → ℕ) (i first : ℕ) (ends : List ℕ) : Type 0 where
  pub within : first ≤ i
  pub begun : 0 < i → first < i
  pub run : (v : ℕ) → first ≤ v → v < i → chain v ≡ chain first
  pub head : First chain first
  pub known : (f : ℕ) → f < i → First chain f → EndsAt i chain f (get_or ends f 0)

module _ (chain : ℕ → ℕ) where
  pub heads_none : (ends : List ℕ) → Heads chain 0 0 ends
  heads_none ends =
      record {
        within = omega arith;
        begun = λ l. l;
        run = λ v a b. absurd (omega arith);
        head = λ v l. absurd (omega arith);
        known = λ f l. absurd (omega arith);
      }

  -- two first places of one chain are the same
  first_same : (f g : ℕ) → First chain f → First chain g → chain f ≡ chain g → f ≡ g
  first_same f g hf hg e = by_order f g (λ l. by_equal f g (λ q. q) (λ ne. absurd (hg f (omega arith) e))) (λ l. absurd (hf g l (sym e)))

  module _ (i first : ℕ) (ends : List ℕ) (room : i < length ends) (h : Heads chain i first ends) where
    -- the chain goes on
    heads_on : 0 < i → chain i ≡ chain first → Heads chain (suc i) first (set ends first (suc i))
    heads_on some same =
        let all : (v : ℕ) → first ≤ v → v < suc i → chain v ≡ chain first = (λ v a b. by_equal v i (λ q. ap chain q ∙ same) (λ ne. h.run v a (omega arith))) in
        record {
          within = omega (arith, h.within);
          begun = λ l. omega (arith, h.within);
          run = all;
          head = h.head;
          known = λ f l ff.
              by_equal f first
              (λ q.
              rw (q, get_or-set_same ends first (suc i) 0 (omega (arith, h.within)))
              (record { later = omega (arith, h.within); within = omega arith; same = all; other = λ el. absurd (omega arith) }))
              (λ ne.
              let other : chain f ≢ chain first = (λ q. ne (first_same f first ff h.head q)) in
              let before : f < i = by_equal f i (λ q. absurd (other (ap chain q ∙ same))) (λ d. omega arith) in
              let at = h.known f before ff in
              rw (get_or-set_other ends first f (suc i) 0 ne)
              (record { later = at.later; within = omega (arith, at.within); same = at.same; other = λ el q. by_equal (get_or ends f 0) i (λ z. other (sym q ∙ ap chain z ∙ same)) (λ d. at.other (omega (arith, at.within)) q) }));
        }

    -- another chain begins
    heads_new : First chain i → Heads chain (suc i) i (set ends i (suc i))
    heads_new fi =
        record {
          within = omega arith;
          begun = λ l. omega arith;
          run = λ v a b. ap chain (omega arith);
          head = fi;
          known = λ f l ff.
              by_equal f i
              (λ q.
              rw (q, get_or-set_same ends i (suc i) 0 room)
              (record { later = omega arith; within = omega arith; same = λ u a b. ap chain (omega arith); other = λ el. absurd (omega arith) }))
              (λ ne.
              let at = h.known f (omega arith) ff in
              rw (get_or-set_other ends i f (suc i) 0 ne)
              (record { later = at.later; within = omega (arith, at.within); same = at.same; other = λ el q. by_equal (get_or ends f 0) i (λ z. fi f (omega arith) (sym q ∙ ap chain z)) (λ d. at.other (omega (arith, at.within)) q) }));
        }

  heads_step : (i first : ℕ) (ends : List ℕ) → i < length ends → Heads chain i first ends → ((v w : ℕ) → v ≤ w → w ≤ i → chain v ≤ chain w)
      → Heads chain (suc i) (cond (eqb (prior chain i) (chain i)) first i) (set ends (cond (eqb (prior chain i) (chain i)) first i) (suc i))
  unfolding prior
  heads_step zero first ends room h mono =
      let none : first ≡ 0 = omega (arith, h.within) in
      let either : cond (eqb 0 (chain 0)) first 0 ≡ 0 = by_test (eqb 0 (chain 0)) (λ b. rw b none) (λ b. rw b) in
      rw either (heads_new 0 first ends room h (λ v l. absurd (omega arith)))
  heads_step (suc k) first ends room h mono =
      by_equal (chain k) (chain (suc k))
      (λ q. rw (eq-eqb (chain k) (chain (suc k)) q) (heads_on (suc k) first ends room h (omega arith) (sym q ∙ h.run k (omega (arith, h.begun (omega arith))) (omega arith))))
      (λ ne. rw (ne_eqb (chain k) (chain (suc k)) ne) (heads_new (suc k) first ends room h (λ v l q. ne (omega (arith, mono v k (omega arith) (omega arith), mono k (suc k) (omega arith) (omega arith), q)))))

  pub heads_next : {i first : ℕ} {ends : List ℕ} → i < length ends → Heads chain i first ends → ((v w : ℕ) → v ≤ w → w ≤ i → chain v ≤ chain w)
      → (next : ℕ) → next ≡ cond (eqb (prior chain i) (chain i)) first i → Heads chain (i + 1) next (set ends next (i + 1))
  heads_next {i} {first} {ends} room h mono next e = rw (e, add-one) (heads_step i first ends room h mono)

-- what holds of where a chain ends holds of chains that are the same up to the count
pub ends_same : {chain other : ℕ → ℕ} {n i e : ℕ} → ((u : ℕ) → u < n → other u ≡ chain u) → i < n → EndsAt n chain i e → EndsAt n other i e
ends_same {i = i} {e = e} h l at =
    record {
      later = at.later;
      within = at.within;
      same = λ u a b. h u (omega (arith, at.within)) ∙ at.same u a b ∙ sym (h i l);
      other = λ el q. at.other el (sym (h e el) ∙ q ∙ h i l);
    }
