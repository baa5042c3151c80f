-- Where every job that is not of the part is strictly less urgent than every job of it, a run of the table is a run of the part once the ticks of the
-- jobs left out are made idle. The pick among equals is free in both. Assumes that the chains come in order.
--   part_entry   the entry that names a job of the table by its place in the part, idle where it has none among the first n
--   projected   an entry so; project, a run so
use Prim.Native.Nat.{ℕ, zero, suc, ◌<◌}
use mathlib.Core.Path.{◌≡◌, refl, sym, ap, subst, ◌∙◌}
use mathlib.Core.Logic.{◌≢◌}
use mathlib.Core.Bool.{cond}
use mathlib.Core.List.{List, map}
use native.Mathlib.Omega.{arith}
use lib.Dec.{eqb}
use lib.ListN.{length, length-map, get_or-map}
use borrow.Author.Tests.{eqb-true, eq-eqb, ne_eqb}
use Rattle.laws.specs.Words.{number_at}
use Rattle.laws.proofs.Tests.{by_test, by_equal, by_last, same_test}
use Rattle.theory.specs.Table.{Table}
use Rattle.theory.specs.Runs.{Entry, idle, runs, names, work}
use Rattle.theory.specs.Claims.{Part, LessUrgent}
use Rattle.theory.proofs.Legal.{entry_at, Complete, PredecessorComplete, Ready, LegalEntry, Legal}
use Rattle.theory.proofs.WellFormed.{Ordered}
use Rattle.theory.proofs.Rules.{First, first_zero, first_after}
use Rattle.theory.proofs.Work.{named}
use Rattle.theory.proofs.Parts.{by_part, place_lt, chain_up, place-next, first_place}

unfoldable pub part_entry : (ℕ → ℕ) → ℕ → ℕ → Entry
part_entry place zero u = idle
part_entry place (suc n) u = let rest = part_entry place n u in cond (eqb (place n) u) (runs n) rest

unfoldable pub projected : (ℕ → ℕ) → ℕ → Entry → Entry
projected place n idle = idle
projected place n (runs u) = part_entry place n u

unfoldable pub project : (ℕ → ℕ) → ℕ → List Entry → List Entry
project place n run = map (projected place n) run

module _ (place : ℕ → ℕ) where
  entry-left : (n u : ℕ) → ((i : ℕ) → i < n → place i ≢ u) → part_entry place n u ≡ idle
  unfolding part_entry
  entry-left zero u h = refl
  entry-left (suc n) u h = rw (ne_eqb (place n) u (h n (omega arith))) (entry-left n u (λ i l. h i (omega arith)))

  entry_kept : (n i : ℕ) → i < n → ((k : ℕ) → k < n → i < k → place i < place k) → part_entry place n (place i) ≡ runs i
  unfolding part_entry
  entry_kept zero i l h = absurd (omega arith)
  entry_kept (suc n) i l h =
      by_last i n l
      (λ e. rw (e, eq-eqb (place n) (place n) refl))
      (λ il. rw (ne_eqb (place n) (place i) (omega (arith, h n (omega arith) il))) (entry_kept n i il (λ k kl. h k (omega arith))))

  entry_is : (n u i : ℕ) → part_entry place n u ≡ runs i → place i ≡ u
  unfolding part_entry
  entry_is zero u i e = let z : ◌≡◌ {A = ℕ} 0 1 = cc in absurd (omega arith)
  entry_is (suc n) u i e =
      by_test (eqb (place n) u)
      (λ q.
      let e' : runs n ≡ runs i = rw q at e in
      let z : n ≡ i = cc in
      ap place (sym z) ∙ eqb-true (place n) u q)
      (λ q. entry_is n u i (rw q at e))

-- what the predecessor of a job is, by any name
module _ (t : Table) (times : List ℕ) (run : List Entry) (n : ℕ) where
  predecessor_of : (u : ℕ) → PredecessorComplete t times run u n → (v : ℕ) → u ≡ suc v → t.chain v ≡ t.chain u → Complete times run v n
  predecessor_of zero b v e c = absurd (omega arith)
  predecessor_of (suc w) b v e c =
      let z : w ≡ v = omega arith in
      subst (λ (y : ℕ). Complete times run y n) z (b (ap t.chain z ∙ c))

  predecessor_by : (u : ℕ) → ((v : ℕ) → u ≡ suc v → t.chain v ≡ t.chain u → Complete times run v n) → PredecessorComplete t times run u n
  predecessor_by zero h = tt
  predecessor_by (suc v) h = λ c. h v refl c

  predecessor_none : (u : ℕ) → First t u → PredecessorComplete t times run u n
  predecessor_none u first = predecessor_by u (λ v e c. absurd (first v e c))

module _ {part t : Table} {place number : ℕ → ℕ} (h : Part part t place number) (o : Ordered t)
    (release part_release : ℕ → ℕ) (same_release : (i : ℕ) → i < part.count → part_release i ≡ release (place i))
    (times part_times : List ℕ) (same_times : (i : ℕ) → i < part.count → number_at part_times i ≡ number_at times (place i)) (run : List Entry) where
  abbrev part_run : List Entry
  part_run = project place part.count run

  kept : (i : ℕ) → i < part.count → part_entry place part.count (place i) ≡ runs i
  kept i l = entry_kept place part.count i l (λ k kl ik. place_lt h o i k ik kl)

  names_same : (e : Entry) (i : ℕ) → i < part.count → names (projected place part.count e) i ≡ names e (place i)
  unfolding names projected
  names_same idle i l = refl
  names_same (runs u) i l =
      same_test
      (names (part_entry place part.count u) i)
      (eqb u (place i))
      (λ q. eq-eqb u (place i) (sym (entry_is place part.count u i (named (part_entry place part.count u) i q))))
      (λ q. rw (eqb-true u (place i) q, kept i l) (eq-eqb i i refl))

  entry-same : (n : ℕ) → entry_at part_run n ≡ projected place part.count (entry_at run n)
  unfolding project projected
  entry-same n = get_or-map (projected place part.count) run n idle

  -- the work of a kept job is the same in both
  pub work-same : (i n : ℕ) → i < part.count → work part_run n i ≡ work run n (place i)
  unfolding work
  work-same i zero l = refl
  work-same i (suc n) l = rw (entry-same n, names_same (entry_at run n) i l, work-same i n l)

  pub complete_down : (i n : ℕ) → i < part.count → Complete times run (place i) n → Complete part_times part_run i n
  complete_down i n l c = work-same i n l ∙ c ∙ sym (same_times i l)

  pub complete_up : (i n : ℕ) → i < part.count → Complete part_times part_run i n → Complete times run (place i) n
  complete_up i n l c = sym (work-same i n l) ∙ c ∙ same_times i l

  predecessor_up : (i n : ℕ) → i < part.count → PredecessorComplete part part_times part_run i n → PredecessorComplete t times run (place i) n
  predecessor_up zero n l b = predecessor_none t times run n (place 0) (first_place h o 0 l (first_zero part))
  predecessor_up (suc k) n l b =
      by_equal (part.chain k) (part.chain (suc k))
      (λ c.
      predecessor_by t times run n (place (suc k)) (λ v e y.
      let z : place k ≡ v = omega (arith, place-next h o k l c) in
      subst (λ (x : ℕ). Complete times run x n) z (complete_up k n (omega arith) (b c))))
      (λ ne. predecessor_none t times run n (place (suc k)) (first_place h o (suc k) l (first_after part k ne)))

  predecessor_down : (i n : ℕ) → i < part.count → PredecessorComplete t times run (place i) n → PredecessorComplete part part_times part_run i n
  predecessor_down zero n l b = tt
  predecessor_down (suc k) n l b =
      λ c. complete_down k n (omega arith) (predecessor_of t times run n (place (suc k)) b (place k) (place-next h o k l c) (chain_up h o k (suc k) (omega arith) l c))

  ready_up : (i n : ℕ) → i < part.count → Ready part part_release part_times part_run i n → Ready t release times run (place i) n
  ready_up i n l w =
      record {
        released = omega (arith, w.released, same_release i l);
        unfinished = λ c. w.unfinished (complete_down i n l c);
        predecessor = predecessor_up i n l w.predecessor;
      }

  ready_down : (i n : ℕ) → i < part.count → Ready t release times run (place i) n → Ready part part_release part_times part_run i n
  ready_down i n l w =
      record {
        released = omega (arith, w.released, same_release i l);
        unfinished = λ c. w.unfinished (complete_up i n l c);
        predecessor = predecessor_down i n l w.predecessor;
      }

  module _ (less : LessUrgent part t place) where
    entry-legal : (n : ℕ) (e : Entry) → LegalEntry t release times run n e
        → LegalEntry part part_release part_times part_run n (projected place part.count e)
    unfolding projected
    entry-legal n idle l = λ v vl w. l (place v) (h.inside v vl) (ready_up v n vl w)
    entry-legal n (runs u) l =
        by_part part place u
        (λ i il e.
        rw (← e, kept i il) (
          il,
          ready_down i n il (rw (← e) at l.1),
          λ v vl w. omega (arith, l.2 (place v) (h.inside v vl) (ready_up v n vl w), h.urgency v vl, h.urgency i il, ap t.urgency e),
        ))
        (λ left.
        rw (entry-left place part.count u left)
        (λ v vl w. absurd (omega (arith, l.2 (place v) (h.inside v vl) (ready_up v n vl w), h.urgency v vl, less u v l.0 left vl))))

    pub project-legal : Legal t release times run → Legal part part_release part_times part_run
    project-legal legal n l = rw (entry-same n) (entry-legal n (entry_at run n) (legal n (omega (arith, same_length))))
      where
        same_length : length part_run ≡ length run
        same_length = unfold project in length-map run (projected place part.count)
