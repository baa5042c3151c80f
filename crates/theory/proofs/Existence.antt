-- A legal run can be carried on by one entry, so there is one of each length: the claims about all runs are not claims about none. Assumes nothing.
--   Pick   what may run at n, seen from the first m jobs
use Prim.Native.Nat.{ℕ, zero, suc, ◌≤◌, ◌<◌}
use mathlib.Core.Path.{◌≡◌, refl, sym, ◌∙◌}
use mathlib.Core.Bool.{true}
use mathlib.Core.List.{List, [], ◌∷◌, ◌++◌}
use native.Mathlib.Omega.{arith}
use lib.ListN.{length, length-append, get_or-append}
use lib.Seq.{get_or-append_seam}
use Rattle.laws.specs.Words.{number_at}
use Rattle.laws.proofs.Tests.{by_order, by_equal, by_last}
use Rattle.theory.specs.Table.{Table}
use Rattle.theory.specs.Runs.{Entry, idle, runs, work, times_fit, releases_fit, is_run}
use Rattle.theory.proofs.Legal.{entry_at, Complete, PredecessorComplete, Ready, LegalEntry, Legal, times_from, releases_from, run-to}

entry-append : (r s : List Entry) (n : ℕ) → n < length r → entry_at (r ++ s) n ≡ entry_at r n
entry-append r s n l = get_or-append r s idle n l

work-append : (r s : List Entry) (u n : ℕ) → n ≤ length r → work (r ++ s) n u ≡ work r n u
unfolding work
work-append r s u zero l = refl
work-append r s u (suc n) l = rw (entry-append r s n l, work-append r s u n (omega arith))

module _ (t : Table) (release : ℕ → ℕ) (times : List ℕ) where
  -- ---- what is ready at n depends on the work at n alone
  module _ (r s : List Entry) (n : ℕ) (same : (v : ℕ) → work r n v ≡ work s n v) where
    predecessor-same : (u : ℕ) → PredecessorComplete t times r u n → PredecessorComplete t times s u n
    predecessor-same zero b = tt
    predecessor-same (suc v) b = λ q. sym (same v) ∙ b q

    ready-same : (u : ℕ) → Ready t release times r u n → Ready t release times s u n
    ready-same u h = record { released = h.released; unfinished = λ c. h.unfinished (same u ∙ c); predecessor = predecessor-same u h.predecessor }

  entry-same : (r s : List Entry) (n : ℕ) → ((v : ℕ) → work r n v ≡ work s n v) → (e : Entry) → LegalEntry t release times r n e
      → LegalEntry t release times s n e
  entry-same r s n q idle h = λ v vl w. h v vl (ready-same s r n (λ x. sym (q x)) v w)
  entry-same r s n q (runs u) h = (h.0, ready-same r s n q u h.1, λ v vl w. h.2 v vl (ready-same s r n (λ x. sym (q x)) v w))

  legal_none : Legal t release times []
  legal_none n l = absurd (omega arith)

  legal_more : (r : List Entry) (e : Entry) → Legal t release times r → LegalEntry t release times r (length r) e
      → Legal t release times (r ++ (e ∷ []))
  legal_more r e h next n l =
      let whole : List Entry = r ++ (e ∷ []) in
      let same : (m v : ℕ) → m ≤ length r → work r m v ≡ work whole m v = (λ m v ml. sym (work-append r (e ∷ []) v m ml)) in
      by_last n (length r) (omega (arith, length-append r (e ∷ [])))
      (λ q.
      let last : entry_at whole (length r) ≡ e = get_or-append_seam r e [] idle in
      rw (q, last) (entry-same r whole (length r) (λ v. same (length r) v (omega arith)) e next))
      (λ nl. rw (entry-append r (e ∷ []) n nl) (entry-same r whole n (λ v. same n v (omega arith)) (entry_at r n) (h n nl)))

  -- ---- the next entry can be found
  predecessor? : (r : List Entry) (u n : ℕ) → Dec (PredecessorComplete t times r u n)
  predecessor? r zero n = yes tt
  predecessor? r (suc v) n =
      by_equal (t.chain v) (t.chain (suc v))
      (λ c. by_equal (work r n v) (number_at times v) (λ d. yes (λ q. d)) (λ d. no (λ b. d (b c))))
      (λ c. yes (λ q. absurd (c q)))

  ready_by : (r : List Entry) (u n : ℕ) → release u ≤ n → (Complete times r u n → ⊥) → Dec (PredecessorComplete t times r u n)
      → Dec (Ready t release times r u n)
  ready_by r u n a b (yes c) = yes (record { released = a; unfinished = b; predecessor = c })
  ready_by r u n a b (no c) = no (λ h. c h.predecessor)

  ready? : (r : List Entry) (u n : ℕ) → Dec (Ready t release times r u n)
  ready? r u n =
      by_order (release u) n
      (λ a. by_equal (work r n u) (number_at times u) (λ b. no (λ h. h.unfinished b)) (λ b. ready_by r u n a b (predecessor? r u n)))
      (λ a. no (λ h. absurd (omega (arith, h.released))))

  data Pick (r : List Entry) (n m : ℕ) : Type 0 where
    none : ((v : ℕ) → v < m → Ready t release times r v n → ⊥) → Pick r n m
    one : (u : ℕ) → u < m → Ready t release times r u n → ((v : ℕ) → v < m → Ready t release times r v n → t.urgency v ≤ t.urgency u) → Pick r n m

  pick_more : (r : List Entry) (n m : ℕ) → Pick r n m → Dec (Ready t release times r m n) → Pick r n (suc m)
  pick_more r n m (none h) (yes w) = one m (omega arith) w (λ v vl d. by_last v m vl (λ q. rw q (omega arith)) (λ l. absurd (h v l d)))
  pick_more r n m (none h) (no w) = none (λ v vl d. by_last v m vl (λ q. w (rw q at d)) (λ l. h v l d))
  pick_more r n m (one u ul hu hm) (yes w) =
      by_order (t.urgency m) (t.urgency u)
      (λ c. one u (omega arith) hu (λ v vl d. by_last v m vl (λ q. rw q c) (λ l. hm v l d)))
      (λ c. one m (omega arith) w (λ v vl d. by_last v m vl (λ q. rw q (omega arith)) (λ l. omega (arith, hm v l d))))
  pick_more r n m (one u ul hu hm) (no w) = one u (omega arith) hu (λ v vl d. by_last v m vl (λ q. absurd (w (rw q at d))) (λ l. hm v l d))

  pick : (r : List Entry) (n m : ℕ) → Pick r n m
  pick r n zero = none (λ v vl d. omega arith)
  pick r n (suc m) = pick_more r n m (pick r n m) (ready? r m n)

  picked : (r : List Entry) (n : ℕ) → Pick r n t.count → (e : Entry) × LegalEntry t release times r n e
  picked r n (none h) = (idle, h)
  picked r n (one u ul hu hm) = (runs u, (ul, hu, hm))

  legal_of : (n : ℕ) → (r : List Entry) × (length r ≡ n) × Legal t release times r
  legal_of zero = ([], refl, legal_none)
  legal_of (suc n) =
      let h = legal_of n in
      let e = picked h.0 (length h.0) (pick h.0 (length h.0) t.count) in
      (h.0 ++ (e.0 ∷ []), omega (arith, h.1, length-append h.0 (e.0 ∷ [])), legal_more h.0 e.0 h.2 e.1)

  pub run_of : releases_fit t release ≡ true → times_fit t times ≡ true → (n : ℕ) → (run : List Entry) × (length run ≡ n) × (is_run t release times run ≡ true)
  run_of in_time in-range n =
      let h = legal_of n in
      (h.0, h.1, run-to (record { releases = releases_from t release in_time; in_range = times_from t times in-range; legal = h.2 }))
