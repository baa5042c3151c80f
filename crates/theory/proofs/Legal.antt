-- The tests of specs/Runs as propositions, which proofs take apart, and the laws that lead from each to the other. Assumes nothing.
--   entry_at               the entry of tick n
--   Complete              a job is complete at n
--   PredecessorComplete   its predecessor is, where it has one
--   Ready                 it is ready at n
--   LegalEntry, Legal     an entry is legal at n, all are
--   Times, Releases       running times and releases in range
--   Run                   a run of demand 3
--   Parts                 what makes a job ready, by any work
--   entry_legal            the test of one entry of a run
use Prim.Native.Nat.{ℕ, zero, suc, ◌≤◌, ◌<◌}
use mathlib.Core.Path.{◌≡◌, refl, sym, ◌∙◌}
use mathlib.Core.Logic.{◌≢◌}
use mathlib.Core.Bool.{Bool, true, false, not, ◌&&◌, ◌||◌}
use mathlib.Core.List.{List}
use lib.Dec.{leb}
use lib.ListN.{length, get_or}
use borrow.Author.Tests.{leb-true, le-leb, ltb-true, lt-ltb, eqb-true, eqb-false, eq-eqb, ne_eqb, not-true}
use Rattle.laws.specs.Words.{every_below, number_at}
use Rattle.laws.proofs.Tests.{by_equal, by_test, both_ways, never_true, and_left, and_right, and_parts}
use Rattle.laws.proofs.Every.{every_at, every_all}
use Rattle.theory.specs.Table.{Table, joined}
use Rattle.theory.specs.Runs.{Entry, idle, runs, work, complete, predecessor_complete, ready, legal_entry, times_fit, releases_fit, is_run}

abbrev pub entry_at : List Entry → ℕ → Entry
entry_at run n = get_or run n idle

abbrev pub Complete : List ℕ → List Entry → ℕ → ℕ → Type 0
Complete times run u n = work run n u ≡ number_at times u

abbrev pub PredecessorComplete : Table → List ℕ → List Entry → ℕ → ℕ → Type 0
PredecessorComplete t times run zero n = Unit {0}
PredecessorComplete t times run (suc v) n = t.chain v ≡ t.chain (suc v) → Complete times run v n

pub record Ready (t : Table) (release : ℕ → ℕ) (times : List ℕ) (run : List Entry) (u n : ℕ) : Type 0 where
  pub released : release u ≤ n
  pub unfinished : Complete times run u n → ⊥
  pub predecessor : PredecessorComplete t times run u n

abbrev pub LegalEntry : Table → (ℕ → ℕ) → List ℕ → List Entry → ℕ → Entry → Type 0
LegalEntry t release times run n idle = (v : ℕ) → v < t.count → Ready t release times run v n → ⊥
LegalEntry t release times run n (runs u) =
    (u < t.count)
    × Ready t release times run u n
    × ((v : ℕ) → v < t.count → Ready t release times run v n → t.urgency v ≤ t.urgency u)

abbrev pub Legal : Table → (ℕ → ℕ) → List ℕ → List Entry → Type 0
Legal t release times run = (n : ℕ) → n < length run → LegalEntry t release times run n (entry_at run n)

pub record Times (t : Table) (times : List ℕ) : Type 0 where
  pub each : length times ≡ t.count
  pub low : (u : ℕ) → u < t.count → t.least u ≤ number_at times u
  pub high : (u : ℕ) → u < t.count → number_at times u ≤ t.most u

pub record Releases (t : Table) (release : ℕ → ℕ) : Type 0 where
  pub early : (u : ℕ) → u < t.count → t.earliest u ≤ release u
  pub late : (u : ℕ) → u < t.count → release u ≤ t.latest u

pub record Run (t : Table) (release : ℕ → ℕ) (times : List ℕ) (run : List Entry) : Type 0 where
  pub releases : Releases t release
  pub in_range : Times t times
  pub legal : Legal t release times run

-- ---- complete
module _ (times : List ℕ) (worked : ℕ → ℕ) (u : ℕ) where
  pub complete_eq : complete times worked u ≡ true → worked u ≡ number_at times u
  unfolding complete
  complete_eq h = eqb-true _ _ h

  pub eq_complete : worked u ≡ number_at times u → complete times worked u ≡ true
  unfolding complete
  eq_complete h = eq-eqb _ _ h

  pub complete_ne : complete times worked u ≡ false → worked u ≢ number_at times u
  unfolding complete
  complete_ne h = eqb-false _ _ h

  pub ne_complete : worked u ≢ number_at times u → complete times worked u ≡ false
  unfolding complete
  ne_complete h = ne_eqb _ _ h

-- ---- a job that has a predecessor, and one that has none
module _ (t : Table) (times : List ℕ) (worked : ℕ → ℕ) where
  pub predecessor-next : (v : ℕ) → t.chain v ≡ t.chain (suc v) → predecessor_complete t times worked (suc v) ≡ complete times worked v
  unfolding predecessor_complete joined
  predecessor-next v e = rw (eq-eqb (t.chain v) (t.chain (suc v)) e)

  pub predecessor_none : (v : ℕ) → t.chain v ≢ t.chain (suc v) → predecessor_complete t times worked (suc v) ≡ true
  unfolding predecessor_complete joined
  predecessor_none v e = rw (ne_eqb (t.chain v) (t.chain (suc v)) e)

  pub predecessor_first : predecessor_complete t times worked 0 ≡ true
  unfolding predecessor_complete
  predecessor_first = refl

-- ---- ready
pub record Parts (t : Table) (release : ℕ → ℕ) (times : List ℕ) (worked : ℕ → ℕ) (n u : ℕ) : Type 0 where
  pub released : release u ≤ n
  pub unfinished : complete times worked u ≡ false
  pub predecessor : predecessor_complete t times worked u ≡ true

module _ (t : Table) (release : ℕ → ℕ) (times : List ℕ) (worked : ℕ → ℕ) (n u : ℕ) where
  pub ready_parts : ready t release times worked n u ≡ true → Parts t release times worked n u
  unfolding ready
  ready_parts h =
      let all = and_parts h in
      let own = and_parts all.0 in
      record { released = leb-true _ _ own.0; unfinished = not-true _ own.1; predecessor = all.1 }

  pub parts_ready : Parts t release times worked n u → ready t release times worked n u ≡ true
  unfolding ready
  parts_ready p = rw (le-leb (release u) n p.released, p.unfinished, p.predecessor)

  pub complete_not_ready : complete times worked u ≡ true → ready t release times worked n u ≡ false
  complete_not_ready e = never_true (ready t release times worked n u) (λ h. both_ways e (ready_parts h).unfinished)

-- ---- a legal entry, by which jobs are ready
module _ (t : Table) (is_ready : ℕ → Bool) where
  pub legal_idle : legal_entry t is_ready idle ≡ true → (v : ℕ) → v < t.count → is_ready v ≡ false
  unfolding legal_entry
  legal_idle h v vl = not-true (is_ready v) (every_at _ t.count v vl h)

  pub legal_runs : (u : ℕ) → legal_entry t is_ready (runs u) ≡ true
      → (u < t.count) × (is_ready u ≡ true) × ((v : ℕ) → v < t.count → is_ready v ≡ true → t.urgency v ≤ t.urgency u)
  unfolding legal_entry
  legal_runs u h =
      let all = and_parts h in
      let own = and_parts all.0 in
      (ltb-true _ _ own.0, own.1, λ v vl e. leb-true _ _ (rw e at (every_at _ t.count v vl all.1)))

  pub idle_legal : ((v : ℕ) → v < t.count → is_ready v ≡ false) → legal_entry t is_ready idle ≡ true
  unfolding legal_entry
  idle_legal h = every_all (λ v. not (is_ready v)) t.count (λ v vl. rw (h v vl))

  pub runs_legal : (u : ℕ) → u < t.count → is_ready u ≡ true → ((v : ℕ) → v < t.count → is_ready v ≡ true → t.urgency v ≤ t.urgency u)
      → legal_entry t is_ready (runs u) ≡ true
  unfolding legal_entry
  runs_legal u l r h =
      rw (lt-ltb u t.count l, r) (every_all (λ v. not (is_ready v) || leb (t.urgency v) (t.urgency u)) t.count (λ v vl. below v (h v vl)))
    where
      below : (v : ℕ) → (is_ready v ≡ true → t.urgency v ≤ t.urgency u) → not (is_ready v) || leb (t.urgency v) (t.urgency u) ≡ true
      below v h = by_test (is_ready v) (λ e. rw (e, le-leb (t.urgency v) (t.urgency u) (h e))) (λ e. rw e)

-- ---- ready and legal in a run
module _ (t : Table) (release : ℕ → ℕ) (times : List ℕ) (run : List Entry) (n : ℕ) where
  predecessor-to : (u : ℕ) → PredecessorComplete t times run u n → predecessor_complete t times (work run n) u ≡ true
  predecessor-to zero p = predecessor_first t times (work run n)
  predecessor-to (suc v) p =
      by_equal (t.chain v) (t.chain (suc v))
      (λ e. predecessor-next t times (work run n) v e ∙ eq_complete times (work run n) v (p e))
      (λ ne. predecessor_none t times (work run n) v ne)

  predecessor_from : (u : ℕ) → predecessor_complete t times (work run n) u ≡ true → PredecessorComplete t times run u n
  predecessor_from zero p = tt
  predecessor_from (suc v) p = λ e. complete_eq times (work run n) v (sym (predecessor-next t times (work run n) v e) ∙ p)

  abbrev test : ℕ → Bool
  test = ready t release times (work run n) n

  pub ready-to : (u : ℕ) → Ready t release times run u n → test u ≡ true
  ready-to u r =
      parts_ready t release times (work run n) n u
      (record { released = r.released; unfinished = ne_complete times (work run n) u r.unfinished; predecessor = predecessor-to u r.predecessor })

  pub ready_from_lem : (u : ℕ) → test u ≡ true → Ready t release times run u n
  ready_from_lem u h =
      let p = ready_parts t release times (work run n) n u h in
      record { released = p.released; unfinished = complete_ne times (work run n) u p.unfinished; predecessor = predecessor_from u p.predecessor }

  legal-to : (e : Entry) → LegalEntry t release times run n e → legal_entry t test e ≡ true
  legal-to idle h = idle_legal t test (λ v vl. never_true (test v) (λ e. h v vl (ready_from_lem v e)))
  legal-to (runs u) h = runs_legal t test u h.0 (ready-to u h.1) (λ v vl e. h.2 v vl (ready_from_lem v e))

  legal_from : (e : Entry) → legal_entry t test e ≡ true → LegalEntry t release times run n e
  legal_from idle h = λ v vl r. both_ways (ready-to v r) (legal_idle t test h v vl)
  legal_from (runs u) h =
      let l = legal_runs t test u h in
      (l.0, ready_from_lem u l.1, λ v vl r. l.2 v vl (ready-to v r))

-- ---- ranges
module _ (n : ℕ) (low high figure : ℕ → ℕ) where
  abbrev within : ℕ → Bool
  within u = leb (low u) (figure u) && leb (figure u) (high u)

  within-to : ((u : ℕ) → u < n → low u ≤ figure u) → ((u : ℕ) → u < n → figure u ≤ high u) → every_below n within ≡ true
  within-to a b = every_all within n (λ u l. rw (le-leb _ _ (a u l), le-leb _ _ (b u l)))

  within_low : every_below n within ≡ true → (u : ℕ) → u < n → low u ≤ figure u
  within_low h u l = leb-true _ _ (and_left (leb (low u) (figure u)) (leb (figure u) (high u)) (every_at within n u l h))

  within_high : every_below n within ≡ true → (u : ℕ) → u < n → figure u ≤ high u
  within_high h u l = leb-true _ _ (and_right (leb (low u) (figure u)) (leb (figure u) (high u)) (every_at within n u l h))

module _ (t : Table) (times : List ℕ) where
  pub times-to : Times t times → times_fit t times ≡ true
  unfolding times_fit
  times-to h = rw (eq-eqb _ _ h.each) (within-to t.count t.least t.most (number_at times) h.low h.high)

  pub times_from : times_fit t times ≡ true → Times t times
  unfolding times_fit
  times_from h =
      let all = and_parts h in
      record {
        each = eqb-true _ _ all.0;
        low = within_low t.count t.least t.most (number_at times) all.1;
        high = within_high t.count t.least t.most (number_at times) all.1;
      }

module _ (t : Table) (release : ℕ → ℕ) where
  pub releases-to : Releases t release → releases_fit t release ≡ true
  unfolding releases_fit
  releases-to h = within-to t.count t.earliest t.latest release h.early h.late

  pub releases_from : releases_fit t release ≡ true → Releases t release
  unfolding releases_fit
  releases_from h =
      record {
        early = within_low t.count t.earliest t.latest release h;
        late = within_high t.count t.earliest t.latest release h;
      }

-- ---- the run
abbrev pub entry_legal : Table → (ℕ → ℕ) → List ℕ → List Entry → ℕ → Bool
entry_legal t release times run n = legal_entry t (ready t release times (work run n) n) (get_or run n idle)

pub run_by : (t : Table) (release : ℕ → ℕ) (times : List ℕ) (run : List Entry) → releases_fit t release ≡ true → times_fit t times ≡ true
    → ((n : ℕ) → n < length run → entry_legal t release times run n ≡ true) → is_run t release times run ≡ true
unfolding is_run
run_by t release times run a b h = rw (a, b) (every_all (entry_legal t release times run) (length run) h)

module _ {t : Table} {release : ℕ → ℕ} {times : List ℕ} {run : List Entry} where
  pub run-to : Run t release times run → is_run t release times run ≡ true
  run-to h =
      run_by t release times run
      (releases-to t release h.releases)
      (times-to t times h.in_range)
      (λ n l. legal-to t release times run n (entry_at run n) (h.legal n l))

  pub run_from : is_run t release times run ≡ true → Run t release times run
  unfolding is_run
  run_from h =
      let all = and_parts h in
      let ranges = and_parts all.0 in
      record {
        releases = releases_from t release ranges.0;
        in_range = times_from t times ranges.1;
        legal = λ n l. legal_from t release times run n (entry_at run n) (every_at (entry_legal t release times run) (length run) n l all.1);
      }
