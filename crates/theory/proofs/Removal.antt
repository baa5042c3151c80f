-- A chain taken off a list of jobs by its number: later chains move down by one, and what stays is a part of the table.
--   moved_down      a job of a later chain, one number down
--   without_chain   the jobs of the other chains, renumbered
--   old_number      the number that a chain had
--   old_place       the place that a kept job had
--   LeastUrgent    each job of chain c is strictly less urgent than each job of the other chains
-- Assumes that the chains come in order, where it is said.
use Prim.Native.Nat.{ℕ, zero, suc, ◌-◌, ◌≤◌, ◌<◌}
use mathlib.Core.Path.{◌≡◌, sym, ap, ◌∙◌}
use mathlib.Core.Logic.{◌≢◌}
use mathlib.Core.Bool.{true, false, cond}
use mathlib.Core.List.{List, [], ◌∷◌}
use native.Mathlib.Omega.{arith}
use lib.Dec.{ltb, eqb}
use lib.ListN.{length}
use borrow.Author.Tests.{lt-ltb, le-ltb, eqb-false, ne_eqb}
use Rattle.laws.proofs.Tests.{by_test, by_order, by_equal}
use Rattle.jobs.specs.declared.job.Job.{Job}
use Rattle.jobs.specs.Jobs.{job_at, urgency_of}
use Rattle.jobs.specs.Joins.{renumbered}
use Rattle.theory.specs.Table.{latest_of, table_of}
use Rattle.theory.proofs.Given.{given}
use Rattle.theory.specs.Claims.{Part, LessUrgent, Compared}
use Rattle.theory.proofs.WellFormed.{Ordered}
use Rattle.theory.proofs.Releases.{effective_part}
use Rattle.theory.proofs.PartBounds.{part_no_later}
use Rattle.theory.proofs.LeastUrgent.{part_unmoved}

abbrev pub moved_down : ℕ → Job → Job
moved_down c j = renumbered (cond (ltb j.chain c) j.chain (j.chain - 1)) j.job j

unfoldable pub without_chain : ℕ → List Job → List Job
without_chain c [] = []
without_chain c (j ∷ js) = let rest = without_chain c js in cond (eqb j.chain c) rest (moved_down c j ∷ rest)

unfoldable pub old_number : ℕ → ℕ → ℕ
old_number c x = cond (ltb x c) x (suc x)

unfoldable pub old_place : ℕ → List Job → ℕ → ℕ
old_place c [] i = 0
old_place c (j ∷ js) zero = cond (eqb j.chain c) (suc (old_place c js 0)) 0
old_place c (j ∷ js) (suc i) = suc (cond (eqb j.chain c) (old_place c js (suc i)) (old_place c js i))

abbrev pub LeastUrgent : ℕ → List Job → Type 0
LeastUrgent c js = (u v : ℕ) → u < length js → v < length js → (job_at js u).chain ≡ c → (job_at js v).chain ≢ c → (given js).urgency u < (given js).urgency v

module _ (c : ℕ) where
  -- ---- numbers
  number_low : (x : ℕ) → x < c → old_number c x ≡ x
  unfolding old_number
  number_low x l = rw (lt-ltb x c l)

  number_high : (x : ℕ) → c ≤ x → old_number c x ≡ suc x
  unfolding old_number
  number_high x l = rw (le-ltb x c l)

  number_rises : (x : ℕ) → old_number c x < old_number c (suc x)
  number_rises x =
      by_order c x
      (λ l. omega (arith, number_high x l, number_high (suc x) (omega arith)))
      (λ l.
      by_order c (suc x)
      (λ m. omega (arith, number_low x l, number_high (suc x) m))
      (λ m. omega (arith, number_low x l, number_low (suc x) m)))

  number_other : (x : ℕ) → old_number c x ≢ c
  number_other x e = by_order c x (λ l. omega (arith, number_high x l)) (λ l. omega (arith, number_low x l))

  number_back : (j : Job) → j.chain ≢ c → j.chain ≡ old_number c (moved_down c j).chain
  number_back j ne =
      by_order c j.chain
      (λ l. rw (le-ltb j.chain c l) (omega (arith, number_high (j.chain - 1) (omega arith))))
      (λ l. rw (lt-ltb j.chain c l) (sym (number_low j.chain l)))

  -- ---- the steps of the two lists
  module _ (j : Job) (js : List Job) (e : eqb j.chain c ≡ true) where
    jobs_off : without_chain c (j ∷ js) ≡ without_chain c js
    unfolding without_chain
    jobs_off = rw e

    place_off : (i : ℕ) → old_place c (j ∷ js) i ≡ suc (old_place c js i)
    unfolding old_place
    place_off zero = rw e
    place_off (suc i) = rw e

  module _ (j : Job) (js : List Job) (e : eqb j.chain c ≡ false) where
    jobs_on : without_chain c (j ∷ js) ≡ moved_down c j ∷ without_chain c js
    unfolding without_chain
    jobs_on = rw e

    place-zero : old_place c (j ∷ js) 0 ≡ 0
    unfolding old_place
    place-zero = rw e

    place-suc : (i : ℕ) → old_place c (j ∷ js) (suc i) ≡ suc (old_place c js i)
    unfolding old_place
    place-suc i = rw e

  -- ---- the kept job at i is the old one at its place
  record Kept (js : List Job) (i : ℕ) : Type 0 where
    inside : old_place c js i < length js
    same : job_at (without_chain c js) i ≡ moved_down c (job_at js (old_place c js i))
    other : (job_at js (old_place c js i)).chain ≢ c

  kept_off : (j : Job) (js : List Job) (i : ℕ) → eqb j.chain c ≡ true → Kept js i → Kept (j ∷ js) i
  kept_off j js i e h =
      record {
        inside = rw (place_off j js e i) (omega (arith, h.inside));
        same = rw (jobs_off j js e, place_off j js e i) h.same;
        other = rw (place_off j js e i) h.other;
      }

  kept_on : (j : Job) (js : List Job) (i : ℕ) → eqb j.chain c ≡ false → ((k : ℕ) → k < length (without_chain c js) → Kept js k)
      → i < length (moved_down c j ∷ without_chain c js) → Kept (j ∷ js) i
  kept_on j js zero e later l =
      record {
        inside = rw (place-zero j js e) (omega arith);
        same = rw (jobs_on j js e, place-zero j js e);
        other = rw (place-zero j js e) (eqb-false j.chain c e);
      }
  kept_on j js (suc i) e later l =
      let h = later i (omega arith) in
      record {
        inside = rw (place-suc j js e i) (omega (arith, h.inside));
        same = rw (jobs_on j js e, place-suc j js e i) h.same;
        other = rw (place-suc j js e i) h.other;
      }

  kept : (js : List Job) (i : ℕ) → i < length (without_chain c js) → Kept js i
  kept [] i l = absurd (unfold without_chain in omega arith)
  kept (j ∷ js) i l =
      by_test (eqb j.chain c)
      (λ e. kept_off j js i e (kept js i (rw (jobs_off j js e) at l)))
      (λ e. kept_on j js i e (kept js) (rw (jobs_on j js e) at l))

  place_rises_on : (j : Job) (js : List Job) (i : ℕ) → eqb j.chain c ≡ false
      → ((k : ℕ) → suc k < length (without_chain c js) → old_place c js k < old_place c js (suc k)) → suc i < length (moved_down c j ∷ without_chain c js)
      → old_place c (j ∷ js) i < old_place c (j ∷ js) (suc i)
  place_rises_on j js zero e later l = rw (place-zero j js e, place-suc j js e 0) (omega arith)
  place_rises_on j js (suc i) e later l = rw (place-suc j js e i, place-suc j js e (suc i)) (omega (arith, later i (omega arith)))

  place_rises : (js : List Job) (i : ℕ) → suc i < length (without_chain c js) → old_place c js i < old_place c js (suc i)
  place_rises [] i l = absurd (unfold without_chain in omega arith)
  place_rises (j ∷ js) i l =
      by_test (eqb j.chain c)
      (λ e. rw (place_off j js e i, place_off j js e (suc i)) (omega (arith, place_rises js i (rw (jobs_off j js e) at l))))
      (λ e. place_rises_on j js i e (place_rises js) (rw (jobs_on j js e) at l))

  -- a job of another chain is kept
  none_lost : (js : List Job) (u : ℕ) → u < length js → (job_at js u).chain ≢ c → ((i : ℕ) → i < length (without_chain c js) → old_place c js i ≢ u) → ⊥
  none_lost [] u l ne left = omega arith
  none_lost (j ∷ js) zero l ne left =
      let e : eqb j.chain c ≡ false = ne_eqb j.chain c ne in
      left 0 (rw (jobs_on j js e) (omega arith)) (place-zero j js e)
  none_lost (j ∷ js) (suc u) l ne left =
      by_test (eqb j.chain c)
      (λ e. none_lost js u (omega arith) ne (λ i il z. left i (rw (jobs_off j js e) il) (place_off j js e i ∙ ap suc z)))
      (λ e. none_lost js u (omega arith) ne (λ i il z. left (suc i) (rw (jobs_on j js e) (omega arith)) (place-suc j js e i ∙ ap suc z)))

  given_part : (js : List Job) → Part (given (without_chain c js)) (given js) (old_place c js) (old_number c)
  unfolding urgency_of
  given_part js =
      let same : (f : Job → ℕ) (i : ℕ) → i < length (without_chain c js) → f (moved_down c (job_at js (old_place c js i))) ≡ f (job_at (without_chain c js) i)
      = (λ f i l. ap f (sym (kept js i l).same)) in
      record {
        inside = λ i l. (kept js i l).inside;
        rises = place_rises js;
        upwards = number_rises;
        chain = λ i l. number_back (job_at js (old_place c js i)) (kept js i l).other ∙ ap (old_number c) (same (λ j. j.chain) i l);
        urgency = same urgency_of;
        least = same (λ j. j.least);
        most = same (λ j. j.most);
        earliest = same (λ j. j.release);
        latest = same latest_of;
        whole = λ u x l e left. none_lost js u l (λ z. number_other x (sym e ∙ z)) left;
      }

  pub removal_part : (js : List Job) → Ordered (given js) → Part (table_of (without_chain c js)) (table_of js) (old_place c js) (old_number c)
  removal_part js o = effective_part (given_part js) o

  -- ---- what stays has no later bound, and the same bounds where the chain is the least urgent
  pub removal_no_later : (js : List Job) → Ordered (given js) → Compared ◌≤◌ (table_of (without_chain c js)) (table_of js) (old_place c js)
  removal_no_later js o = part_no_later (removal_part js o) o

  removal_less : (js : List Job) → LeastUrgent c js → LessUrgent (table_of (without_chain c js)) (table_of js) (old_place c js)
  removal_less js low u i ul left il =
      by_equal (job_at js u).chain c
      (λ e.
      let h = kept js i il in
      omega (arith, low u (old_place c js i) ul h.inside e h.other, (given_part js).urgency i il))
      (λ ne. absurd (none_lost js u ul ne left))

  pub removal_unmoved : (js : List Job) → Ordered (given js) → LeastUrgent c js
      → Compared ◌≡◌ (table_of (without_chain c js)) (table_of js) (old_place c js)
  removal_unmoved js o low = part_unmoved (removal_part js o) o (removal_less js low)
