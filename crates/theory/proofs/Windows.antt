-- The window of a job that is late: from the release of the job that its chain has been waiting from, up to the time at which it is late. All that
-- time the core is busy, with jobs at least as urgent as the least urgent one that waits.
--   Critical   the job that j's chain has been waiting from
--   Busy       the job that runs at n, at least as urgent as the target
--   Window     a job that is not complete at a bound, and its critical job
--   work_in     the work of a job from a to b
--   Ran        a job that runs in the window
-- Assumes a well-formed table.
use Prim.Native.Nat.{ℕ, zero, suc, ◌+◌, ◌-◌, ◌≤◌, ◌<◌}
use mathlib.Core.Path.{◌≡◌, refl, sym, ap, ◌∙◌}
use mathlib.Core.List.{List}
use native.Mathlib.Omega.{arith}
use native.Mathlib.Nat.{add-zero, add-suc}
use lib.ListN.{length}
use Rattle.laws.specs.Words.{sum_below, number_at}
use Rattle.laws.proofs.Tests.{by_order, by_equal, by_last}
use Rattle.laws.proofs.Sums.{sum_zero, sum_bump}
use Rattle.theory.specs.Table.{Table}
use Rattle.theory.specs.Bounds.{lowest}
use Rattle.theory.specs.Runs.{Entry, idle, runs, work}
use Rattle.theory.proofs.Legal.{entry_at, Complete, PredecessorComplete, Ready, LegalEntry, Run}
use Rattle.theory.proofs.WellFormed.{WellFormed}
use Rattle.theory.proofs.Rules.{lowest_le}
use Rattle.theory.proofs.Work.{same-job, ran, work_here, work_away, work_mono, complete_stays}

unfoldable pub work_in : List Entry → ℕ → ℕ → ℕ → ℕ
work_in run a b u = work run b u - work run a u

-- It is first in its chain or its predecessor is complete at its release, and of the later ones up to j none is so.
pub record Critical (t : Table) (release : ℕ → ℕ) (times : List ℕ) (run : List Entry) (j : ℕ) : Type 0 where
  pub job : ℕ
  pub below : job ≤ j
  pub same : t.chain job ≡ t.chain j
  pub free : PredecessorComplete t times run job (release job)
  pub held : (m : ℕ) → job ≤ m → m < j → Complete times run m (release (suc m)) → ⊥

pub record Busy (t : Table) (release : ℕ → ℕ) (times : List ℕ) (run : List Entry) (target n : ℕ) : Type 0 where
  pub job : ℕ
  pub entry : entry_at run n ≡ runs job
  pub inside : job < t.count
  pub ready : Ready t release times run job n
  pub urgent : target ≤ t.urgency job

-- A job that is not complete at a bound within the run, with its critical job.
pub record Window (t : Table) (release : ℕ → ℕ) (times : List ℕ) (run : List Entry) (j bound : ℕ) : Type 0 where
  pub inside : j < t.count
  pub long : bound ≤ length run
  pub late : Complete times run j bound → ⊥
  pub from : Critical t release times run j

pub record Ran (t : Table) (release : ℕ → ℕ) (times : List ℕ) (run : List Entry) (target from to u : ℕ) : Type 0 where
  pub at : ℕ
  pub after : from ≤ at
  pub before : at < to
  pub entry : entry_at run at ≡ runs u
  pub ready : Ready t release times run u at
  pub urgent : target ≤ t.urgency u

module _ {t : Table} (well : WellFormed t) {release : ℕ → ℕ} {times : List ℕ} {run : List Entry} (is : Run t release times run) where
  critical_here : (j : ℕ) → PredecessorComplete t times run j (release j) → Critical t release times run j
  critical_here j h = record { job = j; below = omega arith; same = refl; free = h; held = λ m a b c. omega arith }

  pub critical : (j : ℕ) → Critical t release times run j
  critical zero = critical_here 0 tt
  critical (suc i) =
      by_equal (t.chain i) (t.chain (suc i))
      (λ e.
      by_equal (work run (release (suc i)) i) (number_at times i)
      (λ done. critical_here (suc i) (λ q. done))
      (λ late.
      let z = critical i in
      record {
        job = z.job;
        below = omega (arith, z.below);
        same = z.same ∙ e;
        free = z.free;
        held = λ m a b. by_last m i b (λ q. rw q late) (λ l. z.held m a l);
      }))
      (λ ne. critical_here (suc i) (λ q. absurd (ne q)))

  -- at each tick from the critical job's release on, until j is complete, some job from the critical one to j is ready
  record Waiting (k j n : ℕ) : Type 0 where
    job : ℕ
    from : k ≤ job
    to : job ≤ j
    ready : Ready t release times run job n

  waiting : (j : ℕ) (z : Critical t release times run j) (n : ℕ) → (Complete times run j n → ⊥) → (d i : ℕ) → i + d ≡ j → z.job ≤ i → release i ≤ n
      → PredecessorComplete t times run i n → Waiting z.job j n
  waiting j z n late zero i e ki ri b =
      let q : i ≡ j = omega arith in
      record { job = i; from = ki; to = omega arith; ready = record { released = ri; unfinished = rw q late; predecessor = b } }
  waiting j z n late (suc d) i e ki ri b =
      by_equal (work run n i) (number_at times i)
      (λ done.
      by_order (release (suc i)) n
      (λ l. waiting j z n late d (suc i) (omega arith) (omega arith) l (λ q. done))
      (λ l. absurd (z.held i ki (omega arith) (complete_stays well is i n (release (suc i)) (omega arith) done))))
      (λ more. record { job = i; from = ki; to = omega arith; ready = record { released = ri; unfinished = more; predecessor = b } })

  busy_by : (target n v : ℕ) → v < t.count → target ≤ t.urgency v → Ready t release times run v n → (e : Entry) → entry_at run n ≡ e
      → LegalEntry t release times run n e → Busy t release times run target n
  busy_by target n v vl pv h idle q l = absurd (l v vl h)
  busy_by target n v vl pv h (runs u) q l =
      let above : t.urgency v ≤ t.urgency u = l.2 v vl h in
      record { job = u; entry = q; inside = l.0; ready = l.1; urgent = omega (arith, above) }

  free_stays : (i n : ℕ) → release i ≤ n → PredecessorComplete t times run i (release i) → PredecessorComplete t times run i n
  free_stays zero n l b = tt
  free_stays (suc i) n l b = λ q. complete_stays well is i (release (suc i)) n l (b q)

  module _ {j bound : ℕ} (window : Window t release times run j bound) where
    pub late_before : (n : ℕ) → n ≤ bound → Complete times run j n → ⊥
    late_before n l c = window.late (complete_stays well is j n bound l c)

    pub busy : (n : ℕ) → release window.from.job ≤ n → n < bound → Busy t release times run (lowest t window.from.job j) n
    busy n a b =
        let k : ℕ = window.from.job in
        let free : PredecessorComplete t times run k n = free_stays k n a window.from.free in
        let w = waiting j window.from n (late_before n (omega arith)) (j - k) k (omega (arith, window.from.below)) (omega arith) a free in
        let inside : w.job < t.count = omega (arith, w.to, window.inside) in
        let urgent : lowest t k j ≤ t.urgency w.job = lowest_le t k j w.job w.from w.to in
        busy_by (lowest t k j) n w.job inside urgent w.ready (entry_at run n) refl (is.legal n (omega (arith, window.long)))

    -- so the jobs' work in the window makes up all its ticks
    pub ticks : (d : ℕ) → release window.from.job + d ≤ bound
        → sum_below t.count (work_in run (release window.from.job) (release window.from.job + d)) ≡ d
    unfolding work_in
    ticks zero l =
        sum_zero
        t.count
        (work_in run (release window.from.job) (release window.from.job + 0))
        (λ u ul. omega (arith, ap (λ (n : ℕ). work run n u) (add-zero (release window.from.job))))
    ticks (suc d) l =
        let s : ℕ = release window.from.job in
        let b = busy (s + d) (omega arith) (omega arith) in
        let e : s + suc d ≡ suc (s + d) = add-suc s d in
        omega (
          arith,
          ticks d (omega arith),
          sum_bump
              t.count
              (work_in run s (s + d))
              (work_in run s (s + suc d))
              b.job
              1
              b.inside
              (rw e (omega (arith, work_here run b.job (s + d) b.entry, work_mono run b.job s (s + d) (omega arith))))
              (λ v vl ne. rw e (omega (arith, work_away run b.job v (s + d) b.entry (λ q. ne (sym q))))),
        )

    pub ran_in : (u : ℕ) → 0 < work_in run (release window.from.job) bound u
        → Ran t release times run (lowest t window.from.job j) (release window.from.job) bound u
    ran_in u h =
        let w = ran run u (release window.from.job) bound (unfold work_in in omega arith) in
        let b = busy w.at w.from w.to in
        let e : b.job ≡ u = same-job b.entry w.entry in
        record {
          at = w.at;
          after = w.from;
          before = w.to;
          entry = w.entry;
          ready = rw e at b.ready;
          urgent = omega (arith, b.urgent, ap t.urgency e);
        }
