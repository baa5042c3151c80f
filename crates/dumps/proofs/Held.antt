-- A row of a job holds a time exactly where the spans' entry at that time names the job: no two spans hold the same time, and no two jobs have the same
-- numbers. Assumes nothing.
use Rattle.std.specs.Prelude.{Some}
use Prim.Native.Nat.{ℕ, ◌≤◌, ◌<◌}
use mathlib.Core.Path.{◌≡◌, refl, sym, ◌∙◌}
use mathlib.Core.Bool.{Bool, ◌&&◌, ◌||◌, and-true, and-false, and_assoc, or-false, or_assoc}
use mathlib.Core.List.{List, [], ◌∷◌, ◌++◌, append_assoc}
use native.Mathlib.Omega.{arith}
use lib.Dec.{leb, ltb, eqb}
use lib.ListN.{length}
use borrow.Author.Tests.{leb-true, le-ltb}
use Rattle.laws.proofs.Tests.{by_test, and_left}
use Rattle.jobs.specs.declared.job.Job.{Job}
use Rattle.jobs.specs.Jobs.{job_at, is_job}
use Rattle.jobs.proofs.Accepted.{Accepted}
use Rattle.jobs.proofs.Places.{is_job_lem}
use Rattle.theory.specs.Runs.{idle, names}
use Rattle.machine.specs.declared.trace.Span.{Span}
use Rattle.machine.specs.Runs.{row, rows}
use Rattle.machine.specs.Claims.{span_entry}
use Rattle.machine.proofs.SpanOrder.{Ordered, Within}
use Rattle.dumps.specs.Dumps.{last_change}
use Rattle.dumps.specs.Readers.{rows_in, held, is_high}
use Rattle.dumps.proofs.Changes.{last-before}

-- a dump shows what its rows hold
pub high_held : (text : List ℕ) {found : List ℕ} → rows_in text ≡ Some found → (chain number t : ℕ) → is_high text chain number t ≡ held found chain number t
high_held text e chain number t = rw (e, is_high)

-- ---- rows one after another
module _ (js : List Job) (chain number t : ℕ) where
  -- whether the row of a span holds the time
  abbrev holds : Span → Bool
  holds s = is_job (job_at js s.at) chain number && leb s.from t && ltb t s.to

  held-append : (ss : List Span) (more : List ℕ) → held (rows js ss ++ more) chain number t ≡ held (rows js ss) chain number t || held more chain number t
  unfolding rows held
  held-append [] more = refl
  held-append (s ∷ ss) more =
      rw (append_assoc (rows js ss) (row js s) more, held-append ss (row js s ++ more), held-append ss (row js s), or-false (holds s))
      (sym (or_assoc (held (rows js ss) chain number t) (holds s) (held more chain number t)))

-- ---- a time after all spans
after_all : (t : ℕ) (ss : List Span) → Ordered ss → last_change ss ≤ t → span_entry ss t ≡ idle
unfolding span_entry
after_all t [] o l = refl
after_all t (s ∷ ss) o l = rw (le-ltb t s.to l, and-false (leb s.from t)) (after_all t ss o.2 (omega (arith, last-before s ss o, o.0)))

-- ---- the job at a place
module _ (js : List Job) (ok : Accepted js) (u t : ℕ) (l : u < length js) where
  -- a row of this job holds the time
  abbrev is_held : List Span → Bool
  is_held ss = held (rows js ss) (job_at js u).chain (job_at js u).job t

  held_cons : (s : Span) (ss : List Span) → s.at < length js → is_held (s ∷ ss) ≡ is_held ss || (eqb s.at u && (leb s.from t && ltb t s.to))
  unfolding rows held
  held_cons s ss inside =
      held-append js (job_at js u).chain (job_at js u).job t ss (row js s)
      ∙ rw (is_job_lem js ok u s.at l inside, or-false (eqb s.at u && leb s.from t && ltb t s.to), and_assoc (eqb s.at u) (leb s.from t) (ltb t s.to))

  pub held-names : (ss : List Span) → Ordered ss → Within (length js) ss → is_held ss ≡ names (span_entry ss t) u
  unfolding span_entry names rows held
  held-names [] o w = refl
  held-names (s ∷ ss) o w =
      held_cons s ss w.0
      ∙ rw (held-names ss o.2 w.1)
      (by_test (leb s.from t && ltb t s.to)
      (λ q.
      let from : s.from ≤ t = leb-true s.from t (and_left (leb s.from t) (ltb t s.to) q) in
      rw (q, after_all t ss o.2 (omega (arith, last-before s ss o)), and-true (eqb s.at u)))
      (λ q. rw (q, and-false (eqb s.at u), or-false (names (span_entry ss t) u))))
