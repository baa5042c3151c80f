-- The entries of a trace as the code reads them: one as a span, the first that begins at time 0, and one more. Assumes nothing.
use Prim.Native.Nat.{ℕ, zero, suc, ◌+◌, ◌*◌, ◌≤◌}
use mathlib.Core.Path.{◌≡◌, refl, sym, ◌∙◌}
use mathlib.Core.Bool.{cond}
use mathlib.Core.Logic.{◌≢◌}
use mathlib.Core.List.{List}
use native.Mathlib.Omega.{arith}
use native.Mathlib.Numerals.{add-one}
use lib.Dec.{eqb}
use lib.ListN.{length, take}
use lib.Seq.{take_all}
use borrow.Author.Tests.{eq-eqb, ne_eqb}
use Rattle.laws.specs.Words.{number_at}
use Rattle.laws.proofs.First.{first_within}
use Rattle.jobs.specs.declared.job.Job.{Job}
use Rattle.jobs.specs.declared.set.JobSet.{JobSet}
use Rattle.jobs.specs.Limits.{max_jobs}
use Rattle.jobs.specs.Jobs.{jobs_of, place_in}
use Rattle.jobs.proofs.Sets.{length_jobs}
use Rattle.machine.specs.declared.trace.Span.{Span}
use Rattle.dumps.specs.Dumps.{last_change}
use Rattle.dumps.proofs.Entries.{span_at, spans_of, first_place}

place-within : (js : List Job) (chain number : ℕ) → place_in js chain number ≤ length js
unfolding place_in
place-within js chain number = first_within _ (length js)

-- the place of entry n's job
abbrev place_at : List Job → List ℕ → ℕ → ℕ
place_at js numbers n = place_in js (number_at numbers (4 * n)) (number_at numbers (4 * n + 1))

-- the search answers it
module _ (s : JobSet) (few : s.count ≤ max_jobs) (numbers : List ℕ) (n place : ℕ) (is : place ≡ place_at (take max_jobs (jobs_of s)) numbers n) where
  place_is : place ≡ place_at (jobs_of s) numbers n
  place_is = rw (← take_all max_jobs (jobs_of s) (omega (arith, length_jobs s))) is

  pub span_read : record { at = place; from = number_at numbers (4 * n + 2); to = number_at numbers (4 * n + 3) } ≡ span_at (jobs_of s) numbers n
  unfolding span_at
  span_read = rw place_is

  pub span_place : place ≤ max_jobs
  span_place = omega (arith, place_is, place-within (jobs_of s) (number_at numbers (4 * n)) (number_at numbers (4 * n + 1)), length_jobs s)

-- ---- the place of the job that runs from time 0 on
module _ (js : List Job) (numbers : List ℕ) where
  pub first_none : (n : ℕ) → n ≡ 0 → max_jobs ≡ first_place (spans_of js numbers n)
  unfolding spans_of first_place
  first_none n e = rw e

  first_from : (n : ℕ) → first_place (spans_of js numbers (suc n)) ≡ cond (eqb (span_at js numbers 0).from 0) (span_at js numbers 0).at max_jobs
  unfolding spans_of first_place
  first_from zero = refl
  first_from (suc n) = first_from n

  module _ (s : Span) (is : s ≡ span_at js numbers 0) where
    first_is : (n : ℕ) → n ≢ 0 → cond (eqb s.from 0) s.at max_jobs ≡ first_place (spans_of js numbers n)
    first_is zero ne = absurd (ne refl)
    first_is (suc n) ne = rw is (sym (first_from n))

    pub first_zero : (n : ℕ) → n ≢ 0 → s.from ≡ 0 → s.at ≡ first_place (spans_of js numbers n)
    first_zero n ne z = sym (rw (eq-eqb s.from 0 z)) ∙ first_is n ne

    pub first_later : (n : ℕ) → n ≢ 0 → s.from ≢ 0 → max_jobs ≡ first_place (spans_of js numbers n)
    first_later n ne z = sym (rw (ne_eqb s.from 0 z)) ∙ first_is n ne

-- ---- one entry more
pub last_none : (js : List Job) (numbers : List ℕ) → 0 ≡ last_change (spans_of js numbers 0)
unfolding spans_of
last_none js numbers = refl

pub last-next : (js : List Job) (numbers : List ℕ) (n : ℕ) (s : Span) → s ≡ span_at js numbers n → s.to ≡ last_change (spans_of js numbers (n + 1))
unfolding spans_of
last-next js numbers n s is = rw (add-one n, is)
