-- The entries of a trace, four numbers each, read as spans: the definitions by which the writer of a dump goes. Assumes nothing.
--   spans_of      the spans of the first entries, the latest first
--   first_place   the place of the job that runs from time 0 on
--   Drawn        what the writer asks of the entries
use Prim.Native.Nat.{ℕ, zero, suc, ◌+◌, ◌*◌, ◌≤◌, ◌<◌}
use mathlib.Core.Path.{◌≡◌}
use mathlib.Core.Bool.{cond}
use mathlib.Core.List.{List, [], ◌∷◌}
use lib.Dec.{eqb}
use lib.ListN.{length}
use Rattle.laws.specs.Words.{number_at}
use Rattle.jobs.specs.declared.job.Job.{Job}
use Rattle.jobs.specs.Limits.{max_jobs}
use Rattle.jobs.specs.Jobs.{place_in}
use Rattle.machine.specs.declared.trace.Span.{Span}
use Rattle.dumps.specs.Dumps.{runs_first, dump_of}
use Rattle.dumps.specs.Claims.{max_waveform}

unfoldable pub span_at : List Job → List ℕ → ℕ → Span
span_at js numbers n =
    record { at = place_in js (number_at numbers (4 * n)) (number_at numbers (4 * n + 1)); from = number_at numbers (4 * n + 2); to = number_at numbers (4 * n + 3) }

unfoldable pub spans_of : List Job → List ℕ → ℕ → List Span
spans_of js numbers zero = []
spans_of js numbers (suc n) = span_at js numbers n ∷ spans_of js numbers n

-- by the earliest span, which stands last; a place that no job has, where it begins later
unfoldable pub first_place : List Span → ℕ
first_place [] = max_jobs
first_place (s ∷ []) = cond (eqb s.from 0) s.at max_jobs
first_place (s ∷ r ∷ rs) = first_place (r ∷ rs)

pub record Drawn (js : List Job) (numbers : List ℕ) (n : ℕ) : Type 0 where
  pub few : length js ≤ max_jobs
  pub room : 4 * n ≤ length numbers
  pub first : (u : ℕ) → u < length js → runs_first (spans_of js numbers n) u ≡ eqb (first_place (spans_of js numbers n)) u
  pub fits : length (dump_of js (spans_of js numbers n)) ≤ max_waveform
