-- Slacks job by job.
--   slack_at   the slack of the job at a place
--   Slacked   what the loop over the jobs holds at place i
-- Assumes an accepted set.
use Prim.Native.Nat.{ℕ, ◌+◌, ◌≤◌, ◌<◌}
use mathlib.Core.Path.{◌≡◌, ap, ◌∙◌}
use mathlib.Core.List.{List}
use native.Mathlib.Omega.{arith}
use lib.IntN.{ℤ, pos}
use lib.ListN.{length, get_or, set, replicate}
use mir.Syntax.{w64}
use mir.Val.{to_z, of_z}
use Rattle.laws.specs.Words.{tabulate, padded, number_at}
use Rattle.laws.proofs.Lists.{get_d_padded}
use Rattle.laws.proofs.Filling.{filled_none, filled_next}
use Rattle.jobs.specs.declared.job.Job.{Job}
use Rattle.std.specs.Prelude.{Ok}
use Rattle.jobs.specs.Limits.{max_jobs, max_deadline}
use Rattle.jobs.specs.Checks.{check_of}
use Rattle.jobs.specs.Jobs.{job_at}
use Rattle.jobs.proofs.Accepted.{accepted}
use Rattle.theory.specs.Table.{table_of}
use Rattle.theory.specs.Bounds.{bound_limit, itr, slack, slacks}
use Rattle.theory.proofs.Claims.{all_limited}
use Rattle.analysis.proofs.Differences.{difference_kept}

unfoldable pub slack_at : List Job → ℕ → ℤ
slack_at js i = slack (job_at js i).deadline (number_at (itr (table_of js)).bounds i)

pub record Slacked (js : List Job) (i : ℕ) (out : List ℤ) : Type 0 where
  pub inside : i ≤ length js
  pub slacks_are : out ≡ padded max_jobs (pos 0) (tabulate 0 i (slack_at js))

pub slacked_none : (js : List Job) → Slacked js 0 (replicate max_jobs (pos 0))
slacked_none js = record { inside = omega arith; slacks_are = filled_none max_jobs (pos 0) (slack_at js) }

pub slacked_all : (js : List Job) (i : ℕ) (out : List ℤ) → length js ≤ i → Slacked js i out → out ≡ padded max_jobs (pos 0) (slacks js)
unfolding slacks slack_at
slacked_all js i out l h =
    let e : i ≡ length js = omega (arith, h.inside) in
    h.slacks_are ∙ ap (λ (n : ℕ). padded max_jobs (pos 0) (tabulate 0 n (slack_at js))) e

-- the job at a place, and the bounds as they are padded
module _ (js : List Job) (passed : check_of js ≡ Ok tt) (bounds : List ℕ) (e : bounds ≡ padded max_jobs 0 (itr (table_of js)).bounds)
    (i : ℕ) (l : i < length js) (job : Job) (here : job_at js i ≡ job) where
  bound_is : get_or bounds i 0 ≡ number_at (itr (table_of js)).bounds i
  bound_is = ap (λ (b : List ℕ). get_or b i 0) e ∙ get_d_padded max_jobs 0 (itr (table_of js)).bounds i

  pub slack_limits : (job.deadline ≤ max_deadline) × (get_or bounds i 0 ≤ bound_limit)
  slack_limits =
      (omega (arith, ((accepted js passed).limits i l).deadline, ap (λ (j : Job). j.deadline) here), omega (arith, bound_is, (all_limited js passed).by_itr i l))

  -- the slack as it is stored
  pub slacked_next : (out : List ℤ) (z : ℤ) → z ≡ slack job.deadline (get_or bounds i 0) → Slacked js i out → Slacked js (i + 1) (set out i (to_z w64 (of_z w64 z)))
  unfolding slack_at
  slacked_next out z q h =
      let kept = difference_kept job.deadline (get_or bounds i 0) z (omega (arith, slack_limits.0)) slack_limits.1 q in
      record {
        inside = omega arith;
        slacks_are =
            filled_next max_jobs (pos 0) (slack_at js) i out _ (omega (arith, (accepted js passed).few)) h.slacks_are
            (kept ∙ rw (← here, bound_is));
      }
