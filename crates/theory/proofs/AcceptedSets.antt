-- The table of an accepted set is well-formed, and its releases and most times have limits. Assumes nothing.
use Prim.Native.Nat.{ℕ, suc, ◌+◌, ◌*◌, ◌≤◌, ◌<◌}
use mathlib.Core.List.{List}
use mathlib.Core.Logic.{inl, inr}
use native.Mathlib.Omega.{arith}
use lib.ListN.{length}
use Rattle.jobs.specs.declared.job.Job.{Job}
use Rattle.jobs.specs.Limits.{max_jobs, max_release, max_time}
use Rattle.jobs.proofs.Accepted.{Follows, Accepted}
use Rattle.jobs.specs.Jobs.{job_at}
use Rattle.theory.specs.Table.{table_of}
use Rattle.theory.proofs.Given.{given}
use Rattle.theory.proofs.WellFormed.{Ordered, WellFormed}
use Rattle.theory.proofs.Releases.{release_range, release_limit, earliest_latest}

follows_le : (i j : Job) → Follows i j → i.chain ≤ j.chain
follows_le i j (inl e) = omega (arith, e.0)
follows_le i j (inr e) = omega (arith, e.0)

module _ (js : List Job) (ok : Accepted js) where
  pub accepted_ordered : Ordered (given js)
  accepted_ordered i l = follows_le (job_at js i) (job_at js (suc i)) (ok.order i l)

  pub accepted_well : WellFormed (table_of js)
  accepted_well =
      record {
        ordered = accepted_ordered;
        positive = λ u l. (ok.limits u l).positive;
        range = λ u l. (ok.limits u l).range;
        releases = λ u l. release_range (given js) u;
      }

  pub accepted_most : (u : ℕ) → u < length js → (table_of js).most u ≤ max_time
  accepted_most u l = (ok.limits u l).time

  pub accepted_latest : (u : ℕ) → u < length js → (table_of js).latest u ≤ max_release + max_jobs * max_time
  accepted_latest u l =
      omega (
        arith,
        earliest_latest js u,
        release_limit (given js) max_release max_time (λ i il. (ok.limits i il).release) (λ i il. omega (arith, (ok.limits i il).range, (ok.limits i il).time)) u l,
        ok.few,
      )
