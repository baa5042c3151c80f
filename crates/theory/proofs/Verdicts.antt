-- The verdict is yes exactly if each job's bound is at or before its deadline. Assumes nothing.
use Prim.Native.Nat.{ℕ, ◌≤◌, ◌<◌}
use mathlib.Core.Path.{◌≡◌}
use mathlib.Core.Bool.{true}
use mathlib.Core.List.{List}
use lib.ListN.{length}
use borrow.Author.Tests.{leb-true, le-leb}
use Rattle.laws.specs.Words.{number_at}
use Rattle.laws.proofs.Every.{every_at, every_all}
use Rattle.jobs.specs.declared.job.Job.{Job}
use Rattle.jobs.specs.Jobs.{job_at}
use Rattle.theory.specs.Bounds.{meets}

module _ (js : List Job) (bounds : List ℕ) where
  pub meets_at : meets js bounds ≡ true → (i : ℕ) → i < length js → number_at bounds i ≤ (job_at js i).deadline
  unfolding meets
  meets_at e i l = leb-true _ _ (every_at _ (length js) i l e)

  pub meets_by : ((i : ℕ) → i < length js → number_at bounds i ≤ (job_at js i).deadline) → meets js bounds ≡ true
  unfolding meets
  meets_by h = every_all _ (length js) (λ i l. le-leb _ _ (h i l))
