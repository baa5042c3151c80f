-- How many chains jobs have that are in order: as many as the number of the last one's, and no more than the limit. Assumes nothing.
use Prim.Native.Nat.{◌-◌, ◌≤◌}
use mathlib.Core.List.{List}
use mathlib.Core.Path.{◌≡◌, sym, ap, subst}
use native.Mathlib.Omega.{arith}
use lib.ListN.{length, take}
use Rattle.laws.specs.Words.{last_of}
use Rattle.jobs.specs.declared.job.Job.{Job}
use Rattle.jobs.specs.Limits.{max_jobs, max_chains}
use Rattle.jobs.specs.Jobs.{no_job, chains_of}
use Rattle.jobs.proofs.Accepted.{Accepted}
use Rattle.jobs.proofs.Joins.{last_at, last-held}

pub chains-within : (js : List Job) → Accepted js → chains_of js ≤ max_chains
unfolding chains_of
chains-within js ok =
    subst (λ (j : Job). j.chain ≤ max_chains) (sym (last_at js ok.some)) (ok.limits (length js - 1) (omega (arith, ok.some))).chains

pub chains_are : (js : List Job) (last : Job) → last ≡ last_of no_job (take max_jobs js) → length js ≤ max_jobs → last.chain ≡ chains_of js
unfolding chains_of
chains_are js last e h = ap (λ (j : Job). j.chain) (last-held js last e h)
