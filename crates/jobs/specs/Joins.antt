-- A further chain joins a set. Document 01, "Admission joins a chain as the highest-numbered one", and the end of the refusals. Assumes nothing.
use Rattle.std.specs.Prelude.{ℕ, ◌+◌, List, [], ◌∷◌, ◌++◌, Result, Ok, Err, ⊤}
use Rattle.laws.specs.Words.{last_of}
use Rattle.jobs.specs.declared.{job.Job.Job, set.JobSet.JobSet}
use Rattle.jobs.specs.{Refusals.on_pass, Refusals.and_then, Jobs.job, Jobs.no_job, Jobs.jobs_of, Jobs.set_of, Checks.records_check, Checks.any_record}
use Rattle.jobs.specs.declared.refusal.Refusal.{Refusal}

-- A job under another chain and job number, with its values as they were.
abbrev pub renumbered : ℕ → ℕ → Job → Job
renumbered c k j = job c k j.release j.priority j.least j.most j.deadline

-- Records as the jobs k, k + 1, … of the chain c.
unfoldable pub numbered : ℕ → ℕ → List Job → List Job
numbered c k [] = []
numbered c k (j ∷ js) = renumbered c k j ∷ numbered c (k + 1) js

-- A set's jobs and, behind them, the new ones as the next chain.
unfoldable pub with_chain : List Job → List Job → List Job
with_chain old new = old ++ numbered ((last_of no_job old).chain + 1) 1 new

-- The checks of the joined records, then 7 where there is no new one.
unfoldable pub join_check : List Job → List Job → Result ⊤ Refusal
join_check old new = and_then (records_check [] (with_chain old new)) (any_record new)

-- The answer to a join: the set of the old jobs with the new chain, or the refusal, after which the caller has the old set as it was.
unfoldable pub join_of : JobSet → JobSet → Result JobSet Refusal
join_of old new = on_pass (join_check (jobs_of old) (jobs_of new)) Err (Ok (set_of (with_chain (jobs_of old) (jobs_of new))))
