-- The checks of a record, and of a set. Document 01, numbers 4 to 7 and what follows them; document 02, R-4. Assumes nothing.
use Rattle.std.specs.Prelude.{ℕ, ◌+◌, Bool, cond, ◌&&◌, List, [], ◌∷◌, ◌++◌, leb, ltb, eqb, length, Result, Ok, Err, ⊤}
use Rattle.laws.specs.Words.{last_of}
use Rattle.jobs.specs.declared.{job.Job.Job, refusal.Refusal.Refusal}
use Rattle.jobs.specs.{Limits.max_jobs, Limits.max_chains, Limits.max_release, Limits.max_priority, Limits.max_time, Limits.max_deadline, Refusals.unless, Refusals.and_then, Jobs.no_job}

-- Whether chain and job come next in order, each counted from 1; n records come before this one, the last of which is `last`.
unfoldable pub is_next : ℕ → Job → Job → Bool
is_next n last j =
    cond (eqb n 0) (eqb j.chain 1 && eqb j.job 1)
    (cond (eqb j.chain last.chain) (eqb j.job (last.job + 1))
    (eqb j.chain (last.chain + 1) && eqb j.job 1))

-- Whether chain number, release and deadline are within their limits.
unfoldable pub in_limits : Job → Bool
in_limits j = leb j.chain max_chains && leb j.release max_release && leb j.deadline max_deadline

-- Whether least and most are each from 1 to the greatest running time.
abbrev pub times_in_limits : Job → Bool
times_in_limits j = leb 1 j.least && leb j.least max_time && leb 1 j.most && leb j.most max_time

-- 6, then 12 to 14, for the values of one record.
abbrev pub values_check : Job → Result ⊤ Refusal
values_check j =
    unless (in_limits j) Refusal.OutOfLimits
    (unless (leb j.priority max_priority) Refusal.PriorityOutOfLimits
    (unless (times_in_limits j) Refusal.LeastOrMostOutOfLimits
    (unless (leb j.least j.most) Refusal.LeastAboveMost
    (Ok tt))))

-- 4 and 5 for one record, then its values.
unfoldable pub record_check : ℕ → Job → Job → Result ⊤ Refusal
record_check n last j =
    unless (ltb n max_jobs) Refusal.TooManyRecords
    (unless (is_next n last j) Refusal.OutOfOrder
    (values_check j))

-- The check of each record in turn, after the records that come before; the first bad one decides.
unfoldable pub records_check : List Job → List Job → Result ⊤ Refusal
records_check before [] = Ok tt
records_check before (j ∷ js) =
    let later = records_check (before ++ (j ∷ [])) js in
    and_then (record_check (length before) (last_of no_job before) j) later

-- 7, where there is no record.
abbrev pub any_record : List Job → Result ⊤ Refusal
any_record [] = Err Refusal.NoRecord
any_record (j ∷ js) = Ok tt

-- The whole check: a set is accepted where this passes.
unfoldable pub check_of : List Job → Result ⊤ Refusal
check_of js = and_then (records_check [] js) (any_record js)
