-- What is proved of the checks; proofs/Claims.antt has the proof of all. Document 02, R-4. Assumes nothing.
use Rattle.std.specs.Prelude.{ℕ, ◌≡◌, ◌↔◌, Bool, cond, ◌&&◌, List, [], ◌∷◌, ◌++◌, leb, ltb, length, Result, Ok, Err, ⊤}
use Rattle.laws.specs.Words.{last_of}
use Rattle.jobs.specs.declared.{job.Job.Job, refusal.Refusal.Refusal}
use Rattle.jobs.specs.{Limits.max_jobs, Limits.max_chains, Limits.max_release, Limits.max_priority, Limits.max_time, Limits.max_deadline, Refusals.number_of, Refusals.unless, Refusals.on_pass, Refusals.and_then}
use Rattle.jobs.specs.{Jobs.no_job, Checks.is_next, Checks.record_check, Checks.any_record, Checks.check_of, Accepted.Accepted}

-- Whether chain number and values are within their limits, and least does not exceed most.
unfoldable pub within_limits : Job → Bool
within_limits j =
    leb j.chain max_chains
    && leb j.release max_release
    && leb j.priority max_priority
    && leb 1 j.least
    && leb j.least j.most
    && leb j.most max_time
    && leb j.deadline max_deadline

-- The check of a record with one number, 6, for all its values.
abbrev pub plain_check : ℕ → Job → Job → Result ⊤ Refusal
plain_check n last j =
    unless (ltb n max_jobs) Refusal.TooManyRecords
    (unless (is_next n last j) Refusal.OutOfOrder
    (unless (within_limits j) Refusal.OutOfLimits
    (Ok tt)))

-- The check of a set by a check of its records: each in turn after those before it, then 7.
unfoldable pub check_by : (ℕ → Job → Job → Result ⊤ Refusal) → List Job → List Job → Result ⊤ Refusal
check_by check before [] = any_record before
check_by check before (j ∷ js) =
    let later = check_by check (before ++ (j ∷ [])) js in
    and_then (check (length before) (last_of no_job before) j) later

-- A check with 12, 13 and 14 read as 6.
abbrev pub as_six : Result ⊤ Refusal → Result ⊤ Refusal
as_six check = on_pass check (λ refusal. Err (cond (leb 12 (number_of refusal) && leb (number_of refusal) 14) Refusal.OutOfLimits refusal)) (Ok tt)

-- One field for each theorem on what is accepted.
pub record Claims : Type 0 where
  -- A set is accepted exactly if its jobs are in order and within their limits.
  pub accepts : (js : List Job) → check_of js ≡ Ok tt ↔ Accepted js
  -- With 12, 13 and 14 read as 6, a record is checked as with one number for all values, be it of a text, of a set or of a joining chain.
  pub record_as_six : (n : ℕ) (last j : Job) → as_six (record_check n last j) ≡ plain_check n last j
  -- So is a set: the same sets are accepted, and all others refused with the same number.
  pub set_as_six : (js : List Job) → as_six (check_of js) ≡ check_by plain_check [] js
