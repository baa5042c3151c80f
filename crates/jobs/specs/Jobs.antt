-- Jobs and the sets that hold them. Document 01, "A job table", and "A form for each place". Assumes nothing.
use Rattle.std.specs.Prelude.{ℕ, Bool, ◌&&◌, List, map, eqb, length, get_or}
use Rattle.laws.specs.Words.{first_below, last_of, tabulate, padded}
use Rattle.jobs.specs.{declared.job.Job.Job, declared.set.JobSet.JobSet, Limits.max_jobs}

-- A job by its numbers and values, in the order of a table's columns.
abbrev pub job : ℕ → ℕ → ℕ → ℕ → ℕ → ℕ → ℕ → Job
job c k r p l m d = record { chain = c; job = k; release = r; priority = p; least = l; most = m; deadline = d }

-- What stands in a set where there is no job.
abbrev pub no_job : Job
no_job = job 0 0 0 0 0 0 0

-- The job at a place, and no job beyond the last.
abbrev pub job_at : List Job → ℕ → Job
job_at js i = get_or js i no_job

-- Whether a job has these numbers.
abbrev pub is_job : Job → ℕ → ℕ → Bool
is_job j chain number = eqb j.chain chain && eqb j.job number

-- The place of the job with these numbers, and the number of jobs where there is none.
unfoldable pub place_in : List Job → ℕ → ℕ → ℕ
place_in js chain number = first_below (length js) (λ i. is_job (job_at js i) chain number)

-- How many chains jobs in order have: the number of the last one's.
unfoldable pub chains_of : List Job → ℕ
chains_of js = (last_of no_job js).chain

-- The most time of each job, in table order.
unfoldable pub most_times : List Job → List ℕ
most_times js = map (λ (j : Job). j.most) js

-- How urgent a job is: its priority; a greater number is more urgent.
unfoldable pub urgency_of : Job → ℕ
urgency_of j = j.priority

-- A set's records, as many as it counts; one handed by value may count more than it has places, and those hold no job.
unfoldable pub jobs_of : JobSet → List Job
jobs_of set = tabulate 0 set.count (λ i. job_at set.jobs i)

-- The set that holds these jobs, and no job in its other places.
unfoldable pub set_of : List Job → JobSet
set_of js = record { jobs = padded max_jobs no_job js; count = length js }
