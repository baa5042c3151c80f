-- Sets, states and delays as numbers in lent memory. Assumes nothing.
--   job_numbers, numbers_of     the numbers of a job, and of jobs one after another
--   job_in, set_in, held_set     the job at a place, the first jobs and all jobs in numbers
--   state_numbers              the numbers of a state
--   column_in, state_in         a number for each place of a set, and the state that numbers start with
--   delay_numbers              the numbers of what delays one job; delays_numbers of each job
--   room_check, put_check       number 9 where memory is too short
use Rattle.std.specs.Prelude.{ℕ, ◌+◌, ◌-◌, ◌*◌, ◌/◌, min, List, [], ◌∷◌, ◌++◌, leb, length, take, drop, Result, Ok, ⊤}
use Rattle.laws.specs.Words.{number_at, tabulate, padded, patched}
use Rattle.jobs.specs.declared.{job.Job.Job, set.JobSet.JobSet, refusal.Refusal.Refusal}
use Rattle.jobs.specs.{Limits.max_jobs, Refusals.unless, Refusals.on_pass, Jobs.job, Jobs.no_job}
use Rattle.machine.specs.declared.state.State.{State}
use Rattle.completion.specs.declared.{answer.Block.Block, answer.Delay.Delay}

-- How many numbers a job takes.
abbrev pub job_size : ℕ
job_size = 7

-- The numbers of a job, in the order of a table's columns.
abbrev pub job_numbers : Job → List ℕ
job_numbers j = j.chain ∷ j.job ∷ j.release ∷ j.priority ∷ j.least ∷ j.most ∷ j.deadline ∷ []

-- The numbers of jobs, one job after another.
unfoldable pub numbers_of : List Job → List ℕ
numbers_of [] = []
numbers_of (j ∷ js) = job_numbers j ++ numbers_of js

-- The job at place i; a number beyond the last is 0.
unfoldable pub job_in : List ℕ → ℕ → Job
job_in numbers i =
    let at : ℕ → ℕ = λ k. number_at numbers (job_size * i + k) in
    job (at 0) (at 1) (at 2) (at 3) (at 4) (at 5) (at 6)

-- How many jobs there are in numbers; the last may lack some of its own.
unfoldable pub jobs_held : List ℕ → ℕ
jobs_held numbers = (length numbers + (job_size - 1)) / job_size

-- The set of the first count jobs; those for which a set has no place are not looked at, since number 4 comes before.
unfoldable pub set_in : List ℕ → ℕ → JobSet
set_in numbers count = record { jobs = padded max_jobs no_job (tabulate 0 (min count max_jobs) (job_in numbers)); count = count }

-- The set of all jobs in numbers.
abbrev pub held_set : List ℕ → JobSet
held_set numbers = set_in numbers (jobs_held numbers)

-- How many numbers a state takes.
abbrev pub state_size : ℕ
state_size = 1 + 2 * max_jobs

-- The numbers of a state: the time, then the work of each place, then the completion of each place.
abbrev pub state_numbers : State → List ℕ
state_numbers s = s.time ∷ (s.work ++ s.completions)

-- One number for each place of a set, from a place of the numbers on.
unfoldable pub column_in : List ℕ → ℕ → List ℕ
column_in numbers from = tabulate 0 max_jobs (λ i. number_at numbers (from + i))

-- The state that numbers start with.
unfoldable pub state_in : List ℕ → State
state_in numbers = record { time = number_at numbers 0; work = column_in numbers 1; completions = column_in numbers (1 + max_jobs) }

-- The numbers of blocks: the first and the last job of each.
unfoldable pub block_numbers : List Block → List ℕ
block_numbers [] = []
block_numbers (b ∷ bs) = b.first ∷ b.last ∷ block_numbers bs

-- The numbers of what delays a job, in a set of so many chains: the job from which its bound's sum begins, and the block of each chain.
abbrev pub delay_numbers : ℕ → Delay → List ℕ
delay_numbers chains d = d.from ∷ block_numbers (take chains d.blocks)

-- The numbers of what delays each job, one job after another.
unfoldable pub delays_numbers : ℕ → List Delay → List ℕ
delays_numbers chains [] = []
delays_numbers chains (d ∷ ds) = delay_numbers chains d ++ delays_numbers chains ds

-- Number 9, where memory has fewer numbers than are to be written.
unfoldable pub room_check : ℕ → List ℕ → Result ⊤ Refusal
room_check size memory = unless (leb size (length memory)) Refusal.ShortBuffer (Ok tt)

-- What is checked before jobs are written: 4 where they are more than a set has places for, then 9.
unfoldable pub put_check : List Job → List ℕ → Result ⊤ Refusal
put_check js memory = unless (leb (length js) max_jobs) Refusal.TooManyRecords (room_check (job_size * length js) memory)

-- Memory after the jobs from place `from` on are written, each at its own place; on a refusal all is as it was.
unfoldable pub put_from : List Job → ℕ → List ℕ → List ℕ
put_from js from memory = on_pass (put_check js memory) (λ refusal. memory) (patched memory (job_size * from) (numbers_of (drop from js)))
