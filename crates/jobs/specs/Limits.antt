-- The greatest values of a job table, each named by what it limits. Document 01, "A job table". Assumes nothing.
use Rattle.std.specs.Prelude.{ℕ}

abbrev pub max_jobs : ℕ
max_jobs = 64

abbrev pub max_chains : ℕ
max_chains = 16

abbrev pub max_release : ℕ
max_release = 1000000000

abbrev pub max_priority : ℕ
max_priority = 255

-- The greatest value of least and of most.
abbrev pub max_time : ℕ
max_time = 1000000

abbrev pub max_deadline : ℕ
max_deadline = 4000000000
