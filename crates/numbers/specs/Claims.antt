-- What is proved of sets and states in lent memory; proofs/Claims.antt has the proof of all. Assumes nothing.
use Rattle.std.specs.Prelude.{ℕ, ◌≤◌, ◌≡◌, List, ◌++◌, length}
use Rattle.laws.specs.Words.{written}
use Rattle.jobs.specs.declared.job.Job.{Job}
use Rattle.jobs.specs.{Limits.max_jobs, Jobs.set_of}
use Rattle.machine.specs.declared.state.State.{State}
use Rattle.numbers.specs.Numbers.{numbers_of, set_in, held_set, state_size, state_numbers, state_in}

-- One field for each theorem on writing and reading back.
pub record Claims : Type 0 where
  -- Jobs that are written and read back are the same set.
  pub held_back : (js : List Job) → length js ≤ max_jobs → held_set (numbers_of js) ≡ set_of js
  -- So are the first jobs of memory that holds more behind them.
  pub front_back : (js : List Job) (rest : List ℕ) → length js ≤ max_jobs → set_in (numbers_of js ++ rest) (length js) ≡ set_of js
  -- A state that is written and read back is the same.
  pub state_back : (s : State) → length s.work ≡ max_jobs → length s.completions ≡ max_jobs → state_in (state_numbers s) ≡ s
  -- A state that is read and written back leaves memory as it was.
  pub memory_back : (memory : List ℕ) → state_size ≤ length memory → written (state_numbers (state_in memory)) memory ≡ memory
