-- What bounds come from, by the numbers of jobs. Document 02, R-3. Assumes nothing.
use Rattle.std.specs.Prelude.{ℕ, ◌-◌, cond, List, ltb, length, replicate}
use Rattle.laws.specs.Words.{tabulate}
use Rattle.jobs.specs.{declared.job.Job.Job, Limits.max_chains, Jobs.job_at}
use Rattle.theory.specs.Delays.{Block as TheoryBlock, Delay as TheoryDelay}
use Rattle.completion.specs.declared.{answer.Block.Block, answer.Delay.Delay}

-- No block.
abbrev pub no_block : Block
no_block = record { first = 0; last = 0 }

-- A block by the numbers of its first and its last job, 0 and 0 where there is none.
unfoldable pub block_named : (ℕ → ℕ) → TheoryBlock → Block
block_named number b = cond (ltb b.first b.end) (record { first = number b.first; last = number (b.end - 1) }) no_block

-- What a bound comes from: the number of the job from which its sum begins, and the blocks of chains 1, 2, and so on.
unfoldable pub delay_named : (ℕ → ℕ) → TheoryDelay → Delay
delay_named number d = record { from = number d.from; blocks = tabulate 1 max_chains (λ c. block_named number (d.block c)) }

-- What stands where there is no job.
abbrev pub no_delay : Delay
no_delay = record { from = 0; blocks = replicate max_chains no_block }

-- The number in its chain of the job at a place.
abbrev pub number_in : List Job → ℕ → ℕ
number_in js i = (job_at js i).job

-- What the bound of each job comes from, in table order.
unfoldable pub delays_named : List Job → (ℕ → TheoryDelay) → List Delay
delays_named js delay = tabulate 0 (length js) (λ j. delay_named (number_in js) (delay j))
