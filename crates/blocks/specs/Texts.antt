-- The blocks text: whose jobs delay each job by ITR. Document 02, R-3. Assumes nothing.
use Rattle.std.specs.Prelude.{ℕ, zero, suc, ◌-◌, ◌*◌, ◌≤◌, ◌≡◌, cond, List, [], ◌∷◌, ◌++◌, map, eqb, length, get_or, ℤ, pos, Ok}
use Rattle.laws.specs.Words.{ascii}
use Rattle.jobs.specs.declared.{job.Job.Job}
use Rattle.jobs.specs.{Limits.max_jobs, Limits.max_chains, Jobs.job_at, Jobs.chains_of, Checks.check_of}
use Rattle.theory.specs.{Table.table_of, Delays.itr_delay}
use Rattle.completion.specs.{declared.answer.Block.Block, declared.answer.Delay.Delay, Delays.no_block, Delays.no_delay, Delays.delays_named}
use Rattle.texts.specs.Lines.{lines_text}

-- Its first line.
abbrev pub blocks_header : List ℕ
blocks_header = ascii "chain,job,from,other,first,last\r\n"

-- A row: chain and job, the job from which the sum of its bound begins, another chain, and the first and last job of that chain's block.
abbrev pub row_numbers : Job → ℕ → ℕ → Block → List ℤ
row_numbers j from other block = map pos (j.chain ∷ j.job ∷ from ∷ other ∷ block.first ∷ block.last ∷ [])

-- The row of a job and another chain.
abbrev pub block_row : Job → Delay → ℕ → List ℤ
block_row j d other = row_numbers j d.from other (get_or d.blocks (other - 1) no_block)

-- The chain n, but not where it is the job's own.
abbrev pub other_chain : ℕ → ℕ → List ℕ
other_chain own n = cond (eqb n own) [] (n ∷ [])

-- The chains from 1 to n, but for the job's own.
unfoldable pub other_chains : ℕ → ℕ → List ℕ
other_chains own zero = []
other_chains own (suc n) = other_chains own n ++ other_chain own (suc n)

-- The rows of a job, one for each other chain.
abbrev pub job_rows : ℕ → Job → Delay → List (List ℤ)
job_rows chains j d = map (block_row j d) (other_chains j.chain chains)

-- The rows of the first n jobs.
unfoldable pub blocks_rows : List Job → List Delay → ℕ → List (List ℤ)
blocks_rows js delays zero = []
blocks_rows js delays (suc n) = blocks_rows js delays n ++ job_rows (chains_of js) (job_at js n) (get_or delays n no_delay)

-- The text of a list of jobs and what delays each of them.
abbrev pub delays_text : List Job → List Delay → List ℕ
delays_text js delays = blocks_header ++ lines_text (blocks_rows js delays (length js))

-- The blocks text of a list of jobs.
unfoldable pub blocks_text : List Job → List ℕ
blocks_text js = delays_text js (delays_named js (itr_delay (table_of js)))

-- The length of the buffer that the program lends.
abbrev pub max_blocks_text : ℕ
max_blocks_text = 24 * max_jobs * max_chains

-- `blocks_fit`: such a buffer has room for the text of an accepted set, so that none is refused with 9.
abbrev pub BlocksFit : Type 0
BlocksFit = (js : List Job) → check_of js ≡ Ok tt → length (blocks_text js) ≤ max_blocks_text
