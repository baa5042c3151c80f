-- Blocks that are known whole: those that delay the jobs of P1, by each algorithm. Document 02, R-3, has that of job 2 of chain 2 by ITR, and the rest
-- is worked out by hand. Assumes nothing.
use Rattle.std.specs.Prelude.{ℕ, List, [], ◌∷◌}
use Rattle.laws.specs.Words.{padded}
use Rattle.jobs.specs.{declared.job.Job.Job, Limits.max_chains}
use Rattle.theory.specs.{Table.table_of, Delays.ert_delay, Delays.cja_delay, Delays.itr_delay}
use Rattle.completion.specs.{declared.answer.Block.Block, declared.answer.Delay.Delay, Delays.no_block, Delays.delays_named}
use Rattle.known_results.specs.Cases.{jobs_in, p1}

-- Jobs, and what the bound of each comes from by ERT, CJA and ITR.
abbrev pub KnownBlocks : Type 0
KnownBlocks = List Job × List Delay × List Delay × List Delay

-- The same, by the definitions.
unfoldable pub blocks_with : KnownBlocks → KnownBlocks
blocks_with b =
    let js = b.0 in
    let t = table_of js in
    (js, delays_named js (ert_delay t), delays_named js (cja_delay t), delays_named js (itr_delay t))

-- A block, by the numbers of its first and its last job.
abbrev pub block : ℕ → ℕ → Block
block first last = record { first = first; last = last }

-- What a bound comes from where there are two chains: the job from which its sum begins, and the block of each chain.
abbrev pub sum_from : ℕ → Block → Block → Delay
sum_from from first second = record { from = from; blocks = padded max_chains no_block (first ∷ second ∷ []) }

-- P1 by ERT: each job's own priority decides, and the larger of the two blocks of chain 1 delays chain 2.
abbrev pub p1_ert : List Delay
p1_ert =
    sum_from 1 no_block (block 1 2)
    ∷ sum_from 2 no_block no_block
    ∷ sum_from 3 no_block (block 1 2)
    ∷ sum_from 4 no_block no_block
    ∷ sum_from 1 (block 4 4) no_block
    ∷ sum_from 2 (block 4 4) no_block
    ∷ []

-- P1 by CJA: the sums of jobs 2 and 4 of chain 1 begin at the job before, whose priority is the lowest.
abbrev pub p1_cja : List Delay
p1_cja =
    sum_from 1 no_block (block 1 2)
    ∷ sum_from 1 no_block (block 1 2)
    ∷ sum_from 3 no_block (block 1 2)
    ∷ sum_from 3 no_block (block 1 2)
    ∷ sum_from 1 (block 4 4) no_block
    ∷ sum_from 2 (block 4 4) no_block
    ∷ []

-- P1 by ITR: job 4 of chain 1 is too late for chain 2. Job 2 of chain 1 delays job 1 of chain 2 by 10, and job 2 by 0, as job 4 does, but earlier.
abbrev pub p1_itr : List Delay
p1_itr =
    sum_from 1 no_block (block 1 2)
    ∷ sum_from 1 no_block (block 1 2)
    ∷ sum_from 3 no_block (block 1 2)
    ∷ sum_from 3 no_block (block 1 2)
    ∷ sum_from 1 (block 2 2) no_block
    ∷ sum_from 2 (block 2 2) no_block
    ∷ []

abbrev pub p1_blocks : KnownBlocks
p1_blocks = (jobs_in p1, p1_ert, p1_cja, p1_itr)
