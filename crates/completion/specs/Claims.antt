-- What is proved of the answers for every accepted set: a planner with the table and an answer adds up each bound by hand, as the names in it say.
-- proofs/Claims.antt has the proof of all. Document 02, R-3. Assumes nothing.
use Rattle.std.specs.Prelude.{ℕ, suc, ◌+◌, ◌<◌, ◌≡◌, Bool, true, cond, ◌&&◌, List, leb, eqb, length, get_or, IsOkAnd, Ok}
use Rattle.laws.specs.Words.{number_at, sum_below}
use Rattle.jobs.specs.declared.{job.Job.Job, set.JobSet.JobSet}
use Rattle.jobs.specs.{Limits.max_chains, Jobs.job_at, Jobs.place_in, Jobs.jobs_of, Checks.check_of}
use Rattle.theory.specs.{Table.table_of, Bounds.demand, Bounds.overlap, Delays.counts, Delays.ert_begin}
use Rattle.completion.specs.declared.{answer.Block.Block, answer.Delay.Delay}
use Rattle.completion.specs.{Delays.no_block, Delays.no_delay, Answers.ert_of, Answers.cja_of, Answers.itr_of}

-- What is counted of the jobs of chain c that a block names, from its first number to its last, added up.
unfoldable pub named_sum : List Job → (ℕ → ℕ) → ℕ → Block → ℕ
named_sum js weight c block =
    sum_below (length js) (λ u. cond (eqb (job_at js u).chain c && leb block.first (job_at js u).job && leb (job_at js u).job block.last) (weight u) 0)

-- The same of the blocks of chains 1, 2, and so on.
unfoldable pub named_sums : List Job → (ℕ → ℕ) → List Block → ℕ
named_sums js weight blocks = sum_below max_chains (λ n. named_sum js weight (suc n) (get_or blocks n no_block))

-- By CJA or a round: release of the job from which the sum begins, the most times from it to the job at j, and what counts of the jobs named.
abbrev pub PairAddsUp : List Job → (ℕ → ℕ → ℕ → Bool) → List Delay → List ℕ → Type 0
PairAddsUp js keep delays bounds =
    (j : ℕ) → j < length js
    → let t = table_of js in
    let delay = get_or delays j no_delay in
    let k = place_in js (job_at js j).chain delay.from in
    t.latest k + demand t k j + named_sums js (counts t keep k j) delay.blocks ≡ number_at bounds j

-- By ERT: when the sum of the job at j begins, its most time, and the most times of the jobs named.
abbrev pub RuleAddsUp : List Job → List Delay → List ℕ → Type 0
RuleAddsUp js delays bounds =
    (j : ℕ) → j < length js
    → let t = table_of js in
    ert_begin t bounds j + t.most j + named_sums js t.most (get_or delays j no_delay).blocks ≡ number_at bounds j

-- One field for each algorithm: it has an answer, and in that the bounds add up.
pub record Claims (set : JobSet) : Type 0 where
  pub by_ert : IsOkAnd (ert_of set) (λ answer. RuleAddsUp (jobs_of set) answer.delays answer.bounds)
  pub by_cja : IsOkAnd (cja_of set) (λ answer. PairAddsUp (jobs_of set) (λ k j u. true) answer.delays answer.bounds)
  -- In the last round, whose previous bounds are the bounds.
  pub by_itr : IsOkAnd (itr_of set) (λ answer. PairAddsUp (jobs_of set) (overlap (table_of (jobs_of set)) answer.bounds) answer.delays answer.bounds)

-- The claims hold of every accepted set.
abbrev pub EveryAccepted : Type 0
EveryAccepted = (set : JobSet) → check_of (jobs_of set) ≡ Ok tt → Claims set
