-- Whose jobs delay a job: of each other chain the block that its interference takes, for CJA and ITR in the first pair that gives its bound.
-- Document 02, R-3. Assumes nothing.
--   Block         a run of jobs by its places, as IsBlock asks of it
--   taken_block    of a chain's blocks with the largest sum the earliest, as Taken says
--   blocks_on      the block taken of each chain but the target's own, as Names says
--   first_pair     the least k whose sum is the bound of j by CJA or a round
--   Delay         the job from which the bound's sum begins, and the blocks in it, as ByErt and ByPair say
--   ert_begin      when the sum of an ERT bound begins
use Rattle.std.specs.Prelude.{ℕ, zero, suc, ◌+◌, ◌-◌, ◌≤◌, ◌<◌, max, ◌≡◌, ◌≢◌, ◌↔◌, Bool, true, cond, not, ◌&&◌, List, leb, ltb, eqb}
use Rattle.laws.specs.Words.{number_at, sum_below, greatest, first_below}
use Rattle.theory.specs.{Table.Table, Table.joined, Bounds.open_block, Bounds.largest_block, Bounds.interference, Bounds.ert, Bounds.demand, Bounds.lowest, Bounds.pair_bound, Bounds.largest_pair, Bounds.overlap, Bounds.itr}

-- The jobs from place `first` to before place `end`; none where both are 0.
pub record Block : Type 0 where
  pub first : ℕ
  pub end : ℕ

abbrev pub no_block : Block
no_block = record { first = 0; end = 0 }

-- A block of chain c: consecutive jobs, each at least as urgent as the target, and no longer run of such jobs has them.
pub record IsBlock (t : Table) (c target : ℕ) (block : Block) : Type 0 where
  pub some : block.first < block.end
  pub inside : block.end ≤ t.count
  pub chain : (u : ℕ) → block.first ≤ u → u < block.end → t.chain u ≡ c
  pub urgent : (u : ℕ) → block.first ≤ u → u < block.end → target ≤ t.urgency u
  pub before : (u : ℕ) → suc u ≡ block.first → t.chain u ≡ c → t.urgency u < target
  pub behind : block.end < t.count → t.chain block.end ≡ c → t.urgency block.end < target

-- The sum over the jobs of a block, 0 where there is none.
unfoldable pub block_sum : (ℕ → ℕ) → Block → ℕ
block_sum weight block = sum_below (block.end - block.first) (λ i. weight (block.first + i))

-- Whether the job at u is of chain c and at least as urgent as the target.
unfoldable pub urgent_in : Table → ℕ → ℕ → ℕ → Bool
urgent_in t c target u = eqb (t.chain u) c && leb target (t.urgency u)

-- Whether a block has its last job at u.
unfoldable pub ends_block : Table → ℕ → ℕ → ℕ → Bool
ends_block t c target u = urgent_in t c target u && not (ltb (suc u) t.count && urgent_in t c target (suc u))

-- The first place of the block that has its last job before n, and n where there is none.
unfoldable pub start_of : Table → ℕ → ℕ → ℕ → ℕ
start_of t c target zero = 0
start_of t c target (suc u) =
    let before = start_of t c target u in
    cond (urgent_in t c target u) before (suc u)

-- Whether a block with the largest sum has its last job at u.
unfoldable pub ends_largest : Table → ℕ → ℕ → (ℕ → ℕ) → ℕ → Bool
ends_largest t c target weight u = ends_block t c target u && eqb (open_block t c target weight (suc u)) (largest_block t c target weight t.count)

-- The block that has its last job at u, and none where u is beyond the table.
unfoldable pub block_to : Table → ℕ → ℕ → ℕ → Block
block_to t c target u = cond (ltb u t.count) (record { first = start_of t c target (suc u); end = suc u }) no_block

-- Of chain c's blocks with the largest sum the earliest, and none where it has no block. A block is whole, also where some of its jobs weigh 0.
unfoldable pub taken_block : Table → ℕ → ℕ → (ℕ → ℕ) → Block
taken_block t c target weight = block_to t c target (first_below t.count (ends_largest t c target weight))

-- A block that sums to the figure that the interference adds, no block to more, and each one before it to less.
pub record Taken (t : Table) (c target : ℕ) (weight : ℕ → ℕ) (block : Block) : Type 0 where
  pub is_block : IsBlock t c target block
  pub largest : block_sum weight block ≡ largest_block t c target weight t.count
  pub most : (other : Block) → IsBlock t c target other → block_sum weight other ≤ block_sum weight block
  pub earliest : (other : Block) → IsBlock t c target other → other.first < block.first → block_sum weight other < block_sum weight block

-- No job of the chain is as urgent as the target, so that the chain has no block.
abbrev pub NoneUrgent : Table → ℕ → ℕ → Type 0
NoneUrgent t c target = (u : ℕ) → u < t.count → t.chain u ≡ c → t.urgency u < target

-- The block that the interference on a target of chain `own` takes of chain c, none of `own` itself.
unfoldable pub blocks_on : Table → ℕ → ℕ → (ℕ → ℕ) → ℕ → Block
blocks_on t own target weight c = cond (eqb c own) no_block (taken_block t c target weight)

-- The sums over the blocks, one for each chain up to the greatest number, added up.
abbrev pub delay_sum : Table → (ℕ → ℕ) → (ℕ → Block) → ℕ
delay_sum t weight block = sum_below (suc (greatest t.count t.chain)) (λ c. block_sum weight (block c))

-- Blocks that name the interference on a target of chain `own`: none exactly where a chain has no urgent job, else the one taken and no other.
pub record Names (t : Table) (own target : ℕ) (weight : ℕ → ℕ) (block : ℕ → Block) : Type 0 where
  pub own_none : block own ≡ no_block
  pub none : (c : ℕ) → c ≢ own → (block c ≡ no_block) ↔ NoneUrgent t c target
  pub taken : (c : ℕ) → c ≢ own → block c ≢ no_block → Taken t c target weight (block c)
  pub only : (c : ℕ) → c ≢ own → (other : Block) → Taken t c target weight other → other ≡ block c
  pub sums : delay_sum t weight block ≡ interference t own target weight

-- Whether the sum for the pair (k, j) is the largest of those for j.
unfoldable pub is_largest : Table → (ℕ → ℕ → ℕ → Bool) → ℕ → ℕ → Bool
is_largest t keep j k = eqb (t.chain k) (t.chain j) && eqb (pair_bound t keep k j) (largest_pair t keep j (suc j))

-- The first k of j's chain that gives the largest sum.
unfoldable pub first_pair : Table → (ℕ → ℕ → ℕ → Bool) → ℕ → ℕ
first_pair t keep j = first_below (suc j) (is_largest t keep j)

-- What a job u counts for the pair (k, j): its most time, or 0 if `keep` leaves it out.
abbrev pub counts : Table → (ℕ → ℕ → ℕ → Bool) → ℕ → ℕ → ℕ → ℕ
counts t keep k j u = cond (keep k j u) (t.most u) 0

-- What the bound of a job comes from: the job from which its sum begins, and the block of each chain by its number.
pub record Delay : Type 0 where
  pub from : ℕ
  pub block : ℕ → Block

-- For ERT the job itself, and the blocks at its own urgency.
unfoldable pub ert_delay : Table → ℕ → Delay
ert_delay t j = record { from = j; block = blocks_on t (t.chain j) (t.urgency j) t.most }

-- The first k, and the blocks taken for the pair (k, j).
unfoldable pub delay_at : Table → (ℕ → ℕ → ℕ → Bool) → ℕ → Delay
delay_at t keep j =
    let k = first_pair t keep j in
    record { from = k; block = blocks_on t (t.chain j) (lowest t k j) (counts t keep k j) }

-- For CJA every job counts.
unfoldable pub cja_delay : Table → ℕ → Delay
cja_delay t = delay_at t (λ k j u. true)

-- For ITR the jobs count that the last round keeps, whose previous bounds are the bounds.
unfoldable pub itr_delay : Table → ℕ → Delay
itr_delay t = delay_at t (overlap t (itr t).bounds)

-- When the sum of a job's ERT bound begins: at its release, or at its predecessor's bound where that is later.
unfoldable pub ert_begin : Table → List ℕ → ℕ → ℕ
ert_begin t bounds zero = t.latest 0
ert_begin t bounds (suc i) = cond (joined t i) (max (number_at bounds i) (t.latest (suc i))) (t.latest (suc i))

-- The delay of j gives its ERT bound: when its sum begins, its most time and the named blocks add up to it.
pub record ByErt (t : Table) (j : ℕ) (delay : Delay) : Type 0 where
  pub itself : delay.from ≡ j
  pub named : Names t (t.chain j) (t.urgency j) t.most delay.block
  pub sum : ert_begin t (ert t) j + t.most j + delay_sum t t.most delay.block ≡ number_at (ert t) j

-- The delay of j gives its bound: release of the pair's first job, the most times up to j and the named blocks add up to it, and no pair before it does.
pub record ByPair (t : Table) (keep : ℕ → ℕ → ℕ → Bool) (j bound : ℕ) (delay : Delay) : Type 0 where
  pub within : delay.from ≤ j
  pub chain : t.chain delay.from ≡ t.chain j
  pub named : Names t (t.chain j) (lowest t delay.from j) (counts t keep delay.from j) delay.block
  pub sum : t.latest delay.from + demand t delay.from j + delay_sum t (counts t keep delay.from j) delay.block ≡ bound
  pub first : (k : ℕ) → k < delay.from → t.chain k ≡ t.chain j → pair_bound t keep k j < bound
