-- The bounds: interference, ERT, CJA, ITR and its rounds, slack and verdict. Document 01, "Bounds". Assumes nothing.
-- Sums over blocks are of a weight by place: the most times, or 0 for a job that does not count.
use Rattle.std.specs.Prelude.{ℕ, zero, suc, ◌+◌, ◌-◌, ◌*◌, max, min, Bool, true, false, cond, ◌&&◌, List, leb, ltb, eqb, length, ℤ, pos, ◌-ℤ◌}
use Rattle.laws.specs.Words.{number_at, sum_below, greatest, every_below, same_up_to, tabulate}
use Rattle.jobs.specs.{declared.job.Job.Job, Jobs.job_at}
use Rattle.theory.specs.Table.{Table, joined, table_of}

-- The sum over chain c's block at the end of the first n places, 0 where there is none: consecutive jobs, each at least as urgent as the target.
unfoldable pub open_block : Table → ℕ → ℕ → (ℕ → ℕ) → ℕ → ℕ
open_block t c target weight zero = 0
open_block t c target weight (suc u) =
    let before = open_block t c target weight u in
    cond (eqb (t.chain u) c) (cond (leb target (t.urgency u)) (before + weight u) 0) before

-- The largest sum over one block among the first n places: found among blocks cut off, since a part never sums to more than its block.
unfoldable pub largest_block : Table → ℕ → ℕ → (ℕ → ℕ) → ℕ → ℕ
largest_block t c target weight n = greatest n (λ u. open_block t c target weight (suc u))

-- Interference on a target of chain `own`: for each other chain, up to the greatest number, the largest sum over one block, these added up.
unfoldable pub interference : Table → ℕ → ℕ → (ℕ → ℕ) → ℕ
interference t own target weight = sum_below (suc (greatest t.count t.chain)) (λ c. cond (eqb c own) 0 (largest_block t c target weight t.count))

-- ERT with any figure of interference: release + most + interference, where for release a later job takes its predecessor's bound if that is larger.
unfoldable pub ert_rule : Table → (ℕ → ℕ) → ℕ → ℕ
ert_rule t inter zero = t.latest 0 + t.most 0 + inter 0
ert_rule t inter (suc i) =
    let before = ert_rule t inter i in
    cond (joined t i) (max before (t.latest (suc i))) (t.latest (suc i)) + t.most (suc i) + inter (suc i)

-- The interference on the job at a place, where every job counts its most time.
unfoldable pub interference_at : Table → ℕ → ℕ
interference_at t i = interference t (t.chain i) (t.urgency i) t.most

-- The ERT bounds.
unfoldable pub ert : Table → List ℕ
ert t = tabulate 0 t.count (ert_rule t (interference_at t))

-- The most times of the jobs from k to j added up, where k is at most j.
unfoldable pub demand : Table → ℕ → ℕ → ℕ
demand t k zero = t.most 0
demand t k (suc j) = cond (leb k j) (demand t k j) 0 + t.most (suc j)

-- The lowest urgency among the jobs from k to j, where k is at most j.
unfoldable pub lowest : Table → ℕ → ℕ → ℕ
lowest t k zero = t.urgency 0
lowest t k (suc j) = cond (leb k j) (min (lowest t k j) (t.urgency (suc j))) (t.urgency (suc j))

-- The sum for the pair (k, j): release of k + the most times from k to j + interference at the lowest urgency from k to j, where a job u of another
-- chain counts its most time, or 0 if `keep` leaves it out.
unfoldable pub pair_bound : Table → (ℕ → ℕ → ℕ → Bool) → ℕ → ℕ → ℕ
pair_bound t keep k j = t.latest k + demand t k j + interference t (t.chain j) (lowest t k j) (λ u. cond (keep k j u) (t.most u) 0)

-- The largest such sum over the places k below n that are of j's chain.
unfoldable pub largest_pair : Table → (ℕ → ℕ → ℕ → Bool) → ℕ → ℕ → ℕ
largest_pair t keep j n = greatest n (λ k. cond (eqb (t.chain k) (t.chain j)) (pair_bound t keep k j) 0)

-- CJA with any choice of jobs that count: for each j the largest sum over the jobs of its chain up to j.
unfoldable pub cja_with : Table → (ℕ → ℕ → ℕ → Bool) → List ℕ
cja_with t keep = tabulate 0 t.count (λ j. largest_pair t keep j (suc j))

-- The CJA bounds: every job counts.
unfoldable pub cja : Table → List ℕ
cja t = cja_with t (λ k j u. true)

-- The start of ITR: the ERT rule with interference 0.
unfoldable pub itr_start : Table → List ℕ
itr_start t = tabulate 0 t.count (ert_rule t (λ i. 0))

-- Whether the span of u, from its release to its previous bound, overlaps the span from the release of k to j's previous bound; touching is no overlap.
unfoldable pub overlap : Table → List ℕ → ℕ → ℕ → ℕ → Bool
overlap t previous k j u = ltb (t.earliest k) (number_at previous u) && ltb (t.earliest u) (number_at previous j)

-- One round: CJA for all jobs, where a job of another chain counts 0 if its span does not overlap, though it still belongs to its block.
unfoldable pub round : Table → List ℕ → List ℕ
round t previous = cja_with t (overlap t previous)

-- The bounds after n rounds.
unfoldable pub after : Table → ℕ → List ℕ
after t zero = itr_start t
after t (suc n) = round t (after t n)

-- The answer of ITR: its bounds, and how many rounds there were.
pub record Answer : Type 0 where
  pub bounds : List ℕ
  pub rounds : ℕ

-- The first round that changes no bound is the last, and counts; n rounds were made before, and `fuel` more may be.
unfoldable pub settle : Table → ℕ → ℕ → List ℕ → Answer
settle t zero n previous = record { bounds = previous; rounds = n }
settle t (suc fuel) n previous =
    let next = round t previous in
    elim (same_up_to t.count next previous) [ true ↦ record { bounds = next; rounds = suc n } | false ↦ settle t fuel (suc n) next ]

-- The limit of demand 3 on the number of rounds, which is never what ends them.
unfoldable pub round_limit : Table → ℕ
round_limit t = let n = t.count in n * n * (n - 1) + 2

-- ITR: the rounds from the start until one changes nothing.
unfoldable pub itr : Table → Answer
itr t = settle t (round_limit t) 0 (itr_start t)

-- The deadline less the bound, below zero where the bound is later.
abbrev pub slack : ℕ → ℕ → ℤ
slack deadline bound = pos deadline -ℤ pos bound

-- The slack of each job by its ITR bound, in table order.
unfoldable pub slacks : List Job → List ℤ
slacks js = tabulate 0 (length js) (λ i. slack (job_at js i).deadline (number_at (itr (table_of js)).bounds i))

-- The verdict by a list of bounds: whether each is at or before its job's deadline.
unfoldable pub meets : List Job → List ℕ → Bool
meets js bounds = every_below (length js) (λ i. leb (number_at bounds i) (job_at js i).deadline)

-- All bounds of an accepted set are below this.
abbrev pub bound_limit : ℕ
bound_limit = 10000000000
