-- What is proved of every accepted set; proofs/Claims has the proof of all. Document 01, "The runs of demand 3". Assumes nothing.
use Rattle.std.specs.Prelude.{ℕ, zero, suc, ◌+◌, ◌≤◌, ◌<◌, max, ◌≡◌, ◌≢◌, true, List, length, Ok}
use Rattle.laws.specs.Words.{number_at}
use Rattle.jobs.specs.{declared.job.Job.Job, Checks.check_of}
use Rattle.theory.specs.{Table.Table, Table.table_of, Bounds.ert, Bounds.cja, Bounds.bound_limit, Bounds.round, Bounds.after, Bounds.Answer, Bounds.round_limit, Bounds.overlap, Bounds.itr, Delays.ert_delay, Delays.cja_delay, Delays.itr_delay, Delays.ByErt, Delays.ByPair, Runs.Entry, Runs.times_fit, Runs.releases_fit, Runs.is_run, Runs.CompleteBy}

-- The job at a place of the table is not of the part.
abbrev pub Left : Table → (ℕ → ℕ) → ℕ → Type 0
Left part place u = (i : ℕ) → i < part.count → place i ≢ u

-- The job at place i of the part is the one at `place i` of the table, where its chain x is called `number x`; both rise.
pub record Part (part t : Table) (place number : ℕ → ℕ) : Type 0 where
  pub inside : (i : ℕ) → i < part.count → place i < t.count
  pub rises : (i : ℕ) → suc i < part.count → place i < place (suc i)
  pub upwards : (x : ℕ) → number x < number (suc x)
  pub chain : (i : ℕ) → i < part.count → t.chain (place i) ≡ number (part.chain i)
  pub urgency : (i : ℕ) → i < part.count → t.urgency (place i) ≡ part.urgency i
  pub least : (i : ℕ) → i < part.count → t.least (place i) ≡ part.least i
  pub most : (i : ℕ) → i < part.count → t.most (place i) ≡ part.most i
  pub earliest : (i : ℕ) → i < part.count → t.earliest (place i) ≡ part.earliest i
  pub latest : (i : ℕ) → i < part.count → t.latest (place i) ≡ part.latest i
  -- Of each chain that the part has, it has every job.
  pub whole : (u x : ℕ) → u < t.count → t.chain u ≡ number x → Left part place u → ⊥

-- Each job that is not of the part is strictly less urgent than each job of the part.
abbrev pub LessUrgent : Table → Table → (ℕ → ℕ) → Type 0
LessUrgent part t place = (u i : ℕ) → u < t.count → Left part place u → i < part.count → t.urgency u < part.urgency i

-- Each job is complete no later than its bound.
abbrev pub Holds : Table → List ℕ → Type 0
Holds t bounds = (j : ℕ) → j < t.count → CompleteBy t j (number_at bounds j)

-- The first bounds are at most the others, at each of the first n places.
abbrev pub AtMost : ℕ → List ℕ → List ℕ → Type 0
AtMost n a b = (i : ℕ) → i < n → number_at a i ≤ number_at b i

-- From each job to the next of its chain a figure rises, by this much at least.
abbrev pub Rises : Table → (ℕ → ℕ) → (ℕ → ℕ) → Type 0
Rises t figure by = (i : ℕ) → suc i < t.count → t.chain i ≡ t.chain (suc i) → figure i + by i ≤ figure (suc i)

-- The round of this number changed no bound.
abbrev pub Repeats : Table → ℕ → Type 0
Repeats t zero = ⊥
Repeats t (suc n) = after t (suc n) ≡ after t n

-- The bounds are those of the last round, which changed no bound, while every round before it changed some.
pub record Settled (t : Table) (answer : Answer) : Type 0 where
  pub made : answer.bounds ≡ after t answer.rounds
  pub last : Repeats t answer.rounds
  pub first : (n : ℕ) → n < answer.rounds → Repeats t n → ⊥

-- Demand 3: for all running times and releases in range and any pick among equals the bounds hold; they are in order, and the rounds end as they should.
pub record Demand3 (t : Table) : Type 0 where
  pub by_ert : Holds t (ert t)
  pub by_cja : Holds t (cja t)
  pub by_itr : Holds t (itr t).bounds
  pub itr_cja : AtMost t.count (itr t).bounds (cja t)
  pub cja_ert : AtMost t.count (cja t) (ert t)
  pub rounds : (itr t).rounds ≤ round_limit t
  pub settled : Settled t (itr t)

-- The bounds of a part, held to those of the table by a relation.
pub record Compared (Relation : ℕ → ℕ → Type 0) (part t : Table) (place : ℕ → ℕ) : Type 0 where
  pub by_ert : (i : ℕ) → i < part.count → Relation (number_at (ert part) i) (number_at (ert t) (place i))
  pub by_cja : (i : ℕ) → i < part.count → Relation (number_at (cja part) i) (number_at (cja t) (place i))
  pub by_itr : (i : ℕ) → i < part.count → Relation (number_at (itr part).bounds i) (number_at (itr t).bounds (place i))

-- One field for each theorem.
pub record Claims (t : Table) : Type 0 where
  pub demand_3 : Demand3 t
  -- No other answer is settled, so that the count less one, or any other number, is ruled out.
  pub rounds_determined : (answer : Answer) → Settled t answer → answer ≡ itr t
  -- Some running times and releases are in range.
  pub choices_exist : (times : List ℕ) × (release : ℕ → ℕ) × (times_fit t times ≡ true) × (releases_fit t release ≡ true)
  -- With any such choice there is a legal run of every length.
  pub runs_exist : (release : ℕ → ℕ) (times : List ℕ) → releases_fit t release ≡ true → times_fit t times ≡ true
      → (n : ℕ) → (run : List Entry) × (length run ≡ n) × (is_run t release times run ≡ true)
  -- All bounds are below the limit: those of ERT, and so the others, which are no larger.
  pub bounds_limited : (i : ℕ) → i < t.count → number_at (ert t) i < bound_limit
  -- There are at most as many rounds as jobs, and one where there is no job.
  pub few_rounds : (itr t).rounds ≤ max 1 t.count
  -- ITR's bounds are the least that a round leaves unchanged.
  pub itr_least : (bounds : List ℕ) → round t bounds ≡ bounds → AtMost t.count (itr t).bounds bounds
  -- Along a chain the effective releases rise, by a job's least time at least.
  pub releases_rise : Rises t t.earliest t.least
  -- So do the bounds after any number of rounds, by the next job's most time at least; ITR's are those after the last.
  pub after_rises : (n : ℕ) → Rises t (number_at (after t n)) (λ i. t.most (suc i))
  -- No bound rises where chains are taken off.
  pub taken_off : (part : Table) (place number : ℕ → ℕ) → Part part t place number → Compared ◌≤◌ part t place
  -- Chains strictly less urgent than all others move none of their bounds.
  pub least_urgent : (part : Table) (place number : ℕ → ℕ) → Part part t place number → LessUrgent part t place → Compared ◌≡◌ part t place
  -- The bounds from which the last round starts are those that it gives, so that they tell which jobs it counts.
  pub last_round : (n : ℕ) → (itr t).rounds ≡ suc n → after t n ≡ (itr t).bounds
  -- What delays a job adds up to its bound, by each algorithm; by ITR in the last round.
  pub ert_delays : (j : ℕ) → j < t.count → ByErt t j (ert_delay t j)
  pub cja_delays : (j : ℕ) → j < t.count → ByPair t (λ k i u. true) j (number_at (cja t) j) (cja_delay t j)
  pub itr_delays : (j : ℕ) → j < t.count → ByPair t (overlap t (itr t).bounds) j (number_at (itr t).bounds j) (itr_delay t j)

-- The claims hold of every accepted list of jobs: no number of checking a set handed by value applies to it.
abbrev pub EveryAccepted : Type 0
EveryAccepted = (js : List Job) → check_of js ≡ Ok tt → Claims (table_of js)
