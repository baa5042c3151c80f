-- A table of jobs, as the rules read it: place by place from 0, in table order, with effective releases. Document 01, "Bounds", first paragraph.
-- Only here and in `urgency_of` do the rules know what a job's record holds. Assumes nothing.
use Rattle.std.specs.Prelude.{ℕ, zero, suc, ◌+◌, max, Bool, cond, List, eqb, length}
use Rattle.jobs.specs.{declared.job.Job.Job, Jobs.job_at, Jobs.urgency_of}

-- How many jobs there are and, by place, the figures of each.
pub record Table : Type 0 where
  pub count : ℕ
  pub chain : ℕ → ℕ
  -- A greater number is more urgent.
  pub urgency : ℕ → ℕ
  pub least : ℕ → ℕ
  pub most : ℕ → ℕ
  -- A job's release lies between these two.
  pub earliest : ℕ → ℕ
  pub latest : ℕ → ℕ

-- Whether the job at a place and the next one are of one chain, whose jobs stand next to each other in the order of their numbers.
unfoldable pub joined : Table → ℕ → Bool
joined t i = eqb (t.chain i) (t.chain (suc i))

-- The effective release of the job at a place, by chains, least times and given releases: of a chain's first job the given one, of a later job the
-- larger of that and its predecessor's effective release plus least.
unfoldable pub effective_release : (ℕ → ℕ) → (ℕ → ℕ) → (ℕ → ℕ) → ℕ → ℕ
effective_release chain least release zero = release 0
effective_release chain least release (suc i) =
    let before = effective_release chain least release i in
    cond (eqb (chain i) (chain (suc i))) (max (release (suc i)) (before + least i)) (release (suc i))

-- The latest release that a job is given: its only one.
abbrev pub latest_of : Job → ℕ
latest_of j = j.release

-- The table of a list of jobs. The latest release is the given one or the earliest, whichever is larger, and so the earliest where only one is given.
abbrev pub table_of : List Job → Table
table_of js =
    let earliest = effective_release (λ i. (job_at js i).chain) (λ i. (job_at js i).least) (λ i. (job_at js i).release) in
    record {
      count = length js;
      chain = λ i. (job_at js i).chain;
      urgency = λ i. urgency_of (job_at js i);
      least = λ i. (job_at js i).least;
      most = λ i. (job_at js i).most;
      earliest = earliest;
      latest = λ i. max (latest_of (job_at js i)) (earliest i);
    }
