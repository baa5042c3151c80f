-- A table whose figures stand in columns of numbers, as the code reads them. Assumes nothing.
use Prim.Native.Nat.{ℕ, suc, ◌+◌, ◌*◌, ◌≤◌, ◌<◌}
use mathlib.Core.Path.{◌≡◌}
use mathlib.Core.List.{List, []}
use lib.ListN.{get_or, set}
use Rattle.laws.specs.Words.{tabulate, padded}
use Rattle.jobs.specs.Limits.{max_jobs, max_release, max_time}
use Rattle.theory.specs.Table.{Table}

-- How many columns the bounds are made from.
abbrev pub column_count : ℕ
column_count = 6

-- How many columns the machine reads.
abbrev pub seen_count : ℕ
seen_count = 3

-- The figure at place i of column k.
abbrev pub figure : List (List ℕ) → ℕ → ℕ → ℕ
figure columns k i = get_or (get_or columns k []) i 0

-- Columns with a figure stored at place i of column k.
abbrev pub put : ℕ → ℕ → ℕ → List (List ℕ) → List (List ℕ)
put k i x columns = set columns k (set (get_or columns k []) i x)

-- The table of the jobs whose figures stand in lent columns; the bounds do not read the least times.
abbrev pub lent : ℕ → List (List ℕ) → Table
lent count columns =
    record {
      count = count;
      chain = λ i. figure columns 0 i;
      urgency = λ i. figure columns 1 i;
      least = λ i. 0;
      most = λ i. figure columns 2 i;
      earliest = λ i. figure columns 3 i;
      latest = λ i. figure columns 4 i;
    }

-- The table of the jobs whose figures the machine reads from columns: it reads no times, and one release of each job.
abbrev pub seen : List (List ℕ) → Table
seen columns =
    record {
      count = max_jobs;
      chain = λ i. figure columns 0 i;
      urgency = λ i. figure columns 1 i;
      least = λ i. 0;
      most = λ i. 0;
      earliest = λ i. figure columns 2 i;
      latest = λ i. figure columns 2 i;
    }

-- The table of the first jobs that columns show.
abbrev pub shown : ℕ → List (List ℕ) → Table
shown count columns =
    let t = seen columns in
    record { count = count; chain = t.chain; urgency = t.urgency; least = t.least; most = t.most; earliest = t.earliest; latest = t.latest }

-- Two tables agree in the figures that the machine reads of their first n jobs.
pub record Alike (a b : Table) (n : ℕ) : Type 0 where
  pub chain : (i : ℕ) → i < n → a.chain i ≡ b.chain i
  pub urgency : (i : ℕ) → i < n → a.urgency i ≡ b.urgency i
  pub release : (i : ℕ) → i < n → a.earliest i ≡ b.earliest i

-- A table of as many jobs as a set holds, in order of their chains, with most times and releases in their limits and releases that rise along chains.
pub record Fit (t : Table) : Type 0 where
  pub few : t.count ≤ max_jobs
  pub ordered : (i : ℕ) → suc i < t.count → t.chain i ≤ t.chain (suc i)
  pub mosts : (i : ℕ) → i < t.count → t.most i ≤ max_time
  pub early : (i : ℕ) → i < t.count → t.earliest i ≤ max_release + max_jobs * max_time
  pub late : (i : ℕ) → i < t.count → t.latest i ≤ max_release + max_jobs * max_time
  pub rises : (i : ℕ) → suc i < t.count → t.chain i ≡ t.chain (suc i) → t.earliest i ≤ t.earliest (suc i)

-- A figure of the first n places in an array.
abbrev pub column : ℕ → (ℕ → ℕ) → List ℕ
column n f = padded max_jobs 0 (tabulate 0 n f)
