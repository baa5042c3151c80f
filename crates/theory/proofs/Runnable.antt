-- What the machine's engine asks of a table and of running times; the checks 4 to 8 establish it. Assumes nothing.
--   last_release   by then every job of an accepted set is released
--   Runnable      at most as many jobs as a set holds, each released by then, with a running time for each, above 0 and within its limit
use Prim.Native.Nat.{ℕ, ◌+◌, ◌*◌, ◌≤◌, ◌<◌}
use mathlib.Core.Path.{◌≡◌}
use mathlib.Core.List.{List}
use lib.ListN.{length}
use Rattle.laws.specs.Words.{number_at}
use Rattle.jobs.specs.Limits.{max_jobs, max_release, max_time}
use Rattle.theory.specs.Table.{Table}

abbrev pub last_release : ℕ
last_release = max_release + max_jobs * max_time

pub record Runnable (t : Table) (times : List ℕ) : Type 0 where
  pub few : t.count ≤ max_jobs
  pub released : (u : ℕ) → u < t.count → t.earliest u ≤ last_release
  pub each : length times ≡ t.count
  pub positive : (u : ℕ) → u < t.count → 0 < number_at times u
  pub brief : (u : ℕ) → u < t.count → number_at times u ≤ max_time
