-- Events: the times at which a job is released or completes. Document 02, R-7. Assumes nothing.
--   is_event   whether a time is one
--   events    how many there are after 0 and up to a time, each time counted once
use Rattle.std.specs.Prelude.{ℕ, suc, Bool, cond, not, ◌||◌, eqb}
use Rattle.laws.specs.Words.{sum_below, every_below}
use Rattle.theory.specs.Table.{Table}

-- Whether some job has its effective release or its completion at time n.
unfoldable pub is_event : Table → (ℕ → ℕ) → ℕ → Bool
is_event t completed n = not (every_below t.count (λ u. not (eqb (t.earliest u) n || eqb (completed u) n)))

-- How many of the times 1, 2, …, n are events.
unfoldable pub events : Table → (ℕ → ℕ) → ℕ → ℕ
events t completed n = sum_below n (λ k. cond (is_event t completed (suc k)) 1 0)
