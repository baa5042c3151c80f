-- What a job counts in a pair: at most its most time, and what the theory counts. Assumes nothing.
use Prim.Native.Nat.{ℕ, ◌≤◌}
use mathlib.Core.Bool.{cond, ◌&&◌}
use mathlib.Core.List.{List}
use native.Mathlib.Omega.{arith}
use lib.Dec.{ltb}
use lib.ListN.{get_or}
use Rattle.laws.proofs.Tests.{by_test}
use Rattle.theory.proofs.Columns.{figure}

-- What a job counts in a pair: its most time where its span overlaps the one open at `from` and closed at `to`.
unfoldable pub weight_of : ℕ → ℕ → ℕ → ℕ → ℕ → ℕ
weight_of from to most release bound = cond (ltb from bound && ltb release to) most 0

-- The same by the place of the job.
abbrev pub spanned : List (List ℕ) → List ℕ → ℕ → ℕ → ℕ → ℕ
spanned columns bound from to u = weight_of from to (figure columns 2 u) (figure columns 3 u) (get_or bound u 0)

pub weight_le : (from to most release bound : ℕ) → weight_of from to most release bound ≤ most
unfolding weight_of
weight_le from to most release bound =
    by_test (ltb from bound && ltb release to) (λ e. rw e (omega arith)) (λ e. rw e (omega arith))
