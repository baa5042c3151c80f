-- ITR's bounds are the least that a round leaves unchanged: the start is at most any such bounds, and a round keeps it so. Assumes nothing.
use Prim.Native.Nat.{ℕ, zero, suc, ◌≤◌, ◌<◌}
use mathlib.Core.Path.{◌≡◌, ap, subst}
use mathlib.Core.List.{List}
use native.Mathlib.Omega.{arith}
use Rattle.laws.specs.Words.{number_at}
use Rattle.theory.specs.Table.{Table}
use Rattle.theory.specs.Bounds.{overlap, round, after, itr}
use Rattle.theory.specs.Claims.{AtMost}
use Rattle.theory.proofs.Monotone.{start_le, round_mono}
use Rattle.theory.proofs.Settling.{itr_settled, itr_fixed}

module _ (t : Table) (b : List ℕ) (fixed : round t b ≡ b) where
  pub after_least : (n : ℕ) → AtMost t.count (after t n) b
  unfolding after
  after_least zero = subst (λ (l : List ℕ). AtMost t.count (after t 0) l) fixed (unfold round in start_le t (overlap t b))
  after_least (suc n) = subst (λ (l : List ℕ). AtMost t.count (round t (after t n)) l) fixed (round_mono t (after t n) b (after_least n))

  pub itr_below : AtMost t.count (itr t).bounds b
  itr_below = rw (itr_settled t).made (after_least (itr t).rounds)

-- two tables whose bounds at two places are in order after every round have their ITR bounds in order there
pub itr_order : (s t : Table) (i j : ℕ) → j < t.count → ((n : ℕ) → number_at (after s n) i ≤ number_at (after t n) j)
    → number_at (itr s).bounds i ≤ number_at (itr t).bounds j
itr_order s t i j jl h =
    omega (
      arith,
      ap (λ (b : List ℕ). number_at b i) (itr_settled s).made,
      h (itr s).rounds,
      after_least t (itr t).bounds (itr_fixed t) (itr s).rounds j jl,
    )
