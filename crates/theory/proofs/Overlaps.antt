-- Overlap as two orders, and the bounds that decide it. Assumes nothing.
use Prim.Native.Nat.{ℕ, ◌≤◌, ◌<◌}
use mathlib.Core.Path.{◌≡◌}
use mathlib.Core.Bool.{true}
use mathlib.Core.List.{List}
use native.Mathlib.Omega.{arith}
use lib.Dec.{ltb}
use borrow.Author.Tests.{ltb-true, lt-ltb}
use Rattle.laws.specs.Words.{number_at}
use Rattle.laws.proofs.Tests.{and_left, and_right}
use Rattle.theory.specs.Table.{Table}
use Rattle.theory.specs.Bounds.{overlap}

module _ (t : Table) (b : List ℕ) (k j u : ℕ) where
  pub overlap-left : overlap t b k j u ≡ true → t.earliest k < number_at b u
  unfolding overlap
  overlap-left e = ltb-true (t.earliest k) (number_at b u) (and_left (ltb (t.earliest k) (number_at b u)) (ltb (t.earliest u) (number_at b j)) e)

  pub overlap_right : overlap t b k j u ≡ true → t.earliest u < number_at b j
  unfolding overlap
  overlap_right e = ltb-true (t.earliest u) (number_at b j) (and_right (ltb (t.earliest k) (number_at b u)) (ltb (t.earliest u) (number_at b j)) e)

  pub overlap_by : t.earliest k < number_at b u → t.earliest u < number_at b j → overlap t b k j u ≡ true
  unfolding overlap
  overlap_by l m = rw (lt-ltb (t.earliest k) (number_at b u), lt-ltb)

-- what overlaps in one table overlaps in another where the releases are the same and the bounds no lower
pub overlap_carry : (s t : Table) (a b : List ℕ) (k j u k' j' u' : ℕ) → s.earliest k ≡ t.earliest k' → s.earliest u ≡ t.earliest u'
    → number_at a u ≤ number_at b u' → number_at a j ≤ number_at b j' → overlap s a k j u ≡ true → overlap t b k' j' u' ≡ true
overlap_carry s t a b k j u k' j' u' ek eu lu lj e =
    overlap_by t b k' j' u' (omega (arith, overlap-left s a k j u e)) (omega (arith, overlap_right s a k j u e))
