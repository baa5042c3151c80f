-- Two lists of rows compared in step: the first rows, the rows still to come, and where one list ends. Assumes nothing.
use Rattle.std.specs.Prelude.{Option, None, Some}
use Prim.Native.Nat.{ℕ, ◌+◌, min, ◌≤◌, ◌<◌}
use mathlib.Core.Path.{◌≡◌, ◌∙◌}
use mathlib.Core.Bool.{Bool, true, false, ◌&&◌}
use mathlib.Core.Logic.{◌≢◌}
use mathlib.Core.List.{List, [], ◌∷◌}
use native.Mathlib.Numerals.{add-one}
use native.Mathlib.Omega.{arith}
use lib.ListN.{length, get_or, drop, drop_of_length-le}
use lib.Dec.{eqb}
use lib.Seq.{drop-cons}
use borrow.Author.Tests.{eq-eqb, ne_eqb}
use Rattle.laws.proofs.Tests.{by_test}
use Rattle.recording.specs.declared.row.Row.{Row}
use Rattle.recording.specs.Rows.{no_row}
use Rattle.legality.specs.Differences.{first_difference}

-- ---- the first rows
module _ (r s : Row) where
  abbrev pub same_start : Bool
  same_start = eqb r.from s.from && eqb r.at s.at

  -- the difference of these two rows alone
  abbrev pub row_difference : Option ℕ
  row_difference = first_difference (r ∷ []) (s ∷ [])

  pub start_apart : same_start ≡ false → row_difference ≡ Some (min r.from s.from)
  unfolding first_difference
  start_apart e = rw e

  pub end_apart : same_start ≡ true → r.to ≢ s.to → row_difference ≡ Some (min r.to s.to)
  unfolding first_difference
  end_apart e q = rw (e, ne_eqb r.to s.to q)

  pub same_row : same_start ≡ true → r.to ≡ s.to → row_difference ≡ None
  unfolding first_difference
  same_row e q = rw (e, eq-eqb r.to s.to q)

  module _ (rs ss : List Row) where
    found_here : (d : ℕ) → row_difference ≡ Some d → first_difference (r ∷ rs) (s ∷ ss) ≡ Some d
    unfolding first_difference
    found_here d f =
        by_test same_start
        (λ e. by_test (eqb r.to s.to) (λ q. let z : ◌≡◌ {A = ℕ} 0 1 = cc (rw (e, q) at f) in absurd (omega arith)) (λ q. rw (e, q) (rw (e, q) at f)))
        (λ e. rw e (rw e at f))

    not_here : row_difference ≡ None → first_difference (r ∷ rs) (s ∷ ss) ≡ first_difference rs ss
    unfolding first_difference
    not_here f =
        by_test same_start
        (λ e. by_test (eqb r.to s.to) (λ q. rw (e, q)) (λ q. let z : ◌≡◌ {A = ℕ} 0 1 = cc (rw (e, q) at f) in absurd (omega arith)))
        (λ e. let z : ◌≡◌ {A = ℕ} 0 1 = cc (rw e at f) in absurd (omega arith))

-- ---- the rows from the n-th on
module _ (first second : List Row) where
  abbrev pub later : ℕ → Option ℕ
  later n = first_difference (drop n first) (drop n second)

  module _ (n : ℕ) (a : n < length first) (b : n < length second) (r s : Row) (p : r ≡ get_or first n no_row) (q : s ≡ get_or second n no_row) where
    later_is : later n ≡ first_difference (r ∷ drop (n + 1) first) (s ∷ drop (n + 1) second)
    later_is = rw (p, q, add-one n, drop-cons first n no_row a, drop-cons second n no_row b)

    pub later_found : (d : ℕ) → row_difference r s ≡ Some d → later n ≡ Some d
    later_found d f = later_is ∙ found_here r s (drop (n + 1) first) (drop (n + 1) second) d f

    pub later-next : row_difference r s ≡ None → later n ≡ later (n + 1)
    later-next f = later_is ∙ not_here r s (drop (n + 1) first) (drop (n + 1) second) f

  pub first_more : (n : ℕ) → n < length first → length second ≤ n → (r : Row) → r ≡ get_or first n no_row → later n ≡ Some r.from
  unfolding first_difference
  first_more n a b r p = rw (p, drop-cons first n no_row a, drop_of_length-le second b)

  pub second_more : (n : ℕ) → length first ≤ n → n < length second → (s : Row) → s ≡ get_or second n no_row → later n ≡ Some s.from
  unfolding first_difference
  second_more n a b s q = rw (q, drop_of_length-le first a, drop-cons second n no_row b)

  pub no_more : (n : ℕ) → length first ≤ n → length second ≤ n → later n ≡ None
  unfolding first_difference
  no_more n a b = rw (drop_of_length-le first a, drop_of_length-le second b)
