-- Each tick lies in one row or in the gap before one: the tests of rows say of every tick what a legal entry has to, and back. Assumes nothing.
--   Waits      a job is ready at tick n, by the two times between which it is
--   Suits      an entry suits the jobs that wait at its tick
use Prim.Native.Nat.{ℕ, ◌≤◌, ◌<◌, max, min}
use mathlib.Core.Path.{◌≡◌, refl, subst, ◌∙◌}
use mathlib.Core.Bool.{true, not, ◌||◌}
use mathlib.Core.List.{List, [], ◌∷◌}
use mathlib.Core.Logic.{◌↔◌}
use native.Mathlib.Omega.{arith}
use lib.Dec.{leb}
use borrow.Author.Tests.{leb-true, ltb-true, le-leb, lt-ltb, not-true}
use Rattle.laws.proofs.Tests.{by_test, both_ways, and_parts, and_both}
use Rattle.laws.proofs.Every.{every_at, every_all}
use Rattle.theory.specs.Table.{Table}
use Rattle.theory.specs.Runs.{Entry, idle, runs}
use Rattle.recording.specs.declared.row.Row.{Row}
use Rattle.legality.specs.Recorded.{row_entry, end_from}
use Rattle.legality.specs.Procedure.{done, ready_from, waits, row_fits, rows_fit}
use Rattle.legality.proofs.Rows.{Rising, by_row, entry_in, entry-before, entry-after, idle_before, end_le}

pub record Waits (t : Table) (rows : List Row) (n v : ℕ) : Type 0 where
  pub inside : v < t.count
  pub since : ready_from t rows v ≤ n
  pub until : n < done rows v

abbrev pub Suits : Table → List Row → ℕ → Entry → Type 0
Suits t rows n idle = (v : ℕ) → Waits t rows n v → ⊥
Suits t rows n (runs u) = (u < t.count) × ((v : ℕ) → Waits t rows n v → t.urgency v ≤ t.urgency u)

-- what the tests of a row ask, as propositions
abbrev GapSuits : Table → List Row → ℕ → ℕ → Type 0
GapSuits t rows from to = (n : ℕ) → from ≤ n → n < to → (v : ℕ) → Waits t rows n v → ⊥

abbrev RowSuits : Table → List Row → Row → Type 0
RowSuits t rows r = (n : ℕ) → r.from ≤ n → n < r.to → (v : ℕ) → Waits t rows n v → t.urgency v ≤ t.urgency r.at

-- ---- a stretch of time
module _ (t : Table) (rows : List Row) (from to v : ℕ) (l : v < t.count) where
  -- a job that waits in it does so at its first tick from which it is ready
  waits_iff : (waits t rows from to v ≡ true) ↔ ((n : ℕ) × (from ≤ n) × (n < to) × Waits t rows n v)
  unfolding waits
  waits_iff =
      let first = max from (ready_from t rows v) in
      let last = min to (done rows v) in (
        λ h.
            let meet = ltb-true first last h in
            (first, omega arith, omega arith, record { inside = l; since = omega arith; until = omega arith }),
        λ w. lt-ltb first last (omega (arith, w.1, w.2, w.3.since, w.3.until)),
      )

  -- it waits at no tick, or only where one number is within another
  never_waits : ((n : ℕ) → from ≤ n → n < to → Waits t rows n v → ⊥) → not (waits t rows from to v) ≡ true
  never_waits h =
      by_test (waits t rows from to v)
      (λ e. let w = waits_iff.0 e in absurd (h w.0 w.1 w.2 w.3))
      (λ e. rw e)

  waits-within : (x y : ℕ) → ((n : ℕ) → from ≤ n → n < to → Waits t rows n v → x ≤ y) → not (waits t rows from to v) || leb x y ≡ true
  waits-within x y h =
      by_test (waits t rows from to v)
      (λ e. let w = waits_iff.0 e in rw (e, le-leb x y (h w.0 w.1 w.2 w.3)))
      (λ e. rw e)

module _ (t : Table) (rows : List Row) where
  -- ---- a row and the gap before it
  row_iff : (gap : ℕ) (r : Row) → (row_fits t rows gap r ≡ true) ↔ ((r.at < t.count) × GapSuits t rows gap r.from × RowSuits t rows r)
  unfolding row_fits
  row_iff gap r = (
    λ h.
        let all = and_parts h in
        let own = and_parts all.0 in (
          ltb-true r.at t.count own.0,
          λ n a b v w.
              let waiting = (waits_iff t rows gap r.from v w.inside).1 (n, a, b, w) in
              both_ways waiting (not-true _ (every_at _ t.count v w.inside own.1)),
          λ n a b v w.
              let waiting = (waits_iff t rows r.from r.to v w.inside).1 (n, a, b, w) in
              leb-true _ _ (rw waiting at (every_at _ t.count v w.inside all.1)),
        ),
    λ s.
        and_both _ _
        (and_both _ _
        (lt-ltb r.at t.count s.0)
        (every_all _ t.count (λ v l. never_waits t rows gap r.from v l (λ n a b w. s.1 n a b v w))))
        (every_all _ t.count (λ v l. waits-within t rows r.from r.to v l (t.urgency v) (t.urgency r.at) (λ n a b w. s.2 n a b v w))),
  )

  -- ---- all rows, from the time at which the gap before them begins
  pub rows_suit : (time : ℕ) (rs : List Row) → Rising time rs → rows_fit t rows time rs ≡ true
      → (n : ℕ) → time ≤ n → n < end_from time rs → Suits t rows n (row_entry rs n)
  unfolding rows_fit end_from
  rows_suit time [] h e n a b = absurd (omega arith)
  rows_suit time (r ∷ rs) h e n a b =
      let all = and_parts e in
      let own = (row_iff time r).0 all.0 in
      by_row r n
      (λ l. rw (entry-before r rs n l ∙ idle_before r.to rs h.2 n (omega arith)) (own.1 n a l))
      (λ l m. rw (entry_in r rs n l m) (own.0, own.2 n l m))
      (λ l m. rw (entry-after r rs n l m) (rows_suit r.to rs h.2 all.1 n m b))

  pub suit_rows : (time : ℕ) (rs : List Row) → Rising time rs
      → ((n : ℕ) → time ≤ n → n < end_from time rs → Suits t rows n (row_entry rs n)) → rows_fit t rows time rs ≡ true
  unfolding rows_fit end_from
  suit_rows time [] h s = refl
  suit_rows time (r ∷ rs) h s =
      let ended : r.to ≤ end_from r.to rs = end_le r.to rs h.2 in
      let at_row : (n : ℕ) → r.from ≤ n → n < r.to → Suits t rows n (runs r.at)
      = (λ n a b. subst (Suits t rows n) (entry_in r rs n a b) (s n (omega arith) (omega arith))) in
      let at_gap : (n : ℕ) → time ≤ n → n < r.from → Suits t rows n idle
      = (λ n a b. subst (Suits t rows n) (entry-before r rs n b ∙ idle_before r.to rs h.2 n (omega arith)) (s n a (omega arith))) in
      and_both _ _
      ((row_iff time r).1 ((at_row r.from (omega arith) h.1).0, at_gap, λ n a b. (at_row n a b).1))
      (suit_rows r.to rs h.2 (λ n a b. subst (Suits t rows n) (entry-after r rs n (omega arith) a) (s n (omega arith) b)))
