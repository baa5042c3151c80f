-- Rows in order, and the entries that they show.
--   Rising   the rows come one after another, the first not before a time given
-- That a row does not go on with the job of the row before is not used here. Assumes nothing.
use Prim.Native.Nat.{ℕ, ◌≤◌, ◌<◌}
use mathlib.Core.Path.{◌≡◌, refl, sym, ap, ◌∙◌}
use mathlib.Core.Bool.{true}
use mathlib.Core.List.{List, [], ◌∷◌}
use native.Mathlib.Omega.{arith}
use native.Mathlib.Nat.{zero-add}
use lib.ListN.{length, get_or, get_or-eq_default}
use borrow.Author.Tests.{leb-true, le-leb, lt-leb, lt-ltb, le-ltb}
use Rattle.laws.proofs.Tests.{by_order, and_parts}
use Rattle.laws.proofs.Tabulate.{length-tabulate, get_d_tabulate}
use Rattle.theory.specs.Runs.{Entry, idle, runs}
use Rattle.recording.specs.declared.row.Row.{Row}
use Rattle.recording.specs.Rows.{follows, next_follows, in_order}
use Rattle.recording.proofs.Order.{order_parts}
use Rattle.legality.specs.Recorded.{row_entry, end_from, end_of, recorded}

abbrev pub Rising : ℕ → List Row → Type 0
Rising time [] = Unit {0}
Rising time (r ∷ rs) = (time ≤ r.from) × (r.from < r.to) × Rising r.to rs

-- ---- rows in order are rising
pub follows_le : (before r : Row) → follows before r ≡ true → before.to ≤ r.from
unfolding follows
follows_le before r h = leb-true before.to r.from (and_parts h).0

pub rising_after : (r : Row) (rs : List Row) → next_follows r rs ≡ true → in_order rs ≡ true → Rising r.to rs
unfolding next_follows
rising_after r [] f h = tt
rising_after r (s ∷ rs) f h =
    let all = order_parts s rs h in
    (follows_le r s f, all.0, rising_after s rs all.1 all.2)

pub order_rising : (rows : List Row) → in_order rows ≡ true → Rising 0 rows
order_rising [] h = tt
order_rising (r ∷ rs) h =
    let first : 0 ≤ r.from = omega arith in
    let all = order_parts r rs h in
    (first, all.0, rising_after r rs all.1 all.2)

-- ---- the entry of a tick before, in or after the first row
module _ (r : Row) (rs : List Row) (n : ℕ) where
  pub entry_in : r.from ≤ n → n < r.to → row_entry (r ∷ rs) n ≡ runs r.at
  unfolding row_entry
  entry_in a b = rw (le-leb r.from n a, lt-ltb n r.to b)

  pub entry-before : n < r.from → row_entry (r ∷ rs) n ≡ row_entry rs n
  unfolding row_entry
  entry-before a = rw (lt-leb r.from n a)

  pub entry-after : r.from ≤ n → r.to ≤ n → row_entry (r ∷ rs) n ≡ row_entry rs n
  unfolding row_entry
  entry-after a b = rw (le-leb r.from n a, le-ltb n r.to b)

-- a proof for each: before the first row, in it, after it
pub by_row : {X : Type 0} (r : Row) (n : ℕ) → (n < r.from → X) → (r.from ≤ n → n < r.to → X) → (r.from ≤ n → r.to ≤ n → X) → X
by_row r n f g h = by_order r.from n (λ a. by_order r.to n (h a) (g a)) f

pub idle_runs : {e : Entry} {u : ℕ} → e ≡ idle → e ≡ runs u → ⊥
idle_runs p q = let z : ◌≡◌ {A = ℕ} 0 1 = cc in omega arith

-- ---- idle before the first row and after the last
pub end_le : (time : ℕ) (rs : List Row) → Rising time rs → time ≤ end_from time rs
unfolding end_from
end_le time [] h = omega arith
end_le time (r ∷ rs) h = omega (arith, end_le r.to rs h.2)

pub idle_before : (time : ℕ) (rs : List Row) → Rising time rs → (n : ℕ) → n < time → row_entry rs n ≡ idle
unfolding row_entry
idle_before time [] h n l = refl
idle_before time (r ∷ rs) h n l = entry-before r rs n (omega arith) ∙ idle_before r.to rs h.2 n (omega arith)

pub idle_after : (time : ℕ) (rs : List Row) → Rising time rs → (n : ℕ) → end_from time rs ≤ n → row_entry rs n ≡ idle
unfolding row_entry end_from
idle_after time [] h n l = refl
idle_after time (r ∷ rs) h n l =
    let ended : r.to ≤ end_from r.to rs = end_le r.to rs h.2 in
    entry-after r rs n (omega arith) (omega arith) ∙ idle_after r.to rs h.2 n l

-- ---- the run that is recorded
pub recorded-length : (rows : List Row) → length (recorded rows) ≡ end_of rows
unfolding recorded
recorded-length rows = length-tabulate 0 (end_of rows) (row_entry rows)

recorded_inside : (rows : List Row) (n : ℕ) → n < end_of rows → get_or (recorded rows) n idle ≡ row_entry rows n
unfolding recorded
recorded_inside rows n l = get_d_tabulate 0 (end_of rows) (row_entry rows) idle n l ∙ ap (row_entry rows) (zero-add n)

pub recorded-entry : (rows : List Row) → Rising 0 rows → (n : ℕ) → get_or (recorded rows) n idle ≡ row_entry rows n
recorded-entry rows h n =
    by_order (end_of rows) n
    (λ l. get_or-eq_default (recorded rows) idle (omega (arith, recorded-length rows)) ∙ sym (idle_after 0 rows h n l))
    (recorded_inside rows n)
