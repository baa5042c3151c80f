-- The first difference of two recordings with rows in order: their first rows differ there, or it is that of the rest; the two exchanged, and none.
-- Assumes nothing.
--   Opened   what order says of a first row and the rest
use Rattle.std.specs.Prelude.{Option, None, Some}
use Prim.Native.Nat.{ℕ, ◌≤◌, ◌<◌, min}
use mathlib.Core.Path.{◌≡◌, refl, sym, ap, subst, ◌∙◌}
use mathlib.Core.Logic.{◌↔◌, ◌≢◌}
use mathlib.Core.Bool.{true, false, not, ◌&&◌}
use mathlib.Core.List.{List, [], ◌∷◌}
use native.Mathlib.Omega.{arith}
use lib.Dec.{eqb, leb}
use borrow.Author.Tests.{eq-eqb, eqb-true, eqb-false, not-true}
use Rattle.laws.proofs.Tests.{by_test, by_order, by_equal, both_ways, and_left, and_right, and_both, same_test}
use Rattle.theory.specs.Runs.{idle, runs}
use Rattle.theory.proofs.Work.{same-job}
use Rattle.recording.specs.declared.row.Row.{Row}
use Rattle.recording.specs.Rows.{follows, next_follows, in_order}
use Rattle.recording.proofs.Order.{order_parts}
use Rattle.legality.specs.Recorded.{row_entry}
use Rattle.legality.specs.Differences.{first_difference, FirstAt}
use Rattle.legality.proofs.Rows.{Rising, rising_after, follows_le, by_row, entry_in, entry-before, entry-after, idle_before, idle_runs}

record Opened (r : Row) (rs : List Row) : Type 0 where
  long : r.from < r.to
  next : next_follows r rs ≡ true
  rest : in_order rs ≡ true
  rising : Rising r.to rs

open_order : (r : Row) (rs : List Row) → in_order (r ∷ rs) ≡ true → Opened r rs
open_order r rs h =
    let all = order_parts r rs h in
    record { long = all.0; next = all.1; rest = all.2; rising = rising_after r rs all.1 all.2 }

-- ---- one recording
follows_other : (before r : Row) → follows before r ≡ true → before.to ≡ r.from → before.at ≡ r.at → ⊥
unfolding follows
follows_other before r h e q =
    let same = eqb before.to r.from && eqb before.at r.at in
    both_ways
    (and_both _ _ (eq-eqb before.to r.from e) (eq-eqb before.at r.at q))
    (not-true same (and_right (leb before.to r.from) (not same) h))

-- at the end of a row its job stops
stops : (r : Row) (rs : List Row) → next_follows r rs ≡ true → in_order rs ≡ true → row_entry rs r.to ≢ runs r.at
unfolding next_follows row_entry
stops r [] f h e = idle_runs refl e
stops r (q ∷ qs) f h e =
    let o = open_order q qs h in
    let after : r.to ≤ q.from = follows_le r q f in
    by_row q r.to
    (λ l. idle_runs (idle_before q.to qs o.rising r.to (omega (arith, o.long))) (sym (entry-before q qs r.to l) ∙ e))
    (λ l m. follows_other r q f (omega arith) (sym (same-job (entry_in q qs r.to l m) e)))
    (λ l m. omega (arith, o.long))

module _ (r : Row) (rs : List Row) (o : Opened r rs) where
  quiet : (n : ℕ) → n < r.from → row_entry (r ∷ rs) n ≡ idle
  quiet n l = entry-before r rs n l ∙ idle_before r.to rs o.rising n (omega (arith, o.long))

  begins : row_entry (r ∷ rs) r.from ≡ runs r.at
  begins = entry_in r rs r.from (omega arith) o.long

  ends : row_entry (r ∷ rs) r.to ≢ runs r.at
  ends e = stops r rs o.next o.rest (sym (entry-after r rs r.to (omega (arith, o.long)) (omega arith)) ∙ e)

-- ---- two recordings
pub first_swap : (a b : List Row) (d : ℕ) → FirstAt a b (Some d) → FirstAt b a (Some d)
first_swap a b d h = (λ n l. sym (h.0 n l), λ e. h.1 (sym e))

-- one has no row left
first_alone : (r : Row) (rs : List Row) → Opened r rs → FirstAt (r ∷ rs) [] (Some r.from)
unfolding row_entry
first_alone r rs o = (λ n l. quiet r rs o n l, λ e. idle_runs e (begins r rs o))

-- neither has
first_none : FirstAt [] [] None
first_none n = refl

module _ (r s : Row) (rs ss : List Row) (o : Opened r rs) (p : Opened s ss) where
  -- the first begins earlier
  first_earlier : r.from < s.from → FirstAt (r ∷ rs) (s ∷ ss) (Some r.from)
  first_earlier l = (
    λ n m. quiet r rs o n m ∙ sym (quiet s ss p n (omega arith)),
    λ e. idle_runs (quiet s ss p r.from l) (sym e ∙ begins r rs o),
  )

  -- they begin together, with different jobs
  first_other : r.from ≡ s.from → r.at ≢ s.at → FirstAt (r ∷ rs) (s ∷ ss) (Some r.from)
  first_other q ne = (
    λ n m. quiet r rs o n m ∙ sym (quiet s ss p n (omega arith)),
    λ e. ne (same-job (begins r rs o) (e ∙ ap (row_entry (s ∷ ss)) q ∙ begins s ss p)),
  )

  -- they begin together, with one job
  module _ (q : r.from ≡ s.from) (job : r.at ≡ s.at) where
    together : (n : ℕ) → n < r.to → n < s.to → row_entry (r ∷ rs) n ≡ row_entry (s ∷ ss) n
    together n l m =
        by_order r.from n
        (λ a. entry_in r rs n a l ∙ ap runs job ∙ sym (entry_in s ss n (omega arith) m))
        (λ a. quiet r rs o n a ∙ sym (quiet s ss p n (omega arith)))

    -- and the first ends earlier
    first_shorter : r.to < s.to → FirstAt (r ∷ rs) (s ∷ ss) (Some r.to)
    first_shorter l = (
      λ n m. together n m (omega arith),
      λ e. ends r rs o (e ∙ entry_in s ss r.to (omega (arith, o.long)) l ∙ ap runs (sym job)),
    )

    -- and they end together
    module _ (end : r.to ≡ s.to) where
      same_after : (n : ℕ) → (r.to ≤ n → row_entry rs n ≡ row_entry ss n) → row_entry (r ∷ rs) n ≡ row_entry (s ∷ ss) n
      same_after n h =
          by_order r.to n
          (λ l. entry-after r rs n (omega (arith, o.long)) l ∙ h l ∙ sym (entry-after s ss n (omega (arith, p.long)) (omega arith)))
          (λ l. together n l (omega arith))

      differ_after : (n : ℕ) → row_entry rs n ≢ row_entry ss n → row_entry (r ∷ rs) n ≢ row_entry (s ∷ ss) n
      differ_after n h e =
          by_order r.to n
          (λ l. h (sym (entry-after r rs n (omega (arith, o.long)) l) ∙ e ∙ entry-after s ss n (omega (arith, p.long)) (omega arith)))
          (λ l. h (idle_before r.to rs o.rising n l ∙ sym (idle_before s.to ss p.rising n (omega arith))))

      first_later : (d : Option ℕ) → FirstAt rs ss d → FirstAt (r ∷ rs) (s ∷ ss) d
      first_later None h = λ n. same_after n (λ l. h n)
      first_later (Some d) h = (λ n l. same_after n (λ m. h.0 n l), differ_after d h.1)

-- at the earlier of two times
first_min : (a b : List Row) (x y : ℕ) → (x ≤ y → FirstAt a b (Some x)) → (y < x → FirstAt a b (Some y)) → FirstAt a b (Some (min x y))
first_min a b x y f g =
    by_order x y
    (λ l. let e : min x y ≡ x = omega arith in rw e (f l))
    (λ l. let e : min x y ≡ y = omega arith in rw e (g l))

first_begins : (r s : Row) (rs ss : List Row) → Opened r rs → Opened s ss → eqb r.from s.from && eqb r.at s.at ≡ false
    → FirstAt (r ∷ rs) (s ∷ ss) (Some (min r.from s.from))
first_begins r s rs ss o p h =
    first_min (r ∷ rs) (s ∷ ss) r.from s.from
    (λ l.
    by_equal r.from s.from
    (λ e. first_other r s rs ss o p e (λ q. both_ways (and_both _ _ (eq-eqb r.from s.from e) (eq-eqb r.at s.at q)) h))
    (λ ne. first_earlier r s rs ss o p (omega arith)))
    (λ l. first_swap (s ∷ ss) (r ∷ rs) s.from (first_earlier s r ss rs p o l))

first_ends : (r s : Row) (rs ss : List Row) → Opened r rs → Opened s ss → r.from ≡ s.from → r.at ≡ s.at → r.to ≢ s.to
    → FirstAt (r ∷ rs) (s ∷ ss) (Some (min r.to s.to))
first_ends r s rs ss o p q job ne =
    first_min (r ∷ rs) (s ∷ ss) r.to s.to
    (λ l. first_shorter r s rs ss o p q job (omega arith))
    (λ l. first_swap (s ∷ ss) (r ∷ rs) s.to (first_shorter s r ss rs p o (sym q) (sym job) l))

pub first_difference_lem : (a b : List Row) → in_order a ≡ true → in_order b ≡ true → FirstAt a b (first_difference a b)
unfolding first_difference
first_difference_lem [] [] h k = first_none
first_difference_lem [] (s ∷ ss) h k = first_swap (s ∷ ss) [] s.from (first_alone s ss (open_order s ss k))
first_difference_lem (r ∷ rs) [] h k = first_alone r rs (open_order r rs h)
first_difference_lem (r ∷ rs) (s ∷ ss) h k =
    let o = open_order r rs h in
    let p = open_order s ss k in
    let rest : FirstAt rs ss (first_difference rs ss) = first_difference_lem rs ss o.rest p.rest in
    by_test (eqb r.from s.from && eqb r.at s.at)
    (λ e.
    let q : r.from ≡ s.from = eqb-true r.from s.from (and_left (eqb r.from s.from) (eqb r.at s.at) e) in
    let job : r.at ≡ s.at = eqb-true r.at s.at (and_right (eqb r.from s.from) (eqb r.at s.at) e) in
    by_test (eqb r.to s.to)
    (λ f. rw (e, f) (first_later r s rs ss o p q job (eqb-true r.to s.to f) (first_difference rs ss) rest))
    (λ f. rw (e, f) (first_ends r s rs ss o p q job (eqb-false r.to s.to f))))
    (λ e. rw e (first_begins r s rs ss o p e))

-- ---- the two exchanged
min_swap : (x y : ℕ) → min x y ≡ min y x
min_swap x y = omega arith

equal_swap : (x y : ℕ) → eqb x y ≡ eqb y x
equal_swap x y = same_test (eqb x y) (eqb y x) (λ e. eq-eqb y x (sym (eqb-true x y e))) (λ e. eq-eqb x y (sym (eqb-true y x e)))

pub difference_swap : (a b : List Row) → first_difference b a ≡ first_difference a b
unfolding first_difference
difference_swap [] [] = refl
difference_swap [] (s ∷ ss) = refl
difference_swap (r ∷ rs) [] = refl
difference_swap (r ∷ rs) (s ∷ ss) =
    rw (
      equal_swap s.from r.from,
      equal_swap s.at r.at,
      equal_swap s.to r.to,
      min_swap s.from r.from,
      min_swap s.to r.to,
      difference_swap rs ss,
    )
    refl

-- ---- no difference
module _ (a b : List Row) where
  same_none : (d : Option ℕ) → FirstAt a b d → ((n : ℕ) → row_entry a n ≡ row_entry b n) → d ≡ None
  same_none None h same = refl
  same_none (Some d) h same = absurd (h.1 (same d))

  none_same : (d : Option ℕ) → FirstAt a b d → d ≡ None → (n : ℕ) → row_entry a n ≡ row_entry b n
  none_same d h e = subst (FirstAt a b) e h

  pub none_iff : FirstAt a b (first_difference a b) → (first_difference a b ≡ None) ↔ ((n : ℕ) → row_entry a n ≡ row_entry b n)
  none_iff h = (none_same (first_difference a b) h, same_none (first_difference a b) h)
