-- What rows that come one after another say of a job: with one row more its total, begin and end, and that it begins and works before it ends.
-- Assumes nothing.
use Prim.Native.Nat.{ℕ, zero, suc, ◌+◌, ◌-◌, ◌≤◌, ◌<◌}
use mathlib.Core.Path.{◌≡◌, ◌∙◌}
use mathlib.Core.Bool.{true, false, cond}
use mathlib.Core.Logic.{◌≢◌}
use mathlib.Core.List.{List, [], ◌∷◌, ◌++◌}
use native.Mathlib.Omega.{arith}
use native.Mathlib.Nat.{add-zero}
use lib.ListN.{take}
use lib.Dec.{eqb}
use borrow.Author.Tests.{eq-eqb, ne_eqb}
use Rattle.laws.proofs.Tests.{by_test, by_equal}
use Rattle.recording.specs.declared.row.Row.{Row}
use Rattle.legality.specs.Recorded.{end_from}
use Rattle.legality.specs.Procedure.{total, begin, done}
use Rattle.legality.proofs.Rows.{Rising, end_le}

-- ---- the first of rising rows, and the last of them
pub rising_take : (time : ℕ) (rs : List Row) → Rising time rs → (n : ℕ) → Rising time (take n rs)
rising_take time rs h zero = tt
rising_take time [] h (suc n) = tt
rising_take time (r ∷ rs) h (suc n) = (h.0, h.1, rising_take r.to rs h.2 n)

pub record Last (time : ℕ) (rs : List Row) (r : Row) : Type 0 where
  pub rising : Rising time rs
  pub after : end_from time rs ≤ r.from
  pub lasts : r.from < r.to

pub rising_last : (time : ℕ) (rs : List Row) (r : Row) → Rising time (rs ++ (r ∷ [])) → Last time rs r
unfolding end_from
rising_last time [] r h = record { rising = tt; after = h.0; lasts = h.1 }
rising_last time (s ∷ rs) r h =
    let rest = rising_last s.to rs r h.2 in
    record { rising = (h.0, h.1, rest.rising); after = rest.after; lasts = rest.lasts }

-- ---- one row more
module _ (u : ℕ) where
  total_more : (rs : List Row) (r : Row) → total (rs ++ (r ∷ [])) u ≡ total rs u + cond (eqb r.at u) (r.to - r.from) 0
  unfolding total
  total_more [] r = omega arith
  total_more (s ∷ rs) r = omega (arith, total_more rs r)

  begin_apart : (rs : List Row) (r : Row) → eqb r.at u ≡ false → begin (rs ++ (r ∷ [])) u ≡ begin rs u
  unfolding begin
  begin_apart [] r e = rw e
  begin_apart (s ∷ rs) r e = rw (begin_apart rs r e)

  begin_first : (time : ℕ) (rs : List Row) (r : Row) → Rising time rs → eqb r.at u ≡ true → total rs u ≡ 0 → begin (rs ++ (r ∷ [])) u ≡ r.from
  unfolding begin total
  begin_first time [] r h e z = rw e
  begin_first time (s ∷ rs) r h e z =
      by_test (eqb s.at u)
      (λ q. absurd (omega (arith, rw q at z)))
      (λ q. rw q (begin_first s.to rs r h.2 e (omega (arith, rw q at z))))

  begin_stays : (rs : List Row) (r : Row) → 0 < total rs u → begin (rs ++ (r ∷ [])) u ≡ begin rs u
  unfolding begin total
  begin_stays [] r l = absurd (omega arith)
  begin_stays (s ∷ rs) r l =
      by_test (eqb s.at u) (λ q. rw q) (λ q. rw q (begin_stays rs r (omega (arith, rw q at l))))

  done_apart : (rs : List Row) (r : Row) → eqb r.at u ≡ false → done (rs ++ (r ∷ [])) u ≡ done rs u
  unfolding done
  done_apart [] r e = rw e
  done_apart (s ∷ rs) r e = rw (done_apart rs r e)

  done-last : (time : ℕ) (rs : List Row) (r : Row) → Last time rs r → eqb r.at u ≡ true → done (rs ++ (r ∷ [])) u ≡ r.to
  unfolding done end_from
  done-last time [] r l e = rw e (omega arith)
  done-last time (s ∷ rs) r l e =
      let later : Last s.to rs r = record { rising = l.rising.2; after = l.after; lasts = l.lasts } in
      let ended : s.to ≤ end_from s.to rs = end_le s.to rs l.rising.2 in
      rw (done-last s.to rs r later e)
      (by_test (eqb s.at u) (λ q. rw q (omega (arith, l.after, l.lasts))) (λ q. rw q (omega arith)))

  -- what a row changes of its own job's figures
  pub total_own : (rs : List Row) (r : Row) → r.at ≡ u → total (rs ++ (r ∷ [])) u ≡ total rs u + (r.to - r.from)
  total_own rs r e = rw (eq-eqb r.at u e) at (total_more rs r)

  pub begin_own : (time : ℕ) (rs : List Row) (r : Row) → Rising time rs → r.at ≡ u
      → begin (rs ++ (r ∷ [])) u ≡ cond (eqb (total rs u) 0) r.from (begin rs u)
  begin_own time rs r h e =
      by_equal (total rs u) 0
      (λ z. rw (eq-eqb (total rs u) 0 z) (begin_first time rs r h (eq-eqb r.at u e) z))
      (λ z. rw (ne_eqb (total rs u) 0 z) (begin_stays rs r (omega arith)))

  pub done_own : (time : ℕ) (rs : List Row) (r : Row) → Last time rs r → r.at ≡ u → done (rs ++ (r ∷ [])) u ≡ r.to
  done_own time rs r l e = done-last time rs r l (eq-eqb r.at u e)

  -- and of no other's
  pub total_other : (rs : List Row) (r : Row) → r.at ≢ u → total (rs ++ (r ∷ [])) u ≡ total rs u
  total_other rs r e = (rw (ne_eqb r.at u e) at (total_more rs r)) ∙ add-zero (total rs u)

  pub begin_other : (rs : List Row) (r : Row) → r.at ≢ u → begin (rs ++ (r ∷ [])) u ≡ begin rs u
  begin_other rs r e = begin_apart rs r (ne_eqb r.at u e)

  pub done_other : (rs : List Row) (r : Row) → r.at ≢ u → done (rs ++ (r ∷ [])) u ≡ done rs u
  done_other rs r e = done_apart rs r (ne_eqb r.at u e)

  -- ---- a job's work takes place between its begin and its end
  pub total_le_end : (time : ℕ) (rs : List Row) → Rising time rs → time + total rs u ≤ end_from time rs
  unfolding total end_from
  total_le_end time [] h = omega arith
  total_le_end time (r ∷ rs) h =
      let rest : r.to + total rs u ≤ end_from r.to rs = total_le_end r.to rs h.2 in
      by_test (eqb r.at u) (λ e. rw e (omega arith)) (λ e. rw e (omega arith))

  begin-late : (time : ℕ) (rs : List Row) → Rising time rs → 0 < total rs u → time ≤ begin rs u
  unfolding total begin
  begin-late time [] h l = absurd (omega arith)
  begin-late time (r ∷ rs) h l =
      by_test (eqb r.at u)
      (λ e. rw e h.0)
      (λ e. rw e (omega (arith, begin-late r.to rs h.2 (omega (arith, rw e at l)))))

  pub begin-total-done : (time : ℕ) (rs : List Row) → Rising time rs → 0 < total rs u → begin rs u + total rs u ≤ done rs u
  unfolding total begin done
  begin-total-done time [] h l = absurd (omega arith)
  begin-total-done time (r ∷ rs) h l =
      by_test (eqb r.at u)
      (λ e.
      by_equal (total rs u) 0
      (λ z. rw e (omega arith))
      (λ z. rw e (omega (arith, begin-late r.to rs h.2 (omega arith), begin-total-done r.to rs h.2 (omega arith)))))
      (λ e. rw e (omega (arith, begin-total-done r.to rs h.2 (omega (arith, rw e at l)))))
