-- A job's work in the run that rows show: at any time the sum of what its rows have given by then; its begin, its end and its total. Assumes nothing.
--   spent   a job's work by time n, row by row
use Prim.Native.Nat.{ℕ, zero, suc, ◌+◌, ◌-◌, ◌≤◌, ◌<◌, min}
use mathlib.Core.Path.{◌≡◌, refl, sym, ap, ◌∙◌}
use mathlib.Core.Bool.{cond}
use mathlib.Core.List.{List, [], ◌∷◌}
use native.Mathlib.Omega.{arith}
use lib.Dec.{eqb}
use borrow.Author.Tests.{eqb-true, eq-eqb}
use Rattle.laws.proofs.Tests.{by_test, by_order}
use Rattle.theory.specs.Runs.{runs, names, work}
use Rattle.theory.proofs.Work.{same-job}
use Rattle.recording.specs.declared.row.Row.{Row}
use Rattle.legality.specs.Recorded.{row_entry, end_from, recorded}
use Rattle.legality.specs.Procedure.{total, begin, done}
use Rattle.legality.proofs.Rows.{Rising, by_row, entry_in, entry-before, entry-after, idle_before, idle_runs, end_le, recorded-entry}

-- what a row has given by time n
unfoldable pub given : Row → ℕ → ℕ
given r n = min r.to n - min r.from n

unfoldable pub spent : List Row → ℕ → ℕ → ℕ
spent [] n u = 0
spent (r ∷ rs) n u = cond (eqb r.at u) (given r n) 0 + spent rs n u

-- ---- one row
module _ (r : Row) (n : ℕ) where
  given_none : n ≤ r.from → given r n ≡ 0
  unfolding given
  given_none a = omega arith

  given_in : r.from ≤ n → n < r.to → given r (suc n) ≡ given r n + 1
  unfolding given
  given_in a b = omega arith

  given-after : r.from ≤ n → r.to ≤ n → given r n ≡ r.to - r.from
  unfolding given
  given-after a b = omega arith

  given_less : r.from < r.to → n < r.to → given r n < r.to - r.from
  unfolding given
  given_less a b = omega arith

  given_le : r.from < r.to → given r n ≤ r.to - r.from
  unfolding given
  given_le a = omega arith

-- ---- all rows
module _ (u : ℕ) where
  spent_none : (time : ℕ) (rs : List Row) → Rising time rs → (n : ℕ) → n ≤ time → spent rs n u ≡ 0
  unfolding spent
  spent_none time [] h n l = refl
  spent_none time (r ∷ rs) h n l =
      let rest : spent rs n u ≡ 0 = spent_none r.to rs h.2 n (omega arith) in
      let own : given r n ≡ 0 = given_none r n (omega arith) in
      by_test (eqb r.at u) (λ e. rw e (omega arith)) (λ e. rw e (omega arith))

  spent-next : (time : ℕ) (rs : List Row) → Rising time rs → (n : ℕ) → spent rs (suc n) u ≡ spent rs n u + cond (names (row_entry rs n) u) 1 0
  unfolding spent names row_entry
  spent-next time [] h n = refl
  spent-next time (r ∷ rs) h n =
      let rest : spent rs (suc n) u ≡ spent rs n u + cond (names (row_entry rs n) u) 1 0 = spent-next r.to rs h.2 n in
      by_row r n
      (λ a.
      let before : given r n ≡ 0 = given_none r n (omega arith) in
      let now : given r (suc n) ≡ 0 = given_none r (suc n) (omega arith) in
      rw (entry-before r rs n a, before, now) (omega arith))
      (λ a b.
      let before : spent rs n u ≡ 0 = spent_none r.to rs h.2 n (omega arith) in
      let now : spent rs (suc n) u ≡ 0 = spent_none r.to rs h.2 (suc n) (omega arith) in
      rw (entry_in r rs n a b, before, now) (by_test (eqb r.at u) (λ e. rw e (omega (arith, given_in r n a b))) (λ e. rw e (omega arith))))
      (λ a b.
      let before = given-after r n a b in
      let now : given r (suc n) ≡ r.to - r.from = given-after r (suc n) (omega arith) (omega arith) in
      rw (entry-after r rs n a b, before, now) (omega arith))

  spent_le : (time : ℕ) (rs : List Row) → Rising time rs → (n : ℕ) → spent rs n u ≤ total rs u
  unfolding spent total
  spent_le time [] h n = omega arith
  spent_le time (r ∷ rs) h n =
      let rest : spent rs n u ≤ total rs u = spent_le r.to rs h.2 n in
      by_test (eqb r.at u) (λ e. rw e (omega (arith, given_le r n h.1))) (λ e. rw e (omega arith))

  spent_all : (time : ℕ) (rs : List Row) → Rising time rs → (n : ℕ) → done rs u ≤ n → spent rs n u ≡ total rs u
  unfolding spent total done
  spent_all time [] h n l = refl
  spent_all time (r ∷ rs) h n l =
      let rest : spent rs n u ≡ total rs u = spent_all r.to rs h.2 n (omega arith) in
      by_test (eqb r.at u)
      (λ e.
      let ended : r.to ≤ n = omega (arith, rw e at l) in
      rw e (omega (arith, given-after r n (omega arith) ended)))
      (λ e. rw e (omega arith))

  spent_less : (time : ℕ) (rs : List Row) → Rising time rs → (n : ℕ) → n < done rs u → spent rs n u < total rs u
  unfolding spent total done
  spent_less time [] h n l = absurd (omega arith)
  spent_less time (r ∷ rs) h n l =
      by_order (done rs u) n
      (λ m.
      by_test (eqb r.at u)
      (λ e.
      let within : n < r.to = omega (arith, rw e at l) in
      rw e (omega (arith, given_less r n h.1 within, spent_le r.to rs h.2 n)))
      (λ e. absurd (omega (arith, rw e at l))))
      (λ m.
      let rest : spent rs n u < total rs u = spent_less r.to rs h.2 n m in
      by_test (eqb r.at u) (λ e. rw e (omega (arith, given_le r n h.1))) (λ e. rw e (omega arith)))

  pub done_le_end : (time : ℕ) (rs : List Row) → Rising time rs → done rs u ≤ end_from time rs
  unfolding done end_from
  done_le_end time [] h = omega arith
  done_le_end time (r ∷ rs) h =
      let rest : done rs u ≤ end_from r.to rs = done_le_end r.to rs h.2 in
      by_test (eqb r.at u) (λ e. rw e (omega (arith, end_le r.to rs h.2))) (λ e. rw e (omega arith))

  -- ---- a job runs from its begin, and before its end
  pub entry-begin : (time : ℕ) (rs : List Row) → Rising time rs → (n : ℕ) → row_entry rs n ≡ runs u → begin rs u ≤ n
  unfolding begin
  entry-begin time [] h n e = omega arith
  entry-begin time (r ∷ rs) h n e =
      by_row r n
      (λ a. absurd (idle_runs (idle_before r.to rs h.2 n (omega arith)) (sym (entry-before r rs n a) ∙ e)))
      (λ a b. rw (eq-eqb r.at u (same-job (entry_in r rs n a b) e)) a)
      (λ a b.
      by_test (eqb r.at u)
      (λ q. rw q a)
      (λ q. rw q (entry-begin r.to rs h.2 n (sym (entry-after r rs n a b) ∙ e))))

  pub entry_done : (time : ℕ) (rs : List Row) → Rising time rs → (n : ℕ) → row_entry rs n ≡ runs u → n < done rs u
  unfolding done row_entry
  entry_done time [] h n e = absurd (idle_runs refl e)
  entry_done time (r ∷ rs) h n e =
      by_row r n
      (λ a. absurd (idle_runs (idle_before r.to rs h.2 n (omega arith)) (sym (entry-before r rs n a) ∙ e)))
      (λ a b. rw (eq-eqb r.at u (same-job (entry_in r rs n a b) e)) (omega arith))
      (λ a b. omega (arith, entry_done r.to rs h.2 n (sym (entry-after r rs n a b) ∙ e)))

  pub begin-entry : (time : ℕ) (rs : List Row) → Rising time rs → 0 < total rs u → row_entry rs (begin rs u) ≡ runs u
  unfolding begin total
  begin-entry time [] h some = absurd (omega arith)
  begin-entry time (r ∷ rs) h some =
      by_test (eqb r.at u)
      (λ e. rw e (entry_in r rs r.from (omega arith) h.1 ∙ ap runs (eqb-true r.at u e)))
      (λ e.
      let rest : row_entry rs (begin rs u) ≡ runs u = begin-entry r.to rs h.2 (omega (arith, rw e at some)) in
      rw e
      (by_order r.to (begin rs u)
      (λ l. entry-after r rs (begin rs u) (omega arith) l ∙ rest)
      (λ l. absurd (idle_runs (idle_before r.to rs h.2 (begin rs u) l) rest))))

-- ---- the run that is recorded
module _ (rows : List Row) (h : Rising 0 rows) (u : ℕ) where
  pub work-spent : (n : ℕ) → work (recorded rows) n u ≡ spent rows n u
  unfolding work
  work-spent zero = sym (spent_none u 0 rows h 0 (omega arith))
  work-spent (suc n) = rw (recorded-entry rows h n, work-spent n) (sym (spent-next u 0 rows h n))

  pub work_all : (n : ℕ) → done rows u ≤ n → work (recorded rows) n u ≡ total rows u
  work_all n l = work-spent n ∙ spent_all u 0 rows h n l

  pub work_less : (n : ℕ) → n < done rows u → work (recorded rows) n u < total rows u
  work_less n l = rw (work-spent n) (spent_less u 0 rows h n l)
