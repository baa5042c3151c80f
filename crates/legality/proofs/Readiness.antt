-- With running times that are the jobs' totals, a job is ready in the recorded run from its release and its predecessor's end up to its own end.
-- Assumes rising rows.
use Prim.Native.Nat.{ℕ, zero, suc, ◌≤◌, ◌<◌}
use mathlib.Core.Path.{◌≡◌, sym, ◌∙◌}
use mathlib.Core.List.{List}
use native.Mathlib.Omega.{arith}
use lib.Dec.{eqb}
use borrow.Author.Tests.{eqb-true, eq-eqb}
use Rattle.laws.specs.Words.{number_at}
use Rattle.laws.proofs.Tests.{by_order, by_test}
use Rattle.theory.specs.Table.{Table, joined}
use Rattle.theory.proofs.Legal.{Complete, PredecessorComplete, Ready}
use Rattle.recording.specs.declared.row.Row.{Row}
use Rattle.legality.specs.Recorded.{recorded}
use Rattle.legality.specs.Procedure.{total, done, predecessor_done}
use Rattle.legality.proofs.Rows.{Rising}
use Rattle.legality.proofs.Work.{work_all, work_less}

-- the running times are the jobs' totals
abbrev pub Totals : Table → List Row → List ℕ → Type 0
Totals t rows times = (u : ℕ) → u < t.count → number_at times u ≡ total rows u

module _ (t : Table) (rows : List Row) (h : Rising 0 rows) (times : List ℕ) (totals : Totals t rows times) where
  module _ (u n : ℕ) (l : u < t.count) where
    pub done-complete : done rows u ≤ n → Complete times (recorded rows) u n
    done-complete d = work_all rows h u n d ∙ sym (totals u l)

    pub complete-done : Complete times (recorded rows) u n → done rows u ≤ n
    complete-done c = by_order (done rows u) n (λ d. d) (λ d. absurd (omega (arith, work_less rows h u n d, totals u l)))

  predecessor-to : (u n : ℕ) → u < t.count → predecessor_done t rows u ≤ n → PredecessorComplete t times (recorded rows) u n
  unfolding predecessor_done joined
  predecessor-to zero n l d = tt
  predecessor-to (suc v) n l d = λ same. done-complete v n (omega arith) (rw (eq-eqb (t.chain v) (t.chain (suc v)) same) at d)

  predecessor_from : (u n : ℕ) → u < t.count → PredecessorComplete t times (recorded rows) u n → predecessor_done t rows u ≤ n
  unfolding predecessor_done joined
  predecessor_from zero n l p = omega arith
  predecessor_from (suc v) n l p =
      by_test (eqb (t.chain v) (t.chain (suc v)))
      (λ e. rw e (complete-done v n (omega arith) (p (eqb-true _ _ e))))
      (λ e. rw e (omega arith))

  module _ (release : ℕ → ℕ) (u n : ℕ) (l : u < t.count) where
    pub ready-to : release u ≤ n → predecessor_done t rows u ≤ n → n < done rows u → Ready t release times (recorded rows) u n
    ready-to a b c =
        record {
          released = a;
          unfinished = λ e. absurd (omega (arith, complete-done u n l e));
          predecessor = predecessor-to u n l b;
        }

    pub ready_from_lem : Ready t release times (recorded rows) u n → (release u ≤ n) × (predecessor_done t rows u ≤ n) × (n < done rows u)
    ready_from_lem r = (
      r.released,
      predecessor_from u n l r.predecessor,
      by_order (done rows u) n (λ d. absurd (r.unfinished (done-complete u n l d))) (λ d. d),
    )
