-- The values at time 0: line by line one wire more is known, and in the end the wire of the job that runs first is 1 and all others are 0. Assumes nothing.
--   first_level   the level of a wire at time 0
--   known_below   the levels after the first lines
use Rattle.std.specs.Prelude.{None, Some}
use Prim.Native.Nat.{ℕ, zero, suc, ◌+◌, ◌≤◌, ◌<◌}
use mathlib.Core.Path.{◌≡◌, refl}
use mathlib.Core.Bool.{Bool, true, false, cond}
use mathlib.Core.Logic.{◌≢◌}
use mathlib.Core.List.{List, [], ◌∷◌, ◌++◌}
use native.Mathlib.Omega.{arith}
use lib.Dec.{eqb}
use lib.ListN.{length}
use borrow.Author.Tests.{eq-eqb, ne_eqb}
use Rattle.laws.specs.Words.{tabulate, ascii}
use Rattle.laws.proofs.Tests.{by_order, by_last}
use Rattle.jobs.specs.declared.job.Job.{Job}
use Rattle.machine.specs.declared.trace.Span.{Span}
use Rattle.dumps.specs.Dumps.{time_line, value_line, runs_first, start_lines}
use Rattle.dumps.specs.Readers.{Level, unknown, low, high, is_one, Wire, Seen, same, changed, none_high, seen_line}
use Rattle.dumps.proofs.Wires.{wire_at, none_high_lem}
use Rattle.dumps.proofs.Readings.{Reads, reads_none, reads_line, reads_append, turned, seen_as, seen_ext, time_told, value_told}

abbrev pub first_level : List Span → ℕ → Level
first_level ss u = cond (runs_first ss u) (high 0) low

abbrev known_below : List Span → ℕ → ℕ → Level
known_below ss zero k = unknown
known_below ss (suc i) k = let before = known_below ss i k in cond (eqb i k) (first_level ss i) before

known_not : (ss : List Span) (i k : ℕ) → i ≤ k → known_below ss i k ≡ unknown
known_not ss zero k l = refl
known_not ss (suc i) k l = rw (ne_eqb i k (λ e. omega arith)) (known_not ss i k (omega arith))

known_is : (ss : List Span) (i k : ℕ) → k < i → known_below ss i k ≡ first_level ss k
known_is ss zero k l = absurd (omega arith)
known_is ss (suc i) k l =
    by_last k i l
    (λ e. rw (e, eq-eqb i i refl))
    (λ m. rw (ne_eqb i k (λ e. omega arith)) (known_is ss i k m))

-- ---- one line
first_turn : (value : Bool) (w : Wire) (s : Seen) → w.level ≡ unknown → (value ≡ true → none_high s.wires ≡ true)
    → turned value w 0 s ≡ Some (changed w (cond value (high 0) low) [] s)
first_turn true w s e quiet = rw (quiet refl)
first_turn false w s e quiet = rw e

begin_told : (s : Seen) → seen_line (ascii "$dumpvars") s ≡ Some s
unfolding seen_line same
begin_told s = refl

end_told : (s : Seen) → seen_line (ascii "$end") s ≡ Some s
unfolding seen_line same
end_told s = refl

-- at most one job runs first
abbrev pub OneFirst : List Span → Type 0
OneFirst ss = (i k : ℕ) → runs_first ss i ≡ true → i ≢ k → runs_first ss k ≡ false

-- before its value is told no wire is 1
known_low : (ss : List Span) → OneFirst ss → (i k : ℕ) → runs_first ss i ≡ true → is_one (known_below ss i k) ≡ false
known_low ss one i k first =
    by_order i k
    (λ l. rw (known_not ss i k l))
    (λ l. rw (known_is ss i k l, one i k first (λ e. omega arith)))

module _ (js : List Job) (ss : List Span) (one : OneFirst ss) where
  known_told : (i : ℕ) → i < length js
      → seen_line (value_line (runs_first ss i) i) (seen_as js (Some 0) (known_below ss i) []) ≡ Some (seen_as js (Some 0) (known_below ss (suc i)) [])
  known_told i l =
      value_told js (runs_first ss i) i 0 (first_level ss i) (known_below ss i) (known_below ss (suc i)) [] [] l (λ k. refl)
      (first_turn (runs_first ss i) (wire_at js (known_below ss i) i) (seen_as js (Some 0) (known_below ss i) []) (known_not ss i i (omega arith))
      (λ first. none_high_lem js (known_below ss i) (λ k l. known_low ss one i k first)))

  values_told : (i n m : ℕ) → i + n ≡ m → m ≤ length js
      → Reads (tabulate i n (λ u. value_line (runs_first ss u) u)) (seen_as js (Some 0) (known_below ss i) []) (seen_as js (Some 0) (known_below ss m) [])
  unfolding tabulate
  values_told i zero m e l = let all : i ≡ m = omega arith in rw all (reads_none _)
  values_told i (suc n) m e l =
      reads_line _ (tabulate (suc i) n (λ u. value_line (runs_first ss u) u)) _ (known_told i (omega arith)) (values_told (suc i) n m (omega arith) l)

  pub start_told : Reads (start_lines (length js) ss) (seen_as js None (λ k. unknown) []) (seen_as js (Some 0) (first_level ss) [])
  unfolding start_lines
  start_told =
      let values = tabulate 0 (length js) (λ u. value_line (runs_first ss u) u) in
      rw (← seen_ext js (Some 0) (known_below ss (length js)) (first_level ss) [] (known_is ss (length js)))
      (reads_line (time_line 0) (ascii "$dumpvars" ∷ (values ++ (ascii "$end" ∷ []))) _ (time_told js None 0 (λ k. unknown) [] refl (omega arith))
      (reads_line (ascii "$dumpvars") (values ++ (ascii "$end" ∷ [])) _ (begin_told _)
      (reads_append values (ascii "$end" ∷ []) _ (values_told 0 (length js) (length js) (omega arith) (omega arith))
      (reads_line (ascii "$end") [] _ (end_told _) (reads_none _)))))
