-- The wires of a table's jobs, each with its identifier and a level by its place: which one an identifier stands for, one that takes a level, all
-- of them 0, and none of them 1. Assumes nothing.
--   wire_at    the wire of the job at a place
--   Becomes   the levels after one wire has taken a level
use Rattle.std.specs.Prelude.{Some}
use Prim.Native.Nat.{ℕ, zero, suc, ◌+◌, ◌≤◌, ◌<◌}
use mathlib.Core.Path.{◌≡◌, refl, ◌∙◌}
use mathlib.Core.Bool.{true, false, cond}
use mathlib.Core.List.{List}
use native.Mathlib.Omega.{arith}
use lib.Dec.{eqb}
use lib.ListN.{length}
use borrow.Author.Tests.{eq-eqb, ne_eqb}
use Rattle.laws.specs.Words.{tabulate}
use Rattle.laws.proofs.Tests.{by_equal}
use Rattle.laws.proofs.Tabulate.{tabulate_ext, map-tabulate}
use Rattle.jobs.specs.declared.job.Job.{Job}
use Rattle.jobs.specs.Jobs.{job_at}
use Rattle.dumps.specs.Identifiers.{identifier_of}
use Rattle.dumps.specs.Readers.{Level, low, is_one, Wire, wire_of, with_level, none_high, all_low}
use Rattle.dumps.proofs.Identifiers.{identifier_same}

abbrev pub wire_at : List Job → (ℕ → Level) → ℕ → Wire
wire_at js levels u = record { identifier = identifier_of (suc u); chain = (job_at js u).chain; job = (job_at js u).job; level = levels u }

abbrev pub wires_of : List Job → (ℕ → Level) → List Wire
wires_of js levels = tabulate 0 (length js) (wire_at js levels)

abbrev pub Becomes : ℕ → Level → (ℕ → Level) → (ℕ → Level) → Type 0
Becomes u level levels after = (k : ℕ) → after k ≡ cond (eqb u k) level (levels k)

module _ (js : List Job) where
  pub wires_ext : (levels after : ℕ → Level) → ((k : ℕ) → k < length js → levels k ≡ after k) → wires_of js levels ≡ wires_of js after
  wires_ext levels after h = tabulate_ext 0 (length js) (wire_at js levels) (wire_at js after) (λ k _ l. rw (h k (omega arith)))

  found_from : (levels : ℕ → Level) (u i n : ℕ) → i ≤ u → u < i + n → wire_of (tabulate i n (wire_at js levels)) (identifier_of (suc u)) ≡ Some (wire_at js levels u)
  unfolding tabulate wire_of
  found_from levels u i zero h l = absurd (omega arith)
  found_from levels u i (suc n) h l =
      by_equal u i
      (λ e. rw (identifier_same u i, eq-eqb u i e, e))
      (λ ne. rw (identifier_same u i, ne_eqb u i ne) (found_from levels u (suc i) n (omega arith) (omega arith)))

  pub wire_found : (levels : ℕ → Level) (u : ℕ) → u < length js → wire_of (wires_of js levels) (identifier_of (suc u)) ≡ Some (wire_at js levels u)
  wire_found levels u l = found_from levels u 0 (length js) (omega arith) (omega arith)

  pub with_level_lem : (u : ℕ) (level : Level) (levels after : ℕ → Level) → Becomes u level levels after → with_level (identifier_of (suc u)) level (wires_of js levels) ≡ wires_of js after
  unfolding with_level
  with_level_lem u level levels after becomes =
      map-tabulate _ 0 (length js) (wire_at js levels)
      ∙ tabulate_ext 0 (length js) _ (wire_at js after) (λ k _ l. rw (identifier_same u k, becomes k))

  all_from : (i n : ℕ) → all_low (tabulate i n (wire_at js (λ k. low))) ≡ true
  unfolding tabulate all_low
  all_from i zero = refl
  all_from i (suc n) = all_from (suc i) n

  pub all_low_lem : all_low (wires_of js (λ k. low)) ≡ true
  all_low_lem = all_from 0 (length js)

  none_from : (levels : ℕ → Level) (i n : ℕ) → ((k : ℕ) → k < i + n → is_one (levels k) ≡ false) → none_high (tabulate i n (wire_at js levels)) ≡ true
  unfolding tabulate none_high
  none_from levels i zero h = refl
  none_from levels i (suc n) h = rw (h i (omega arith)) (none_from levels (suc i) n (λ k l. h k (omega arith)))

  pub none_high_lem : (levels : ℕ → Level) → ((k : ℕ) → k < length js → is_one (levels k) ≡ false) → none_high (wires_of js levels) ≡ true
  none_high_lem levels h = none_from levels 0 (length js) (λ k l. h k (omega arith))
