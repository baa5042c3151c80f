-- An array over whose first places figures are written, one after another, whatever stood there.
--   Spare      as many places as a set holds, and nothing from place `count` on
--   Refilled   the same with the figures of the first j places
-- Assumes nothing.
use Prim.Native.Nat.{ℕ, zero, suc, ◌+◌, ◌≤◌, ◌<◌}
use mathlib.Core.Path.{◌≡◌, refl, sym, ◌∙◌}
use mathlib.Core.List.{List, [], ◌∷◌}
use native.Mathlib.Omega.{arith}
use lib.ListN.{length, get_or, set, length-set, replicate, length-replicate}
use lib.Seq.{get_or-set_same, get_or-set_other, ext_get_or}
use Rattle.laws.specs.Words.{tabulate, padded}
use Rattle.laws.proofs.Tests.{by_order, by_equal}
use Rattle.laws.proofs.Tabulate.{length-tabulate}
use Rattle.laws.proofs.Lists.{length-padded, get_d_padded}
use Rattle.laws.proofs.Filling.{length_filled, filled_at}
use Rattle.jobs.specs.Limits.{max_jobs}
use Rattle.theory.proofs.Columns.{column}

pub record Spare (count : ℕ) (out : List ℕ) : Type 0 where
  pub room : length out ≡ max_jobs
  pub unused : (i : ℕ) → count ≤ i → get_or out i 0 ≡ 0

pub record Refilled (count : ℕ) (f : ℕ → ℕ) (j : ℕ) (out : List ℕ) : Type 0 where
  pub spare : Spare count out
  pub figures : (i : ℕ) → i < j → get_or out i 0 ≡ f i

-- behind a list there is nothing
read_beyond : (xs : List ℕ) (i : ℕ) → length xs ≤ i → get_or xs i 0 ≡ 0
read_beyond [] i l = refl
read_beyond (x ∷ xs) zero l = absurd (omega arith)
read_beyond (x ∷ xs) (suc i) l = read_beyond xs i (omega arith)

column_beyond : (count : ℕ) (f : ℕ → ℕ) (i : ℕ) → count ≤ i → get_or (column count f) i 0 ≡ 0
column_beyond count f i l = get_d_padded max_jobs 0 (tabulate 0 count f) i ∙ read_beyond (tabulate 0 count f) i (omega (arith, length-tabulate 0 count f))

pub spare_none : (count : ℕ) → Spare count (replicate max_jobs 0)
spare_none count = record { room = length-replicate {A = ℕ} max_jobs 0; unused = λ i l. get_d_padded max_jobs 0 [] i }

pub spare_padded : (count : ℕ) (xs : List ℕ) → length xs ≡ count → count ≤ max_jobs → Spare count (padded max_jobs 0 xs)
spare_padded count xs e few =
    record { room = length-padded max_jobs 0 xs (omega arith); unused = λ i l. get_d_padded max_jobs 0 xs i ∙ read_beyond xs i (omega arith) }

module _ {count : ℕ} (f : ℕ → ℕ) where
  pub refilled_none : {out : List ℕ} → Spare count out → Refilled count f 0 out
  refilled_none spare = record { spare = spare; figures = λ i l. absurd (omega arith) }

  module _ (few : count ≤ max_jobs) {j : ℕ} {out : List ℕ} (h : Refilled count f j out) where
    pub refilled_next : (x : ℕ) → j < count → x ≡ f j → Refilled count f (j + 1) (set out j x)
    refilled_next x l e =
        record {
          spare = record { room = length-set out j x ∙ h.spare.room; unused = λ i c. get_or-set_other out j i x 0 (omega arith) ∙ h.spare.unused i c };
          figures = λ i il. by_equal i j
              (λ q. rw (q, get_or-set_same out j x 0 (omega (arith, h.spare.room))) e)
              (λ ne. get_or-set_other out j i x 0 ne ∙ h.figures i (omega arith));
        }

    pub refilled_all : count ≤ j → out ≡ column count f
    refilled_all l =
        ext_get_or 0 out (column count f) (h.spare.room ∙ sym (length_filled max_jobs 0 f count few)) (λ i il.
        by_order count i
        (λ beyond. h.spare.unused i beyond ∙ sym (column_beyond count f i beyond))
        (λ inside. h.figures i (omega arith) ∙ sym (filled_at max_jobs 0 f count i inside)))
