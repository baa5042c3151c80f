-- A column written at a place of a buffer: the digits alone, or a comma and the digits. Assumes nothing.
use Prim.Native.Nat.{ℕ, ◌+◌, ◌-◌, ◌≤◌}
use mathlib.Core.List.{List, ◌∷◌}
use mathlib.Core.Path.{◌≡◌, refl, ap}
use native.Mathlib.Omega.{arith}
use lib.ListN.{length, take, get_or, set, length-set}
use lib.Seq.{take-length}
use borrow.Rule.Slice.PartMut.{put_mid}
use Rattle.laws.specs.Words.{patched}
use Rattle.laws.proofs.Buffers.{Wrote, wrote_none, wrote_one}
use Rattle.laws.proofs.Pieces.{Made, PiecesWritten, PiecesSummed, pieces_none, pieces_end}
use Rattle.decimal.specs.Digits.{decimal}
use Rattle.decimal.proofs.Writing.{Writes, rest_from, wrote_written}
use Rattle.texts.specs.Lines.{after_commas}
use Rattle.report.proofs.ColumnTexts.{columns_text, column_text, first_text, later_text, columns-next}

-- a comma, and a text into the rest behind it
pub comma_written : (text b : List ℕ) (at : ℕ) {count : ℕ} {after : List ℕ} → at + length (44 ∷ text) ≤ length b → Writes text (rest_from (at + 1) (set b at 44)) count after
    → Wrote b at (44 ∷ text) (put_mid (at + 1) (length (set b at 44) - (at + 1)) (set b at 44) after) (at + 1 + count)
comma_written text b at h v =
    wrote_written text (wrote_one 44 (wrote_none b at (omega arith)) (omega arith)) (omega (arith, length-set b at 44)) v

module _ (k value : ℕ) (b : List ℕ) (at : ℕ) (room : at + length (column_text k value) ≤ length b) where
  pub first_written : {count : ℕ} {after : List ℕ} → k ≡ 0 → Writes (decimal value) (rest_from at b) count after
      → Wrote b at (column_text k value) (put_mid at (length b - at) b after) (at + count)
  first_written e v =
      rw (first_text k value e)
      (wrote_written (decimal value) (wrote_none b at (omega arith)) (omega (arith, ap length (first_text k value e))) v)

  pub later-written : {count : ℕ} {after : List ℕ} → (k ≡ 0 → ⊥) → Writes (decimal value) (rest_from (at + 1) (set b at 44)) count after
      → Wrote b at (column_text k value) (put_mid (at + 1) (length (set b at 44) - (at + 1)) (set b at 44) after) (at + 1 + count)
  later-written h v = rw (later_text k value h) (comma_written (decimal value) b at (rw (later_text k value h) at room) v)

-- ---- all columns, piece by piece
pub columns-made : (values : List ℕ) → Made (λ k. columns_text (take k values)) (λ k. column_text k (get_or values k 0)) (length values)
unfolding after_commas
columns-made values = record { none = refl; next = columns-next values }

abbrev pub ColumnsWritten : List ℕ → List ℕ → ℕ → List ℕ → ℕ → ℕ → Type 0
ColumnsWritten values before at out next k =
    PiecesWritten (λ i. columns_text (take i values)) (λ i. column_text i (get_or values i 0)) (length values) before at out next k

-- their lengths are summed up; a column takes at most 21 bytes
abbrev pub ColumnsSummed : List ℕ → ℕ → ℕ → Type 0
ColumnsSummed values sum k = PiecesSummed (λ i. columns_text (take i values)) (λ i. column_text i (get_or values i 0)) (length values) 21 sum k

pub columns_none : (values before : List ℕ) (at : ℕ) → at + length (columns_text values) ≤ length before → ColumnsWritten values before at before at 0
columns_none values before at h = pieces_none (columns-made values) before at (rw (take-length values) h)

pub columns-end : (values : List ℕ) {before : List ℕ} {at : ℕ} {out : List ℕ} {next k : ℕ} → ColumnsWritten values before at out next k → length values ≤ k
    → (next ≡ at + length (columns_text values)) × (out ≡ patched before at (columns_text values))
columns-end values w h = rw (take-length values) at (pieces_end w h)
