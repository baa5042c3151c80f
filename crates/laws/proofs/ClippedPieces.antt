-- A text made of pieces, put piece by piece into a buffer that may have no room for all of it. Nothing here depends on what the pieces say. Assumes nothing.
use Prim.Native.Nat.{ℕ, ◌+◌, ◌-◌, ◌≤◌, ◌<◌}
use mathlib.Core.Path.{◌≡◌, ap}
use mathlib.Core.List.{List}
use native.Mathlib.Omega.{arith}
use lib.ListN.{length, length-append}
use Rattle.laws.proofs.Pieces.{Made, grows}
use Rattle.laws.proofs.Clipped.{Put, put_none, put_then, put-length}

-- as much of the first n pieces as fits stands in the buffer from `at` on
pub record PiecesPut {A : Type 0} (whole piece : ℕ → List A) (total : ℕ) (before : List A) (at : ℕ) (out : List A) (next n : ℕ) : Type 0 where
  pub made : Made whole piece total
  pub few : n ≤ total
  pub put : Put before at (whole n) out next

pub put_pieces_none : {A : Type 0} {whole piece : ℕ → List A} {total : ℕ} → Made whole piece total → (before : List A) (at : ℕ) → PiecesPut whole piece total before at before at 0
put_pieces_none made before at = record { made = made; few = omega arith; put = rw made.none (put_none before at) }

module _ {A : Type 0} {whole piece : ℕ → List A} {total : ℕ} {before : List A} {at : ℕ} {out : List A} {next n : ℕ} (w : PiecesPut whole piece total before at out next n) where
  pub put_pieces_length : length out ≡ length before
  put_pieces_length = put-length w.put

  -- where the whole does not go beyond a limit, one piece more does not
  pub put_pieces_within : (limit : ℕ) → at + length (whole total) ≤ limit → n < total → next + length (piece n) ≤ limit
  put_pieces_within limit room h =
      omega (
        arith,
        w.put.place,
        grows w.made (total - (n + 1)) (n + 1) (omega arith),
        ap length (w.made.next n h),
        length-append (whole n) (piece n),
      )

  pub put_pieces_more : {place : ℕ} {after : List A} → n < total → Put out next (piece n) after place → PiecesPut whole piece total before at after place (n + 1)
  put_pieces_more h v = record { made = w.made; few = omega arith; put = rw (w.made.next n h) (put_then w.put v) }

  pub put_pieces_end : total ≤ n → Put before at (whole total) out next
  put_pieces_end h =
      let all : n ≡ total = omega (arith, w.few) in
      rw (← all) w.put
