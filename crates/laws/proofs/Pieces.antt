-- A text made of pieces: written into a buffer piece by piece, and its length summed up piece by piece. Nothing here depends on what the pieces say. Assumes nothing.
use Prim.Native.Nat.{ℕ, zero, suc, ◌+◌, ◌-◌, ◌*◌, ◌≤◌, ◌<◌}
use mathlib.Core.Path.{◌≡◌, sym, ap, ◌∙◌}
use mathlib.Core.List.{List, [], ◌++◌}
use native.Mathlib.Omega.{arith}
use native.Mathlib.Nat.{add-zero, mul-suc}
use native.Mathlib.Numerals.{add-one}
use lib.ListN.{length, length-append}
use Rattle.laws.specs.Words.{patched}
use Rattle.laws.proofs.Buffers.{Wrote, wrote_none, wrote_more, wrote_length}

-- `whole n` is the first n of the pieces, of which there are `total`
pub record Made {A : Type 0} (whole piece : ℕ → List A) (total : ℕ) : Type 0 where
  pub none : whole 0 ≡ []
  pub next : (n : ℕ) → n < total → whole (n + 1) ≡ whole n ++ piece n

-- the first n pieces stand in the buffer from `at` on, and all of them have room there
pub record PiecesWritten {A : Type 0} (whole piece : ℕ → List A) (total : ℕ) (before : List A) (at : ℕ) (out : List A) (next n : ℕ) : Type 0 where
  pub made : Made whole piece total
  pub few : n ≤ total
  pub room : at + length (whole total) ≤ length before
  pub wrote : Wrote before at (whole n) out next

pub pieces_none : {A : Type 0} {whole piece : ℕ → List A} {total : ℕ} → Made whole piece total → (before : List A) (at : ℕ) → at + length (whole total) ≤ length before
    → PiecesWritten whole piece total before at before at 0
pieces_none made before at h =
    record { made = made; few = omega arith; room = h; wrote = rw made.none (wrote_none before at (omega arith)) }

-- the first pieces take no more than all
pub grows : {A : Type 0} {whole piece : ℕ → List A} {total : ℕ} → Made whole piece total → (d n : ℕ) → n + d ≡ total → length (whole n) ≤ length (whole total)
grows {whole = whole} made zero n e = omega (arith, ap (λ (k : ℕ). length (whole k)) (sym (add-zero n) ∙ e))
grows {whole = whole} {piece = piece} made (suc d) n e =
    omega (arith, grows made d (n + 1) (omega arith), ap length (made.next n (omega arith)), length-append (whole n) (piece n))

module _ {A : Type 0} {whole piece : ℕ → List A} {total : ℕ} {before : List A} {at : ℕ} {out : List A} {next n : ℕ} (w : PiecesWritten whole piece total before at out next n) where
  pub pieces_same : length out ≡ length before
  pieces_same = wrote_length w.wrote (omega (arith, w.room, grows w.made (total - n) n (omega (arith, w.few))))

  pub pieces_room : n < total → next + length (piece n) ≤ length out
  pieces_room h =
      omega (
        arith,
        pieces_same,
        w.room,
        w.wrote.place,
        grows w.made (total - (n + 1)) (n + 1) (omega arith),
        ap length (w.made.next n h),
        length-append (whole n) (piece n),
      )

  pub pieces_more : {place : ℕ} {after : List A} → n < total → (place ≡ next + length (piece n)) × (after ≡ patched out next (piece n)) → PiecesWritten whole piece total before at after place (n + 1)
  pieces_more h v =
      record {
        made = w.made;
        few = omega arith;
        room = w.room;
        wrote = rw (w.made.next n h) (wrote_more (piece n) w.wrote v);
      }

  pub pieces_end : total ≤ n → (next ≡ at + length (whole total)) × (out ≡ patched before at (whole total))
  pieces_end h =
      let all : n ≡ total = omega (arith, w.few) in
      rw (← all) (w.wrote.place, w.wrote.list)

-- the first n pieces, each no longer than `most`, have `sum` for their length
pub record PiecesSummed {A : Type 0} (whole piece : ℕ → List A) (total most sum n : ℕ) : Type 0 where
  pub made : Made whole piece total
  pub few : n ≤ total
  pub within : sum ≤ most * n
  pub is : sum ≡ length (whole n)

pub summed_none : {A : Type 0} {whole piece : ℕ → List A} {total : ℕ} → Made whole piece total → (most : ℕ) → PiecesSummed whole piece total most 0 0
summed_none made most = record { made = made; few = omega arith; within = omega arith; is = sym (ap length made.none) }

module _ {A : Type 0} {whole piece : ℕ → List A} {total most sum n : ℕ} (w : PiecesSummed whole piece total most sum n) where
  pub summed_more : (size : ℕ) → n < total → (size ≡ length (piece n)) × (size ≤ most) → PiecesSummed whole piece total most (sum + size) (n + 1)
  summed_more size h v =
      record {
        made = w.made;
        few = omega arith;
        within = rw add-one (omega (arith, w.within, v.1, mul-suc most n));
        is = omega (arith, w.is, v.0, ap length (w.made.next n h), length-append (whole n) (piece n));
      }

  pub summed_end : total ≤ n → (sum ≡ length (whole total)) × (sum ≤ most * total)
  summed_end h =
      let all : n ≡ total = omega (arith, w.few) in
      rw (← all) (w.is, w.within)
