-- Bytes copied one after another to a place of a buffer, as many as fit. Assumes nothing.
use Prim.Native.Nat.{ℕ, ◌+◌, ◌-◌, ◌≤◌, ◌<◌, min}
use mathlib.Core.List.{List, [], ◌∷◌}
use mathlib.Core.Path.{◌≡◌, sym, ap, ◌∙◌}
use native.Mathlib.Numerals.{add-one}
use native.Mathlib.Omega.{arith}
use lib.ListN.{length, get_or, take, set}
use lib.Seq.{take-suc, length-take-le}
use Rattle.laws.specs.Words.{clipped}
use Rattle.laws.proofs.Buffers.{set-patched}
use Rattle.laws.proofs.Clipped.{clipped-length, clipped_none, clipped_fits, clipped_more, clipped_part}

-- the first elements of a text stand, and one more is stored
clipped-next : (b : List ℕ) (at : ℕ) (t : List ℕ) (n : ℕ) (d : ℕ) → n < length t → at + n < length b
    → set (clipped b at (take n t)) (at + n) (get_or t n d) ≡ clipped b at (take (n + 1) t)
clipped-next b at t n d h room =
    let stands = clipped b at (take n t) in
    let x = get_or t n d ∷ [] in
    let inside : at + n < length stands = omega (arith, clipped-length b at (take n t)) in
    let count : length (take n t) ≡ n = length-take-le n t (omega arith) in
    set-patched stands (at + n) (get_or t n d) inside
    ∙ sym (clipped_fits stands (at + n) x (omega arith))
    ∙ ap (λ (k : ℕ). clipped stands (at + k) x) (sym count)
    ∙ clipped_more b at (take n t) x
    ∙ ap (clipped b at) (sym (rw add-one (take-suc t n d h)))

-- the first i bytes stand in the buffer from the place on, of the `count` that fit
pub record Copying (bytes before : List ℕ) (at count : ℕ) (out : List ℕ) (i : ℕ) : Type 0 where
  pub fitting : count ≡ min (length bytes) (length before - at)
  pub few : i ≤ count
  pub list : out ≡ clipped before at (take i bytes)

pub copying_none : (bytes before : List ℕ) (at count : ℕ) → count ≡ min (length bytes) (length before - at) → Copying bytes before at count before 0
copying_none bytes before at count e = record { fitting = e; few = omega arith; list = sym (clipped_none before at) }

module _ {bytes before : List ℕ} {at count : ℕ} {out : List ℕ} {i : ℕ} (w : Copying bytes before at count out i) where
  pub copying_length : length out ≡ length before
  copying_length = ap length w.list ∙ clipped-length before at (take i bytes)

  pub copying_room : i < count → (i < length bytes) × (at + i < length out)
  copying_room h = (omega (arith, w.fitting), omega (arith, w.fitting, copying_length))

  pub copying_next : i < count → Copying bytes before at count (set out (at + i) (get_or bytes i 0)) (i + 1)
  copying_next h =
      record {
        fitting = w.fitting;
        few = omega arith;
        list = rw w.list (clipped-next before at bytes i 0 (copying_room h).0 (omega (arith, w.fitting)));
      }

  pub copying_end : count ≤ i → out ≡ clipped before at bytes
  copying_end h = w.list ∙ clipped_part before at bytes i (omega (arith, w.fitting))
