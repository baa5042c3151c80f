-- Writing: a text at the start of a buffer, a text in the rest of one, and a byte before a text.
-- Nothing here depends on what the text says. Assumes nothing.
use Prim.Native.Nat.{ℕ, suc, ◌+◌, ◌-◌, ◌≤◌, ◌<◌}
use mathlib.Core.Path.{◌≡◌, refl, sym, ap, ◌∙◌}
use mathlib.Core.List.{List, [], ◌∷◌, ◌++◌}
use native.Mathlib.Omega.{arith}
use native.Mathlib.Nat.{zero-add}
use lib.Dec.{leb}
use lib.ListN.{length, take, drop, set, length-append, length-drop}
use borrow.Rule.Slice.PartMut.{put_mid, put_same}
use borrow.Author.Tests.{le-leb, lt-leb, leb-true, leb-false}
use Rattle.laws.specs.Words.{patched, written, written_length}
use Rattle.laws.proofs.Tests.{by_test}
use Rattle.laws.proofs.Lists.{rest_is}
use Rattle.laws.proofs.Buffers.{put_rest, Wrote, wrote_more, written-patched, written_short}

-- a text that fits, and one that does not
pub written_fits : (text b : List ℕ) → length text ≤ length b → written text b ≡ text ++ drop (length text) b
unfolding patched
written_fits text b h = rw (written-patched text b h, zero-add)

pub length_fits : (text b : List ℕ) → length text ≤ length b → written_length text b ≡ length text
unfolding written_length
length_fits text b h = rw (le-leb (length text) (length b) h)

pub length_short : (text b : List ℕ) → length b < length text → written_length text b ≡ 0
unfolding written_length
length_short text b h = rw (lt-leb (length text) (length b) h)

-- a writer's promise: its answer, and the buffer after it
abbrev pub Writes : List ℕ → List ℕ → ℕ → List ℕ → Type 0
Writes text b count after = (count ≡ written_length text b) × (after ≡ written text b)

pub writes_fits : (text b : List ℕ) {count : ℕ} {after : List ℕ} → length text ≤ length b → count ≡ length text → after ≡ text ++ drop (length text) b → Writes text b count after
writes_fits text b h e f = (e ∙ sym (length_fits text b h), f ∙ sym (written_fits text b h))

pub writes_short : (text b : List ℕ) → length b < length text → Writes text b 0 b
writes_short text b h = (sym (length_short text b h), sym (written_short text b h))

-- a text that is not empty was not written only where it did not fit
pub short_none : (text b : List ℕ) → 0 < length text → written_length text b ≡ 0 → length b < length text
short_none text b h e =
    by_test (leb (length text) (length b))
    (λ t. absurd (omega (arith, length_fits text b (leb-true (length text) (length b) t))))
    (λ t. leb-false (length text) (length b) t)

pub fits_some : (text b : List ℕ) → (written_length text b ≡ 0 → ⊥) → length text ≤ length b
fits_some text b h =
    by_test (leb (length text) (length b))
    (λ t. leb-true (length text) (length b) t)
    (λ t. absurd (h (length_short text b (leb-false (length text) (length b) t))))

pub length-within : (text b : List ℕ) → written_length text b ≤ length b
length-within text b =
    by_test (leb (length text) (length b))
    (λ t. let h = leb-true (length text) (length b) t in rw (length_fits text b h) h)
    (λ t. rw (length_short text b (leb-false (length text) (length b) t)) (omega arith))

pub length-written : (text b : List ℕ) → length (written text b) ≡ length b
length-written text b =
    by_test (leb (length text) (length b))
    (λ t.
    let h = leb-true (length text) (length b) t in
    rw (written_fits text b h) (simp (length-append, length-drop) (omega arith)))
    (λ t. rw (written_short text b (leb-false (length text) (length b) t)))

-- the part of a buffer from a place on, as the borrow checker lends it
abbrev pub rest_from : ℕ → List ℕ → List ℕ
rest_from at b = take (length b - at) (drop at b)

length_rest : (at : ℕ) (b : List ℕ) → length (rest_from at b) ≡ length b - at
length_rest at b = ap length (rest_is at b) ∙ length-drop at b

-- a text written to the rest of a buffer, where it fits, in the whole
pub put_written : (text b : List ℕ) (at : ℕ) {count : ℕ} {after : List ℕ} → at + length text ≤ length b → Writes text (rest_from at b) count after
    → (at + count ≡ at + length text) × (put_mid at (length b - at) b after ≡ patched b at text)
put_written text b at {count} {after} h w =
    let fits : length text ≤ length (rest_from at b) = omega (arith, length_rest at b) in (
      ap (λ (k : ℕ). at + k) (w.0 ∙ length_fits text (rest_from at b) fits),
      put_rest b at text after (omega arith) (w.1 ∙ written_fits text (rest_from at b) fits),
    )

-- the same as one text more after those that stand
pub wrote_written : {before b text : List ℕ} (more : List ℕ) {start at count : ℕ} {after : List ℕ} → Wrote before start text b at → at + length more ≤ length b → Writes more (rest_from at b) count after
    → Wrote before start (text ++ more) (put_mid at (length b - at) b after) (at + count)
wrote_written {b = b} more {at = at} w h v = wrote_more more w (put_written more b at h v)

-- a text that does not fit into the rest leaves the whole
pub put_short : (text b : List ℕ) (at : ℕ) {after : List ℕ} → length (rest_from at b) < length text → after ≡ written text (rest_from at b) → put_mid at (length b - at) b after ≡ b
put_short text b at h e = rw (e, written_short text (rest_from at b) h) (put_same at (length b - at) b)

byte_front : (byte : ℕ) (text b : List ℕ) → 0 < length b → set (patched b 1 text) 0 byte ≡ byte ∷ text ++ drop (length (byte ∷ text)) b
unfolding patched
byte_front byte text [] h = absurd (omega arith)
byte_front byte text (x ∷ b) h =
    let e : 1 + length text ≡ suc (length text) = omega arith in
    rw e refl

-- a byte before a text: where the rest takes the text, the whole takes both, and else neither
module _ (byte : ℕ) (text b : List ℕ) (some : 0 < length b) where
  pub byte_room : {count : ℕ} {after : List ℕ} → Writes text (rest_from 1 b) count after → count + 1 ≤ length b
  byte_room w = omega (arith, w.0, length-within text (rest_from 1 b), length_rest 1 b)

  pub byte_short : {count : ℕ} {after : List ℕ} → 0 < length text → Writes text (rest_from 1 b) count after → count ≡ 0 → Writes (byte ∷ text) b 0 (put_mid 1 (length b - 1) b after)
  byte_short {count} {after} h w e =
      let short : length (rest_from 1 b) < length text = short_none text (rest_from 1 b) h (sym w.0 ∙ e) in
      rw (put_short text b 1 short w.1) (writes_short (byte ∷ text) b (omega (arith, length_rest 1 b)))

  pub byte_written : {count : ℕ} {after : List ℕ} → Writes text (rest_from 1 b) count after → (count ≡ 0 → ⊥) → Writes (byte ∷ text) b (count + 1) (set (put_mid 1 (length b - 1) b after) 0 byte)
  byte_written {count} {after} w h =
      let fits : length text ≤ length (rest_from 1 b) = fits_some text (rest_from 1 b) (λ e. h (w.0 ∙ e)) in
      let room : 1 + length text ≤ length b = omega (arith, length_rest 1 b) in
      let put : (1 + count ≡ 1 + length text) × (put_mid 1 (length b - 1) b after ≡ patched b 1 text) = put_written text b 1 room w in
      writes_fits (byte ∷ text) b (omega arith) (omega (arith, put.0)) (rw put.1 (byte_front byte text b some))
