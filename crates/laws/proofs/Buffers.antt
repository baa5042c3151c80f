-- Texts in a buffer: what a writer of the rest of a buffer leaves in the whole, and one text after another.
-- Nothing here depends on what the texts say. Assumes nothing.
use Prim.Native.Nat.{ℕ, ◌+◌, ◌-◌, ◌≤◌, ◌<◌}
use mathlib.Core.Path.{◌≡◌, refl, sym, ap, ◌∙◌}
use mathlib.Core.List.{List, [], ◌∷◌, ◌++◌, append_assoc, append-nil}
use native.Mathlib.Numerals.{add-one}
use native.Mathlib.Omega.{arith}
use native.Mathlib.Nat.{add_assoc, add-zero}
use lib.ListN.{length, take, drop, set, length-append, length-drop, take-append-drop}
use lib.Seq.{set_split, take_at, drop-drop, drop-length, drop-append-add, length-take-le}
use borrow.Rule.Slice.PartMut.{put_mid, post_of, Post-is}
use borrow.Author.Tests.{le-leb, lt-leb}
use Rattle.laws.specs.Words.{patched, written}
use Rattle.laws.proofs.Lists.{rest_is}

-- a text at the start of the rest of a buffer, in the whole; `put_mid` is how the borrow checker puts a lent part back
pub put_rest : {A : Type 0} (b : List A) (at : ℕ) (text rest : List A) → at ≤ length b → rest ≡ text ++ drop (length text) (take (length b - at) (drop at b)) → put_mid at (length b - at) b rest ≡ patched b at text
unfolding patched
put_rest b at text rest h e =
    let f : rest ≡ text ++ drop (at + length text) b = simp (rest_is, drop-drop) at e in
    let g : post_of at (length b - at) b ≡ [] = Post-is at (length b) b h ∙ drop-length b in
    simp (g, f, append-nil, append_assoc)

head-length : {A : Type 0} (b : List A) (at : ℕ) (text : List A) → at ≤ length b → length (take at b ++ text) ≡ at + length text
head-length b at text h = length-append (take at b) text ∙ ap (λ (k : ℕ). k + length text) (length-take-le at b h)

-- a text copied over the part of a buffer that is as long
pub copied-patched : {A : Type 0} (b : List A) (at : ℕ) (text : List A) → put_mid at (at + length text - at) b text ≡ patched b at text
unfolding patched
copied-patched b at text = simp (append_assoc, Post-is at (at + length text) b (omega arith))

pub length-patched : {A : Type 0} (b : List A) (at : ℕ) (text : List A) → at + length text ≤ length b → length (patched b at text) ≡ length b
unfolding patched
length-patched b at text h =
    simp (length-append, length-take-le at b (omega arith), length-drop) (omega arith)

drop_past : {A : Type 0} (p q : List A) (n m : ℕ) → length p ≡ n → drop (n + m) (p ++ q) ≡ drop m q
drop_past p q n m e = rw (← e) (drop-append-add p q m)

-- one text after another is the two as one
pub patched_more : {A : Type 0} (b : List A) (at : ℕ) (s t : List A) → at ≤ length b → patched (patched b at s) (at + length s) t ≡ patched b at (s ++ t)
unfolding patched
patched_more b at s t h =
    let p = take at b ++ s in
    let q = drop (at + length s) b in
    let l = head-length b at s h in
    rw (take_at p q (at + length s) l, drop_past p q (at + length s) (length t) l, drop-drop)
    (simp (append_assoc, length-append, add_assoc))

-- `after` is `before` with the text from `start` on, and `next` is the place after the text
pub record Wrote {A : Type 0} (before : List A) (start : ℕ) (text after : List A) (next : ℕ) : Type 0 where
  pub starts : start ≤ length before
  pub list : after ≡ patched before start text
  pub place : next ≡ start + length text

pub wrote_none : {A : Type 0} (b : List A) (at : ℕ) → at ≤ length b → Wrote b at [] b at
unfolding patched
wrote_none b at h =
    record {
      starts = h;
      list = sym (simp (append-nil, add-zero) (take-append-drop at b));
      place = omega arith;
    }

-- the first text, by the promise of a writer at a place
pub wrote_first : {A : Type 0} {before after : List A} (text : List A) {start next : ℕ} → start ≤ length before → (next ≡ start + length text) × (after ≡ patched before start text) → Wrote before start text after next
wrote_first text h w = record { starts = h; list = w.1; place = w.0 }

-- one text more, by the promise of a writer at the place after the last
pub wrote_more : {A : Type 0} {before between after text : List A} (more : List A) {start at next : ℕ} → Wrote before start text between at → (next ≡ at + length more) × (after ≡ patched between at more) → Wrote before start (text ++ more) after next
wrote_more {before = before} {text = text} more {start = start} w v =
    record {
      starts = w.starts;
      list = v.1 ∙ rw (w.list, w.place) (patched_more before start text more w.starts);
      place = omega (arith, v.0, w.place, length-append text more);
    }

pub wrote_length : {A : Type 0} {before after text : List A} {start next : ℕ} → Wrote before start text after next → start + length text ≤ length before → length after ≡ length before
wrote_length {before = before} {text = text} {start = start} w h = ap length w.list ∙ length-patched before start text h

-- a further text fits where the whole does
pub wrote_room : {A : Type 0} {before after text : List A} (more : List A) {start next : ℕ} → Wrote before start text after next → start + length text + length more ≤ length before → next + length more ≤ length after
wrote_room more w h = omega (arith, w.place, wrote_length w (omega arith))

-- one element stored is a text of one
pub set-patched : {A : Type 0} (b : List A) (at : ℕ) (x : A) → at < length b → set b at x ≡ patched b at (x ∷ [])
unfolding patched
set-patched b at x h = set_split b at x h ∙ simp (append_assoc, add-one)

pub wrote_one : {A : Type 0} {before between text : List A} (x : A) {start at : ℕ} → Wrote before start text between at → at < length between → Wrote before start (text ++ (x ∷ [])) (set between at x) (at + 1)
wrote_one {between = between} x {at = at} w h = wrote_more (x ∷ []) w (refl, set-patched between at x h)

-- ---- a text at the start of a buffer that has room for it, and one that has not
pub written-patched : (text b : List ℕ) → length text ≤ length b → written text b ≡ patched b 0 text
unfolding written
written-patched text b h = rw (le-leb (length text) (length b) h)

pub written_short : (text b : List ℕ) → length b < length text → written text b ≡ b
unfolding written
written_short text b h = rw (lt-leb (length text) (length b) h)
