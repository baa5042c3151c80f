-- Texts in a buffer that may have no room for all of them: as much stands as fits, and one text after another is the two as one. Nothing here
-- depends on what the texts say. Assumes nothing.
use Prim.Native.Nat.{ℕ, zero, suc, ◌+◌, ◌-◌, ◌≤◌, ◌<◌, min}
use mathlib.Core.Path.{◌≡◌, refl, sym, ap, ◌∙◌}
use mathlib.Core.List.{List, [], ◌∷◌, ◌++◌, append-nil}
use native.Mathlib.Omega.{arith}
use native.Mathlib.Nat.{add-zero, suc-add}
use lib.ListN.{length, take, length-append, length-take, length-drop, drop, take-append-drop}
use lib.Seq.{take_all, take-length, take-nil, length-take-le}
use Rattle.laws.specs.Words.{patched, clipped}
use borrow.Rule.Slice.PartMut.{put_mid}
use Rattle.laws.proofs.Buffers.{length-patched, copied-patched, Wrote}

pub clipped-length : {A : Type 0} (b : List A) (at : ℕ) (t : List A) → length (clipped b at t) ≡ length b
unfolding clipped patched
clipped-length b at t =
    length-take (length b) (take at b ++ t ++ drop (at + length t) b)
    ∙ omega (
      arith,
      length-append (take at b ++ t) (drop (at + length t) b),
      length-append (take at b) t,
      length-take at b,
      length-drop (at + length t) b,
    )

pub clipped_empty : {A : Type 0} (at : ℕ) (t : List A) → clipped [] at t ≡ []
unfolding clipped
clipped_empty at t = refl

pub clipped_none : {A : Type 0} (b : List A) (at : ℕ) → clipped b at [] ≡ b
unfolding clipped patched
clipped_none b at = simp (append-nil, add-zero) (ap (take (length b)) (take-append-drop at b) ∙ take-length b)

pub clipped_fits : {A : Type 0} (b : List A) (at : ℕ) (t : List A) → at + length t ≤ length b → clipped b at t ≡ patched b at t
unfolding clipped
clipped_fits b at t h = take_all (length b) (patched b at t) (omega (arith, length-patched b at t h))

-- ---- the first place of the buffer, before the text and under it
clipped-before : {A : Type 0} (x : A) (b : List A) (at : ℕ) (t : List A) → clipped (x ∷ b) (suc at) t ≡ x ∷ clipped b at t
unfolding clipped patched
clipped-before x b at t = rw (suc-add at (length t)) refl

clipped-under : {A : Type 0} (x : A) (b : List A) (y : A) (t : List A) → clipped (x ∷ b) 0 (y ∷ t) ≡ y ∷ clipped b 0 t
unfolding clipped patched
clipped-under x b y t =
    let e : 0 + suc (length t) ≡ suc (0 + length t) = omega arith in
    rw e refl

-- one text after another is the two as one
pub clipped_more : {A : Type 0} (b : List A) (at : ℕ) (s t : List A) → clipped (clipped b at s) (at + length s) t ≡ clipped b at (s ++ t)
clipped_more [] at s t = rw (clipped_empty at s, clipped_empty (at + length s) t, clipped_empty at (s ++ t)) refl
clipped_more (x ∷ b) (suc at) s t =
    rw (clipped-before x b at s, suc-add at (length s), clipped-before x (clipped b at s) (at + length s) t, clipped-before x b at (s ++ t))
    (ap (λ l. x ∷ l) (clipped_more b at s t))
clipped_more (x ∷ b) zero [] t = rw (clipped_none (x ∷ b) 0) refl
clipped_more (x ∷ b) zero (y ∷ s) t =
    let e : 0 + suc (length s) ≡ suc (0 + length s) = omega arith in
    rw (clipped-under x b y s, e, clipped-before y (clipped b 0 s) (0 + length s) t, clipped-under x b y (s ++ t))
    (ap (λ l. y ∷ l) (clipped_more b 0 s t))

-- what does not fit does not count
pub clipped_part : {A : Type 0} (b : List A) (at : ℕ) (t : List A) (n : ℕ) → min (length t) (length b - at) ≤ n → clipped b at (take n t) ≡ clipped b at t
clipped_part [] at t n h = rw (clipped_empty at (take n t), clipped_empty at t) refl
clipped_part (x ∷ b) (suc at) t n h =
    rw (clipped-before x b at (take n t), clipped-before x b at t) (ap (λ l. x ∷ l) (clipped_part b at t n (omega arith)))
clipped_part (x ∷ b) zero [] n h = rw (take-nil n) refl
clipped_part (x ∷ b) zero (y ∷ t) zero h = absurd (omega arith)
clipped_part (x ∷ b) zero (y ∷ t) (suc n) h =
    rw (clipped-under x b y (take n t), clipped-under x b y t) (ap (λ l. y ∷ l) (clipped_part b 0 t n (omega arith)))

-- as many elements of a text as fit, copied over the part of the buffer that is as long
pub clipped-copied : {A : Type 0} (b : List A) (at : ℕ) (t : List A) (n : ℕ) → n ≡ min (length t) (length b - at) → 0 < n → put_mid at (at + n - at) b (take n t) ≡ clipped b at t
clipped-copied b at t n e h =
    let long : length (take n t) ≡ n = length-take-le n t (omega (arith, e)) in
    sym (ap (λ (k : ℕ). put_mid at (at + k - at) b (take n t)) long)
    ∙ copied-patched b at (take n t)
    ∙ sym (clipped_fits b at (take n t) (omega (arith, long, e)))
    ∙ clipped_part b at t n (omega (arith, e))

-- ---- a chain of writers: `after` is `before` with as much of the text from `start` on as fits, and `next` is the place after the text
pub record Put {A : Type 0} (before : List A) (start : ℕ) (text after : List A) (next : ℕ) : Type 0 where
  pub list : after ≡ clipped before start text
  pub place : next ≡ start + length text

pub put_none : {A : Type 0} (b : List A) (at : ℕ) → Put b at [] b at
put_none b at = record { list = sym (clipped_none b at); place = omega arith }

-- one text after another
pub put_then : {A : Type 0} {before between after text more : List A} {start at next : ℕ} → Put before start text between at → Put between at more after next
    → Put before start (text ++ more) after next
put_then {before = before} {text = text} {more = more} {start = start} w v =
    record {
      list = v.list ∙ rw (w.list, w.place) (clipped_more before start text more);
      place = omega (arith, v.place, w.place, length-append text more);
    }

-- the same where the writer answers how long its text is, and from the start of a buffer
pub put-counted : {A : Type 0} {before between after text : List A} (more : List A) {start at count : ℕ} → Put before start text between at
    → (count ≡ length more) × (after ≡ clipped between at more)
    → Put before start (text ++ more) after (at + count)
put-counted {between = between} {after = after} more {at = at} {count = count} w v =
    let written : Put between at more after (at + count) = record { list = v.1; place = omega (arith, v.0) } in
    put_then w written

pub put-start : {A : Type 0} {before after : List A} (text : List A) {count : ℕ} → (count ≡ length text) × (after ≡ clipped before 0 text) → Put before 0 text after count
put-start text w = record { list = w.1; place = omega (arith, w.0) }

pub put_whole : {A : Type 0} {before after text : List A} {next : ℕ} → Put before 0 text after next → (next ≡ length text) × (after ≡ clipped before 0 text)
put_whole w = (omega (arith, w.place), w.list)

pub put-length : {A : Type 0} {before after text : List A} {start next : ℕ} → Put before start text after next → length after ≡ length before
put-length {before = before} {text = text} {start = start} w = ap length w.list ∙ clipped-length before start text

-- a text that fits is written whole
pub put_wrote : {A : Type 0} {before after text : List A} {start next : ℕ} → Put before start text after next → start + length text ≤ length before → Wrote before start text after next
put_wrote {before = before} {text = text} {start = start} w h =
    record { starts = omega arith; list = w.list ∙ clipped_fits before start text h; place = w.place }
