-- A text written from the start of a buffer is the whole text, as a writer that may have no room promises it. Assumes nothing.
use Prim.Native.Nat.{ℕ, ◌≤◌}
use mathlib.Core.List.{List, ◌++◌}
use mathlib.Core.Path.{◌≡◌, ap, ◌∙◌}
use native.Mathlib.Nat.{zero-add}
use lib.ListN.{length, drop}
use Rattle.laws.specs.Words.{patched}
use Rattle.laws.proofs.Buffers.{Wrote}
use Rattle.decimal.proofs.Writing.{Writes, writes_fits}

pub patched-start : (b text : List ℕ) → patched b 0 text ≡ text ++ drop (length text) b
unfolding patched
patched-start b text = ap (λ (n : ℕ). text ++ drop n b) (zero-add (length text))

pub wrote_whole : {b text after : List ℕ} {next : ℕ} → Wrote b 0 text after next → length text ≤ length b → Writes text b next after
wrote_whole {b} {text} {after} {next} w h =
    writes_fits text b h (w.place ∙ zero-add (length text)) (w.list ∙ patched-start b text)
