-- A text tried on a part of no bytes first, which tells its length and leaves the buffer as it was. Assumes nothing.
use Prim.Native.Nat.{ℕ, ◌≤◌, ◌<◌}
use mathlib.Core.Path.{◌≡◌, sym, ap, ◌∙◌}
use mathlib.Core.List.{List, [], ◌++◌}
use native.Mathlib.Omega.{arith}
use lib.ListN.{length}
use Rattle.laws.specs.Words.{clipped, written}
use Rattle.std.specs.Prelude.{Result}
use Rattle.jobs.specs.declared.refusal.Refusal.{Refusal}
use Rattle.texts.specs.Answers.{answer_to}
use Rattle.laws.proofs.Buffers.{written-patched, written_short}
use Rattle.laws.proofs.Clipped.{clipped_empty, clipped_fits}

module _ (text buffer part : List ℕ) (tried : part ≡ clipped [] 0 text) where
  pub as_it_was : part ++ buffer ≡ buffer
  as_it_was = ap (λ (l : List ℕ). l ++ buffer) (tried ∙ clipped_empty 0 text)

  pub tried_short : length buffer < length text → part ++ buffer ≡ written text buffer
  tried_short h = as_it_was ∙ sym (written_short text buffer h)

  pub tried_fits : (after : List ℕ) → length text ≤ length buffer → after ≡ clipped (part ++ buffer) 0 text → after ≡ written text buffer
  tried_fits after h is =
      is ∙ ap (λ (l : List ℕ). clipped l 0 text) as_it_was ∙ clipped_fits buffer 0 text (omega arith) ∙ sym (written-patched text buffer h)

  -- what is answered and left after a try is what would have been without it
  pub answer_tried : {r : Result ℕ Refusal} → r ≡ answer_to text (part ++ buffer) → r ≡ answer_to text buffer
  answer_tried e = e ∙ ap (answer_to text) as_it_was

  pub written_tried : {after : List ℕ} → after ≡ written text (part ++ buffer) → after ≡ written text buffer
  written_tried e = e ∙ ap (written text) as_it_was
