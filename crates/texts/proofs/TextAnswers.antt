-- The answer of a writer, where its text fits and where it does not. Assumes nothing.
use Rattle.std.specs.Prelude.{Ok, Err}
use Prim.Native.Nat.{ℕ, ◌≤◌, ◌<◌}
use mathlib.Core.List.{List}
use mathlib.Core.Path.{◌≡◌}
use lib.ListN.{length}
use borrow.Author.Tests.{le-leb, lt-leb}
use Rattle.jobs.specs.declared.refusal.Refusal.TheVariants.{ShortBuffer}
use Rattle.texts.specs.Answers.{answer_to}

pub answer_short : (text buffer : List ℕ) → length buffer < length text → Err ShortBuffer ≡ answer_to text buffer
unfolding answer_to
answer_short text buffer h = rw (lt-leb (length text) (length buffer) h)

pub answer_fits : (text buffer : List ℕ) (n : ℕ) → length text ≤ length buffer → n ≡ length text → Ok n ≡ answer_to text buffer
unfolding answer_to
answer_fits text buffer n h e = rw (le-leb (length text) (length buffer) h, e)
