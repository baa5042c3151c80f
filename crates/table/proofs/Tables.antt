-- A whole table, by its length and its header. Assumes nothing.
use Rattle.std.specs.Prelude.{None, Some, Err}
use Prim.Native.Nat.{ℕ, ◌≤◌, ◌<◌}
use mathlib.Core.List.{List, []}
use mathlib.Core.Path.{◌≡◌, refl, ◌∙◌}
use native.Mathlib.Omega.{arith}
use lib.ListN.{length, drop}
use borrow.Author.Tests.{le-leb, lt-leb}
use Rattle.decimal.proofs.Absence.{lacks}
use Rattle.jobs.specs.declared.refusal.Refusal.TheVariants.{TextTooLong, NotHeader}
use Rattle.table.specs.Lines.{lines_of, end_behind}
use Rattle.table.specs.Tables.{header, max_text, records_from, under_header, reading_of}
use Rattle.table.proofs.Headers.{under_not, under_here}

pub too_long : (text : List ℕ) → max_text < length text → Err TextTooLong ≡ reading_of text
unfolding reading_of
too_long text h = rw (lt-leb (length text) max_text h)

module _ (text : List ℕ) (short : length text ≤ max_text) where
  table_by : under_header (lines_of text) ≡ reading_of text
  unfolding reading_of
  table_by = rw (le-leb (length text) max_text short)

  pub no_header : end_behind header text ≡ None → Err NotHeader ≡ reading_of text
  unfolding lacks
  no_header e = under_not header (omega arith) refl (records_from []) (Err NotHeader) text e ∙ table_by

  pub under-header : (n : ℕ) → end_behind header text ≡ Some n → (n ≤ length text) × (records_from [] (lines_of (drop n text)) ≡ reading_of text)
  unfolding lacks
  under-header n e =
      let h = under_here header (omega arith) refl (records_from []) (Err NotHeader) text n e in
      (h.0, h.1 ∙ table_by)
