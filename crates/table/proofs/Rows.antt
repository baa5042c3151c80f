-- A line read field by field from the text is the row of the text's first line. Assumes nothing.
use Rattle.std.specs.Prelude.{Option, None, Some, Result, Ok, Err}
use Prim.Native.Nat.{ℕ, suc, ◌+◌, ◌-◌, ◌≤◌, ◌<◌}
use mathlib.Core.List.{List, [], ◌∷◌, ◌++◌}
use mathlib.Core.Path.{◌≡◌, refl, sym, ap, ap₂, ◌∙◌}
use native.Mathlib.Omega.{arith}
use native.Mathlib.Nat.{zero-add}
use native.Mathlib.Numerals.{add-one}
use lib.ListN.{length, take, drop, set, length-take, length-drop}
use lib.Seq.{drop-drop, take-suc-set, length-take-le}
use borrow.Author.Tests.{ne_eqb, le-leb, lt-leb}
use Rattle.laws.specs.Words.{padded}
use Rattle.laws.proofs.Lists.{length-padded, padded_snoc}
use Rattle.laws.proofs.Lines.{first_line, after_line, line_length, after-within, inside}
use Rattle.decimal.specs.declared.field.Field.{Field}
use Rattle.jobs.specs.declared.refusal.Refusal.{Refusal}
use Rattle.jobs.specs.declared.refusal.Refusal.TheVariants.{MalformedLine}
use Rattle.table.specs.declared.line.Line.{Line}
use Rattle.table.specs.Lines.{max_columns, fields_in, row_of, line_with, line_of, end_of}
use Rattle.table.proofs.Lines.{end_empty, end_elsewhere, end-within}
use Rattle.table.proofs.Columns.{column_of, then_field, ahead, fields_ahead, column_line, column-within}

-- ---- the first line of a text, by its row
abbrev pub line_by : ℕ → List ℕ → Result Line Refusal
line_by columns text = line_with (row_of columns (first_line text)) (line_length text)

-- ---- the line where so many fields are left, after some fields and `at` bytes
abbrev line_from : ℕ → List ℕ → ℕ → ℕ → List ℕ → Result Line Refusal
line_from left before k at rest = line_with (fields_in left before (ahead k (first_line rest))) (at + line_length rest)

-- where none is left, the line has to end
abbrev ended : Option ℕ → List ℕ → ℕ → Result Line Refusal
ended (Some n) before at = line_with (Some before) (at + n)
ended None before at = Err MalformedLine

at_end : (before : List ℕ) (at : ℕ) (rest line : List ℕ) → first_line rest ≡ line → ended (end_of rest) before at ≡ line_with (fields_in 0 before line) (at + line_length rest)
unfolding fields_in
at_end before at rest [] e = rw (end_empty rest e)
at_end before at rest (b ∷ line) e = rw (end_elsewhere rest (omega (arith, ap length e)))

-- ---- the fields before place k are read into the values, and what follows them decides
pub record FieldsRead (columns : ℕ) (text values : List ℕ) (at k : ℕ) : Type 0 where
  pub few : k ≤ columns
  pub inside : at ≤ length text
  pub padding : values ≡ padded max_columns 0 (take k values)
  pub follows : line_from (columns - k) (take k values) k at (drop at text) ≡ line_by columns text

pub fields_none : (columns : ℕ) (text : List ℕ) → FieldsRead columns text (padded max_columns 0 []) 0 0
fields_none columns text =
    record {
      few = omega arith;
      inside = omega arith;
      padding = refl;
      follows = ap₂ (λ (left n : ℕ). line_with (fields_in left [] (44 ∷ first_line text)) n) (omega arith) (zero-add (line_length text));
    }

module _ {columns : ℕ} {text values : List ℕ} {at k : ℕ} (room : (0 < columns) × (columns ≤ max_columns)) (r : FieldsRead columns text values at k) where
  pub length-values : length values ≡ max_columns
  length-values = ap length r.padding ∙ length-padded max_columns 0 (take k values) (omega (arith, length-take k values, r.few))

  count : length (take k values) ≡ k
  count = length-take-le k values (omega (arith, length-values, r.few))

  -- the next column decides how the line goes on
  next : (f : Option Field) → k < columns → column_of k (drop at text) ≡ f
      → line_with (then_field f (λ v n. fields_in (columns - (k + 1)) (take k values ++ (v ∷ [])) (drop n (first_line (drop at text))))) (at + line_length (drop at text)) ≡ line_by columns text
  next f h e =
      let left : columns - k ≡ suc (columns - (k + 1)) = omega arith in
      rw (← e, ← column_line k (drop at text), ← fields_ahead (columns - (k + 1)) (take k values) k (first_line (drop at text)), ← left) r.follows

  pub fields_malformed : k < columns → column_of k (drop at text) ≡ None → Err MalformedLine ≡ line_by columns text
  fields_malformed h e = next None h e

  pub fields_within : (f : Field) → column_of k (drop at text) ≡ Some f → at + f.length ≤ length text
  fields_within f e = omega (arith, column-within k (drop at text) f e, length-drop at text, r.inside)

  pub fields_next : (f : Field) → k < columns → column_of k (drop at text) ≡ Some f → FieldsRead columns text (set values k f.value) (at + f.length) (k + 1)
  fields_next f h e =
      let v = f.value in
      let n = f.length in
      let rest = drop at text in
      let here : drop (at + n) text ≡ drop n rest = sym (drop-drop n at text) in
      let taken : take (k + 1) (set values k v) ≡ take k values ++ (v ∷ []) = rw add-one (take-suc-set values k v (omega (arith, length-values))) in
      let i = inside n rest (column-within k (first_line rest) f (column_line k rest ∙ e)) in
      let line : ahead (k + 1) (first_line (drop (at + n) text)) ≡ drop n (first_line rest) = rw (ne_eqb (k + 1) 0 (λ z. omega arith), here) i.first in
      let long : at + n + line_length (drop (at + n) text) ≡ at + line_length rest =
      omega (arith, after-within (drop n rest), length-drop n rest, ap length i.after, ap length here, ap (λ (l : List ℕ). length (after_line l)) here, column-within k rest f e) in
      record {
        few = omega arith;
        inside = fields_within f e;
        padding = rw taken (ap₂ (λ (l : List ℕ) (i : ℕ). set l i v) r.padding (sym count) ∙ padded_snoc max_columns 0 (take k values) v (omega (arith, count)));
        follows = rw (line, taken, long) (next (Some f) h e);
      }

  -- no column is left
  last : (o : Option ℕ) → columns ≤ k → end_of (drop at text) ≡ o → ended o (take k values) at ≡ line_by columns text
  last o h e =
      let done : columns - k ≡ 0 = omega arith in
      rw (← e, at_end (take k values) at (drop at text) (first_line (drop at text)) refl) (rw (done, ne_eqb k 0 (λ z. omega arith)) at r.follows)

  pub fields_last : (n : ℕ) → end_of (drop at text) ≡ Some n → at + n ≤ length text
  fields_last n e = omega (arith, end-within (drop at text) n e, length-drop at text, r.inside)

  pub fields_ended : (n : ℕ) → columns ≤ k → end_of (drop at text) ≡ Some n → ◌≡◌ {A = Result Line Refusal} (Ok (record { values = values; length = at + n })) (line_by columns text)
  fields_ended n h e = ap (λ (l : List ℕ). Ok (record { values = l; length = at + n })) r.padding ∙ last (Some n) h e

  pub fields_open : columns ≤ k → end_of (drop at text) ≡ None → Err MalformedLine ≡ line_by columns text
  fields_open h e = last None h e

-- ---- a line of any number of columns
pub line_none : (columns : ℕ) (text : List ℕ) → columns ≡ 0 → Err MalformedLine ≡ line_of columns text
unfolding line_of fields_in
line_none columns text e = rw e

pub line_many : (columns : ℕ) (text : List ℕ) → max_columns < columns → Err MalformedLine ≡ line_of columns text
unfolding line_of
line_many columns text h = rw (lt-leb columns max_columns h)

pub line_few : (columns : ℕ) (text : List ℕ) → columns ≤ max_columns → line_by columns text ≡ line_of columns text
unfolding line_of
line_few columns text h = rw (le-leb columns max_columns h)
