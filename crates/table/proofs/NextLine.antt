-- The next line of a text that is read line by line, and what reading it says. Assumes nothing.
--   FieldsOf   a line that was read as so many fields
use Rattle.std.specs.Prelude.{Option, None, Some, Result, Ok, Err}
use Prim.Native.Nat.{ℕ, suc, ◌+◌, ◌≤◌, ◌<◌}
use mathlib.Core.List.{List, ◌∷◌}
use mathlib.Core.Path.{◌≡◌, refl, sym, ap, ◌∙◌}
use native.Mathlib.Omega.{arith}
use lib.ListN.{length, drop, get_or, length-drop}
use lib.Seq.{drop-drop, drop-cons}
use borrow.Author.Tests.{le-leb}
use Rattle.laws.specs.Words.{padded}
use Rattle.laws.proofs.Lines.{first_line, after_line, line_length, line_within, line_some, after-drop}
use Rattle.jobs.specs.declared.refusal.Refusal.{Refusal}
use Rattle.jobs.specs.declared.refusal.Refusal.TheVariants.{MalformedLine}
use Rattle.table.specs.declared.line.Line.{Line}
use Rattle.table.specs.Lines.{lines_of, max_columns, row_of, line_with, line_of}
use Rattle.table.proofs.Lines.{lines_cons}

-- ---- the line at a place of the text
module _ (rest : List ℕ) (at : ℕ) (here : at < length rest) where
  at_here : drop at rest ≡ get_or rest at 0 ∷ drop (suc at) rest
  at_here = drop-cons rest at 0 here

  pub lines_here : lines_of (drop at rest) ≡ first_line (drop at rest) ∷ lines_of (after_line (drop at rest))
  lines_here =
      ap lines_of at_here ∙ lines_cons (get_or rest at 0) (drop (suc at) rest)
      ∙ ap (λ (t : List ℕ). first_line t ∷ lines_of (after_line t)) (sym at_here)

  pub line_forward : 0 < line_length (drop at rest)
  line_forward = rw at_here (line_some (get_or rest at 0) (drop (suc at) rest))

  pub line_inside : at + line_length (drop at rest) ≤ length rest
  line_inside = omega (arith, line_within (drop at rest), length-drop at rest)

  pub line_behind : drop (at + line_length (drop at rest)) rest ≡ after_line (drop at rest)
  line_behind = sym (drop-drop (line_length (drop at rest)) at rest) ∙ after-drop (drop at rest)

-- ---- what reading it says
pub record FieldsOf (columns : ℕ) (line : Line) (text : List ℕ) : Type 0 where
  pub fields : List ℕ
  pub row : row_of columns (first_line text) ≡ Some fields
  pub padding : line.values ≡ padded max_columns 0 fields
  pub taken : line.length ≡ line_length text

read_by : (columns : ℕ) (r : Option (List ℕ)) (text : List ℕ) → row_of columns (first_line text) ≡ r → (line : Line) → Ok line ≡ line_with r (line_length text) → FieldsOf columns line text
read_by columns (Some values) text e line f =
    let g : line ≡ record { values = padded max_columns 0 values; length = line_length text } = cc in
    record { fields = values; row = e; padding = ap (λ (l : Line). l.values) g; taken = ap (λ (l : Line). l.length) g }
read_by columns None text e line f = let z : ◌≡◌ {A = ℕ} 0 1 = cc in absurd (omega arith)

refused_by : (columns : ℕ) (r : Option (List ℕ)) (text : List ℕ) → row_of columns (first_line text) ≡ r → (x : Refusal) → Err x ≡ line_with r (line_length text)
    → (row_of columns (first_line text) ≡ None) × (MalformedLine ≡ x)
refused_by columns (Some values) text e x f = let z : ◌≡◌ {A = ℕ} 0 1 = cc in absurd (omega arith)
refused_by columns None text e x f = (e, cc)

module _ (columns : ℕ) (few : columns ≤ max_columns) {answer : Result Line Refusal} (text : List ℕ) (is : answer ≡ line_of columns text) where
  by_row : answer ≡ line_with (row_of columns (first_line text)) (line_length text)
  unfolding line_of
  by_row = is ∙ rw (le-leb columns max_columns few)

  pub line_read : (line : Line) → answer ≡ Ok line → FieldsOf columns line text
  line_read line e = read_by columns (row_of columns (first_line text)) text refl line (sym e ∙ by_row)

  pub line_refused : (x : Refusal) → answer ≡ Err x → (row_of columns (first_line text) ≡ None) × (MalformedLine ≡ x)
  line_refused x e = refused_by columns (row_of columns (first_line text)) text refl x (sym e ∙ by_row)
