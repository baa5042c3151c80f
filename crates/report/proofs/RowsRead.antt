-- Rows of integers read back from their text: each row is a line of it, since no row holds a CR, and numbers of few enough digits are its fields.
-- Assumes nothing.
use Rattle.std.specs.Prelude.{Some}
use Prim.Native.Nat.{ℕ, suc, ◌≤◌, max}
use mathlib.Core.Bool.{true}
use mathlib.Core.List.{List, [], ◌∷◌, ◌++◌, map, append_assoc, append-nil}
use mathlib.Core.Path.{◌≡◌, refl, sym, ap, ◌∙◌}
use native.Mathlib.Omega.{arith}
use lib.IntN.{ℤ, pos, negsuc}
use lib.ListN.{length, drop}
use Rattle.decimal.specs.Digits.{signed}
use Rattle.decimal.specs.Fields.{is_digit, max_digits, digit_run}
use Rattle.decimal.proofs.Absence.{lacks, lacks-append, lacks-decimal}
use Rattle.table.specs.Lines.{lines_of, fields_in}
use Rattle.table.proofs.PlainLines.{lines_plain}
use Rattle.table.proofs.ReadBack.{field_back}
use Rattle.texts.specs.Lines.{after_commas, lines_text}
use Rattle.texts.proofs.Lines.{Narrow}

-- ---- rows hold no CR, and so are the lines of their text
plain_signed : (z : ℤ) → lacks 13 (signed z) ≡ true
unfolding signed lacks
plain_signed (pos n) = lacks-decimal 13 n (omega arith)
plain_signed (negsuc n) = lacks-decimal 13 (suc n) (omega arith)

plain_commas : (row : List ℤ) → lacks 13 (after_commas row) ≡ true
unfolding after_commas lacks
plain_commas [] = refl
plain_commas (value ∷ values) = lacks-append 13 (signed value) (after_commas values) (plain_signed value) (plain_commas values)

-- a row without its first comma
abbrev pub row_text : List ℤ → List ℕ
row_text row = drop 1 (after_commas row)

plain_row : (row : List ℤ) → lacks 13 (row_text row) ≡ true
unfolding after_commas lacks
plain_row [] = refl
plain_row (value ∷ values) = plain_commas (value ∷ values)

pub lines_rows : {A : Type 0} (row : A → List ℤ) (xs : List A) → lines_of (lines_text (map row xs)) ≡ map (λ x. row_text (row x)) xs
unfolding lines_text lines_of
lines_rows row [] = refl
lines_rows row (x ∷ xs) =
    lines_plain (row_text (row x)) (lines_text (map row xs)) (plain_row (row x))
    ∙ ap (λ (lines : List (List ℕ)). row_text (row x) ∷ lines) (lines_rows row xs)

-- ---- numbers of few enough digits are read back
run_commas : (row : List ℤ) → digit_run (after_commas row) ≡ []
unfolding after_commas digit_run is_digit
run_commas [] = refl
run_commas (value ∷ values) = refl

-- the most digits of a number
abbrev pub widest : List ℕ → ℕ
widest [] = 0
widest (width ∷ widths) = max width (widest widths)

pub fields_back : (values widths before : List ℕ) → Narrow (map pos values) widths → widest widths ≤ max_digits
    → fields_in (length values) before (after_commas (map pos values)) ≡ Some (before ++ values)
unfolding after_commas signed fields_in
fields_back [] widths before h few = ap Some (sym (append-nil before))
fields_back (value ∷ values) [] before h few = absurd h
fields_back (value ∷ values) (width ∷ widths) before h few =
    field_back (length values) before value (after_commas (map pos values)) (omega (arith, h.0)) (run_commas (map pos values))
    ∙ fields_back values widths (before ++ (value ∷ [])) h.1 (omega arith)
    ∙ ap Some (append_assoc before (value ∷ []) values)
