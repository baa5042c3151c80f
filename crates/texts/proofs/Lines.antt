-- Rows as lines, one after another: the text of one row more, and how many bytes rows of so many digits take. Assumes nothing.
use Prim.Native.Nat.{ℕ, zero, suc, ◌+◌, ◌*◌, ◌≤◌, ◌<◌}
use mathlib.Core.List.{List, [], ◌∷◌, ◌++◌, append_assoc, append-nil}
use mathlib.Core.Path.{◌≡◌, refl, sym, ap, ◌∙◌}
use native.Mathlib.Omega.{arith}
use native.Mathlib.Nat.{add-zero, zero-add, mul-suc}
use native.Mathlib.Numerals.{add-one}
use lib.IntN.{ℤ}
use lib.ListN.{length, drop, length-append, length-drop}
use Rattle.laws.specs.Words.{ascii, tabulate}
use Rattle.laws.proofs.Pieces.{Made, PiecesWritten, PiecesSummed}
use Rattle.decimal.specs.Digits.{signed}
use Rattle.texts.specs.Lines.{after_commas, lines_text}

-- CR LF
abbrev pub line_end : List ℕ
line_end = ascii "\r\n"

-- the line of a row
abbrev pub line_text : List ℤ → List ℕ
line_text row = lines_text (row ∷ [])

-- the lines of the first n rows
abbrev pub lines_up_to : (ℕ → List ℤ) → ℕ → List ℕ
lines_up_to row n = lines_text (tabulate 0 n row)

pub commas_append : (values more : List ℤ) → after_commas (values ++ more) ≡ after_commas values ++ after_commas more
unfolding after_commas
commas_append [] more = refl
commas_append (value ∷ values) more =
    ap (λ (l : List ℕ). (44 ∷ signed value) ++ l) (commas_append values more) ∙ sym (append_assoc (44 ∷ signed value) (after_commas values) (after_commas more))

pub line_is : (row : List ℤ) → line_text row ≡ drop 1 (after_commas row) ++ line_end
unfolding lines_text
line_is row = append-nil (drop 1 (after_commas row) ++ line_end)

pub lines_append : (a b : List (List ℤ)) → lines_text (a ++ b) ≡ lines_text a ++ lines_text b
unfolding lines_text
lines_append [] b = refl
lines_append (row ∷ a) b =
    ap (λ (l : List ℕ). drop 1 (after_commas row) ++ line_end ++ l) (lines_append a b)
    ∙ sym (append_assoc (drop 1 (after_commas row) ++ line_end) (lines_text a) (lines_text b))

lines_next : (row : ℕ → List ℤ) (i n : ℕ) → lines_text (tabulate i (suc n) row) ≡ lines_text (tabulate i n row) ++ line_text (row (i + n))
unfolding lines_text tabulate
lines_next row i zero = ap (λ (k : ℕ). line_text (row k)) (sym (add-zero i))
lines_next row i (suc n) =
    ap (λ (l : List ℕ). drop 1 (after_commas (row i)) ++ line_end ++ l)
    (lines_next row (suc i) n ∙ ap (λ (k : ℕ). lines_text (tabulate (suc i) n row) ++ line_text (row k)) place)
    ∙ sym (append_assoc (drop 1 (after_commas (row i)) ++ line_end) (lines_text (tabulate (suc i) n row)) (line_text (row (i + suc n))))
  where
    place : suc i + n ≡ i + suc n
    place = omega arith

pub lines_more : (row : ℕ → List ℤ) (n : ℕ) → lines_up_to row (suc n) ≡ lines_up_to row n ++ line_text (row n)
lines_more row n = lines_next row 0 n ∙ ap (λ (k : ℕ). lines_up_to row n ++ line_text (row k)) (zero-add n)

pub lines_made : (row : ℕ → List ℤ) (total : ℕ) → Made (lines_up_to row) (λ n. line_text (row n)) total
unfolding lines_text tabulate
lines_made row total = record { none = refl; next = λ n h. ap (lines_up_to row) (add-one n) ∙ lines_more row n }

-- the first n lines stand in the buffer from `at` on, and their lengths are summed up
abbrev pub LinesWritten : (ℕ → List ℤ) → ℕ → List ℕ → ℕ → List ℕ → ℕ → ℕ → Type 0
LinesWritten row total before at out next n = PiecesWritten (lines_up_to row) (λ k. line_text (row k)) total before at out next n

abbrev pub LinesSummed : (ℕ → List ℤ) → ℕ → ℕ → ℕ → ℕ → Type 0
LinesSummed row total most sum n = PiecesSummed (lines_up_to row) (λ k. line_text (row k)) total most sum n

-- ---- how many bytes they take
pub line_length_lem : (row : List ℤ) → length (line_text row) ≡ length (drop 1 (after_commas row)) + 2
line_length_lem row = ap length (line_is row) ∙ length-append (drop 1 (after_commas row)) line_end

pub lines_within : (row : ℕ → List ℤ) (width n : ℕ) → ((k : ℕ) → k < n → length (line_text (row k)) ≤ width) → length (lines_up_to row n) ≤ width * n
unfolding lines_text tabulate
lines_within row width zero h = omega arith
lines_within row width (suc n) h =
    omega (arith, ap length (lines_more row n), length-append (lines_up_to row n) (line_text (row n)), lines_within row width n (λ k l. h k (omega arith)), h n (omega arith), mul-suc width n)

-- integers of so many digits, a minus sign counted as one
abbrev pub Narrow : List ℤ → List ℕ → Type 0
Narrow [] widths = Unit {0}
Narrow (value ∷ values) [] = ⊥
Narrow (value ∷ values) (width ∷ widths) = (length (signed value) ≤ width) × Narrow values widths

-- with a comma for each
abbrev pub total : List ℕ → ℕ
total [] = 0
total (width ∷ widths) = width + 1 + total widths

commas_within : (values : List ℤ) (widths : List ℕ) → Narrow values widths → length (after_commas values) ≤ total widths
unfolding after_commas
commas_within [] widths h = omega arith
commas_within (value ∷ values) [] h = absurd h
commas_within (value ∷ values) (width ∷ widths) h =
    omega (arith, length-append (44 ∷ signed value) (after_commas values), h.0, commas_within values widths h.1)

pub line_within : (row : List ℤ) (widths : List ℕ) → Narrow row widths → length (line_text row) ≤ total widths + 2
line_within row widths h =
    omega (arith, line_length_lem row, length-drop 1 (after_commas row), commas_within row widths h)
