-- Lines of integers with single commas. Document 01, "Programs and the C side". Assumes nothing.
use Rattle.std.specs.Prelude.{ℕ, List, [], ◌∷◌, ◌++◌, drop, ℤ}
use Rattle.laws.specs.Words.{ascii}
use Rattle.decimal.specs.Digits.{signed}

-- Integers, each after a comma, code 44.
unfoldable pub after_commas : List ℤ → List ℕ
after_commas [] = []
after_commas (value ∷ values) = (44 ∷ signed value) ++ after_commas values

-- A line for each row: its integers without the first comma, and CR LF.
unfoldable pub lines_text : List (List ℤ) → List ℕ
lines_text [] = []
lines_text (row ∷ rows) = drop 1 (after_commas row) ++ ascii "\r\n" ++ lines_text rows
