-- The first line of a text. Assumes nothing.
use Rattle.std.specs.Prelude.{ℕ, ◌-◌, Bool, cond, ◌&&◌, List, [], ◌∷◌, eqb, length}

-- Whether two bytes are CR LF.
abbrev pub is_break : ℕ → ℕ → Bool
is_break b c = eqb b 13 && eqb c 10

-- All up to the next CR LF or the end of the text.
unfoldable pub first_line : List ℕ → List ℕ
first_line [] = []
first_line (b ∷ []) = b ∷ []
first_line (b ∷ c ∷ text) = cond (is_break b c) [] (b ∷ first_line (c ∷ text))

-- All that stands behind that line and its CR LF.
unfoldable pub after_line : List ℕ → List ℕ
after_line [] = []
after_line (b ∷ []) = []
after_line (b ∷ c ∷ text) = cond (is_break b c) text (after_line (c ∷ text))

-- How many bytes the first line takes with its end.
abbrev pub line_length : List ℕ → ℕ
line_length text = length text - length (after_line text)
