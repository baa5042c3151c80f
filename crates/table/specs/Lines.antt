-- The lines of a text, and the fields of a line. Document 01, "A job table", and number 3. Assumes nothing.
use Rattle.std.specs.Prelude.{Option, None, Some, ℕ, zero, suc, ◌+◌, Bool, cond, ◌&&◌, List, [], ◌∷◌, ◌++◌, leb, eqb, length, drop, Result, Ok, Err}
use Rattle.laws.specs.Words.{same_up_to, padded}
use Rattle.laws.specs.Lines.{first_line, line_length}
use Rattle.decimal.specs.{Fields.field_of}
use Rattle.jobs.specs.declared.{refusal.Refusal.Refusal}
use Rattle.table.specs.declared.{line.Line.Line}

-- The lines of a text: each is all that stands before the next CR LF, codes 13 and 10, or the end; none stands after a CR LF at the end.
unfoldable pub lines_of : List ℕ → List (List ℕ)
lines_of [] = []
lines_of (b ∷ []) = (b ∷ []) ∷ []
lines_of (b ∷ c ∷ text) =
    cond (eqb b 13 && eqb c 10) ([] ∷ lines_of text) (elim (lines_of (c ∷ text)) [ [] ↦ (b ∷ []) ∷ [] | line ∷ lines ↦ (b ∷ line) ∷ lines ])

-- The most columns of a line.
abbrev pub max_columns : ℕ
max_columns = 7

-- The values before and those of so many fields more, each after a comma, code 44, with nothing after them; none where it is not so.
unfoldable pub fields_in : ℕ → List ℕ → List ℕ → Option (List ℕ)
fields_in zero before [] = Some before
fields_in zero before (b ∷ text) = None
fields_in (suc k) before [] = None
fields_in (suc k) before (b ∷ text) =
    cond (eqb b 44) (elim (field_of text) [ Some field ↦ fields_in k (before ++ (field.value ∷ [])) (drop field.length text) | None ↦ None ]) None

-- The values of a line of so many fields with single commas: of the line with one more comma before it.
abbrev pub row_of : ℕ → List ℕ → Option (List ℕ)
row_of columns line = fields_in columns [] (44 ∷ line)

-- The answer to a line of these values that takes so many bytes with its end, and to one that is not so many fields.
abbrev pub line_with : Option (List ℕ) → ℕ → Result Line Refusal
line_with (Some values) n = Ok (record { values = padded max_columns 0 values; length = n })
line_with None n = Err Refusal.MalformedLine

-- The answer to reading the first line of a text as so many fields, of which there are at most max_columns.
unfoldable pub line_of : ℕ → List ℕ → Result Line Refusal
line_of columns text = line_with (cond (leb columns max_columns) (row_of columns (first_line text)) None) (line_length text)

-- Whether a line is this text.
abbrev pub is_line : List ℕ → List ℕ → Bool
is_line text line = eqb (length line) (length text) && same_up_to (length text) line text

-- What is made of the lines under the first, where that is this header.
abbrev pub under : {A : Type 0} → List ℕ → List (List ℕ) → (List (List ℕ) → A) → A → A
under header [] answer otherwise = otherwise
under header (line ∷ lines) answer otherwise = cond (is_line header line) (answer lines) otherwise

-- Whether the first line of a text is empty, as it is at the end of the text, and how many bytes its end takes.
abbrev pub end_of : List ℕ → Option ℕ
end_of text = cond (eqb (length (first_line text)) 0) (Some (line_length text)) None

-- Whether a text starts with these bytes.
abbrev pub starts_with : List ℕ → List ℕ → Bool
starts_with prefix text = leb (length prefix) (length text) && same_up_to (length prefix) text prefix

-- Whether a text starts with these bytes and the line ends behind them, and how many bytes they take with its end.
unfoldable pub end_behind : List ℕ → List ℕ → Option ℕ
end_behind prefix text =
    cond (starts_with prefix text) (elim (end_of (drop (length prefix) text)) [ Some n ↦ Some (length prefix + n) | None ↦ None ]) None
