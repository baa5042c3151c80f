-- A reader of value change dumps of IEEE 1364 of one core, one command or change to a line: the spans in which wires are 1. It is written from the
-- format, knows nothing of who wrote the dump, and answers none where a text is no dump. Assumes nothing.
--   lines_in    the lines of a text
--   wires_in    the wires that the definitions declare, and the lines after them
--   seen_line   what one line more tells
--   rows_in     the rows of a dump: chain, job, from and to of each span in which a wire is 1, in order of their ends
use Rattle.std.specs.Prelude.{Option, None, Some, ℕ, Bool, true, false, cond, not, ◌&&◌, ◌||◌, List, [], ◌∷◌, ◌++◌, map, leb, ltb, eqb, length, get_or, drop}
use Rattle.laws.specs.Words.{last_of, ascii}
use Rattle.decimal.specs.{Fields.field_of}

-- What is made of an answer, where there is one.
abbrev pub on_some : {A B : Type 0} → Option A → (A → Option B) → Option B
on_some None f = None
on_some (Some x) f = f x

-- ---- texts
-- A byte in front of the first line, where there is one.
abbrev pub on_first : ℕ → List (List ℕ) → Option (List (List ℕ))
on_first b [] = None
on_first b (line ∷ lines) = Some ((b ∷ line) ∷ lines)

-- The lines of a text, each of which LF ends, code 10.
unfoldable pub lines_in : List ℕ → Option (List (List ℕ))
lines_in [] = Some []
lines_in (b ∷ text) = on_some (lines_in text) (λ lines. cond (eqb b 10) (Some ([] ∷ lines)) (on_first b lines))

-- A byte in front of the first word.
abbrev pub onto_word : ℕ → List (List ℕ) → List (List ℕ)
onto_word b [] = (b ∷ []) ∷ []
onto_word b (word ∷ words) = (b ∷ word) ∷ words

-- The words of a line, with a space between two, code 32.
unfoldable pub words_of : List ℕ → List (List ℕ)
words_of [] = [] ∷ []
words_of (b ∷ line) = let words = words_of line in cond (eqb b 32) ([] ∷ words) (onto_word b words)

abbrev pub word_at : List ℕ → ℕ → List ℕ
word_at line n = get_or (words_of line) n []

-- Whether two texts are the same.
unfoldable pub same : List ℕ → List ℕ → Bool
same [] [] = true
same [] (b ∷ y) = false
same (a ∷ x) [] = false
same (a ∷ x) (b ∷ y) = eqb a b && same x y

-- The number that is the whole of a text.
unfoldable pub number_in : List ℕ → Option ℕ
number_in text = elim (field_of text) [ Some field ↦ cond (eqb field.length (length text)) (Some field.value) None | None ↦ None ]

-- ---- the definitions
-- What is known of a wire's value: nothing, that it is 0, or since when it is 1.
pub data Level : Type 0 where
  unknown : Level
  low : Level
  high : ℕ → Level

-- Whether it is 1.
abbrev pub is_one : Level → Bool
is_one unknown = false
is_one low = false
is_one (high t) = true

-- A wire: what stands for it, the chain and job of its name, its value.
pub record Wire : Type 0 where
  pub identifier : List ℕ
  pub chain : ℕ
  pub job : ℕ
  pub level : Level

-- The chain and job of a name: `c`, code 99, and a number, `j`, code 106, and a number.
abbrev pub job_after : ℕ → List ℕ → Option (ℕ × ℕ)
job_after chain [] = None
job_after chain (b ∷ text) = cond (eqb b 106) (on_some (number_in text) (λ number. Some (chain, number))) None

unfoldable pub job_named : List ℕ → Option (ℕ × ℕ)
job_named [] = None
job_named (b ∷ text) =
    cond (eqb b 99) (elim (field_of text) [ Some field ↦ job_after field.value (drop field.length text) | None ↦ None ]) None

-- Whether characters are printable and no space, codes 33 to 126.
unfoldable pub printable : List ℕ → Bool
printable [] = true
printable (b ∷ text) = leb 33 b && leb b 126 && printable text

-- An identifier is one such character or more.
abbrev pub is_identifier : List ℕ → Bool
is_identifier text = ltb 0 (length text) && printable text

-- The wire of one bit that a line declares: `$var wire 1`, its identifier, its name, `$end`.
unfoldable pub wire_in : List ℕ → Option Wire
wire_in line =
    cond
    (eqb (length (words_of line)) 6
    && same (word_at line 1) (ascii "wire")
    && same (word_at line 2) (ascii "1")
    && is_identifier (word_at line 3)
    && same (word_at line 5) (ascii "$end"))
    (on_some (job_named (word_at line 4)) (λ named. Some (record { identifier = word_at line 3; chain = named.0; job = named.1; level = unknown })))
    None

-- Whether a line is a command: its first byte is `$`, code 36, and its last word `$end`.
unfoldable pub is_command : List ℕ → Bool
is_command line = eqb (get_or line 0 0) 36 && same (last_of [] (words_of line)) (ascii "$end")

-- The wires that the definitions declare, in order, and the lines after the definitions, which `$enddefinitions` ends.
unfoldable pub wires_in : List (List ℕ) → Option (List Wire × List (List ℕ))
wires_in [] = None
wires_in (line ∷ lines) =
    let later = wires_in lines in
    cond (same line (ascii "$enddefinitions $end")) (Some ([], lines))
    (cond (same (word_at line 0) (ascii "$var")) (on_some (wire_in line) (λ wire. on_some later (λ found. Some (wire ∷ found.0, found.1))))
    (cond (is_command line) later None))

-- ---- the values
-- The last time, the wires, and the rows of the spans that have ended.
pub record Seen : Type 0 where
  pub time : Option ℕ
  pub wires : List Wire
  pub rows : List ℕ

-- Whether a time is later than the last.
abbrev pub is_later : Option ℕ → ℕ → Bool
is_later None t = true
is_later (Some last) t = ltb last t

-- A further time, which has to be later than the last.
abbrev pub timed : ℕ → Seen → Option Seen
timed t s = cond (is_later s.time t) (Some (record { time = Some t; wires = s.wires; rows = s.rows })) None

-- The first wire that an identifier stands for.
unfoldable pub wire_of : List Wire → List ℕ → Option Wire
wire_of [] identifier = None
wire_of (wire ∷ wires) identifier = let others = wire_of wires identifier in cond (same wire.identifier identifier) (Some wire) others

-- The wires with this value for those that an identifier stands for.
unfoldable pub with_level : List ℕ → Level → List Wire → List Wire
with_level identifier level wires =
    map (λ (w : Wire). record { identifier = w.identifier; chain = w.chain; job = w.job; level = cond (same w.identifier identifier) level w.level }) wires

-- What is seen after a wire has taken a value, with the row of the span that has ended so, where one has.
abbrev pub changed : Wire → Level → List ℕ → Seen → Seen
changed w level more s = record { time = s.time; wires = with_level w.identifier level s.wires; rows = s.rows ++ more }

-- Whether no wire is 1.
unfoldable pub none_high : List Wire → Bool
none_high [] = true
none_high (w ∷ wires) = not (is_one w.level) && none_high wires

-- A wire becomes 1 at a time: a core runs one job at a time, so that all others fall first.
abbrev pub risen : Wire → ℕ → Seen → Option Seen
risen w now s = cond (none_high s.wires) (Some (changed w (high now) [] s)) None

-- A wire becomes 0 at a time, which is no change where it is 0.
abbrev pub fallen : Wire → ℕ → Seen → Option Seen
fallen w now s =
    elim w.level [
      | unknown ↦ Some (changed w low [] s)
      | low ↦ None
      | high t ↦ Some (changed w low (w.chain ∷ w.job ∷ t ∷ now ∷ []) s)
    ]

-- A change of the wire that an identifier stands for, at the last time.
abbrev pub on_wire : (Wire → ℕ → Seen → Option Seen) → List ℕ → Seen → Option Seen
on_wire change identifier s = on_some (wire_of s.wires identifier) (λ w. on_some s.time (λ now. change w now s))

-- One line more, whose first byte decides: `#`, code 35, and a time; `1` or `0`, codes 49 and 48, and an identifier; around the first values, `$dumpvars` and `$end`.
unfoldable pub seen_line : List ℕ → Seen → Option Seen
seen_line [] s = None
seen_line (b ∷ rest) s =
    cond (eqb b 35) (on_some (number_in rest) (λ t. timed t s))
    (cond (eqb b 49) (on_wire risen rest s)
    (cond (eqb b 48) (on_wire fallen rest s)
    (cond (same (b ∷ rest) (ascii "$dumpvars") || same (b ∷ rest) (ascii "$end")) (Some s) None)))

unfoldable pub seen_lines : List (List ℕ) → Seen → Option Seen
seen_lines [] s = Some s
seen_lines (line ∷ lines) s = on_some (seen_line line s) (λ after. seen_lines lines after)

-- Whether all wires are 0.
unfoldable pub all_low : List Wire → Bool
all_low [] = true
all_low (w ∷ wires) = elim w.level [ unknown ↦ false | low ↦ all_low wires | high t ↦ false ]

-- The rows of a dump, at whose end all wires are 0.
unfoldable pub rows_in : List ℕ → Option (List ℕ)
rows_in text =
    on_some (lines_in text)
    (λ lines. on_some (wires_in lines)
    (λ found. on_some (seen_lines found.1 (record { time = None; wires = found.0; rows = [] }))
    (λ end. cond (all_low end.wires) (Some end.rows) None)))

-- Whether a row of this chain and job holds this time.
unfoldable pub held : List ℕ → ℕ → ℕ → ℕ → Bool
held [] chain number t = false
held (c ∷ []) chain number t = false
held (c ∷ k ∷ []) chain number t = false
held (c ∷ k ∷ from ∷ []) chain number t = false
held (c ∷ k ∷ from ∷ to ∷ more) chain number t =
    let others = held more chain number t in
    (eqb c chain && eqb k number && leb from t && ltb t to) || others

-- Whether a dump shows the wire of a chain and job as 1 at a time.
abbrev pub is_high : List ℕ → ℕ → ℕ → ℕ → Bool
is_high text chain number t = elim (rows_in text) [ None ↦ false | Some rows ↦ held rows chain number t ]
