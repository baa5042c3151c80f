-- Lines as a text, piece by piece: two lists of lines, a line for each place, a span, one span more, and the whole dump. Assumes nothing.
use Prim.Native.Nat.{ℕ, zero, suc, ◌+◌, ◌<◌}
use mathlib.Core.Path.{◌≡◌, refl, sym, ap, ◌∙◌}
use mathlib.Core.Bool.{true, false}
use mathlib.Core.Logic.{◌≢◌}
use mathlib.Core.List.{List, [], ◌∷◌, ◌++◌, append_assoc}
use native.Mathlib.Omega.{arith}
use native.Mathlib.Nat.{add-zero, zero-add}
use native.Mathlib.Numerals.{add-one}
use lib.Dec.{eqb}
use lib.ListN.{length, length-append}
use borrow.Author.Tests.{eq-eqb, ne_eqb}
use Rattle.laws.specs.Words.{tabulate, ascii}
use Rattle.laws.proofs.Pieces.{Made}
use Rattle.laws.proofs.Tabulate.{tabulate_ext}
use Rattle.decimal.specs.Digits.{decimal, digits_up_to}
use Rattle.jobs.specs.declared.job.Job.{Job}
use Rattle.machine.specs.declared.trace.Span.{Span}
use Rattle.dumps.specs.Dumps.{lines_text, name_of, declares, wire_line, header_lines, time_line, value_line, runs_first, start_lines, last_change, rise_after, span_lines, change_lines, dump_of}
use Rattle.dumps.specs.Identifiers.{identifier_of}
use Rattle.dumps.proofs.Entries.{span_at, spans_of}

-- a line as a text
abbrev pub line_text : List ℕ → List ℕ
line_text line = lines_text (line ∷ [])

pub line_length_lem : (line : List ℕ) → length (line_text line) ≡ length line + 1
unfolding lines_text
line_length_lem line = length-append line (10 ∷ [])

pub text_append : (a b : List (List ℕ)) → lines_text (a ++ b) ≡ lines_text a ++ lines_text b
unfolding lines_text
text_append [] b = refl
text_append (line ∷ a) b = ap (λ (l : List ℕ). line ++ 10 ∷ l) (text_append a b) ∙ sym (append_assoc line (10 ∷ lines_text a) (lines_text b))

-- ---- the declaration of a wire
pub name_length : (chain number : ℕ) → length (name_of chain number) ≡ length (decimal chain) + length (decimal number) + 2
name_length chain number =
    length-append (ascii "c" ++ decimal chain ++ ascii "j") (decimal number) ∙ omega (arith, length-append (ascii "c" ++ decimal chain) (ascii "j"))

module _ (u chain number : ℕ) where
  pub wire_text : line_text (declares u chain number) ≡ ascii "$var wire 1 " ++ identifier_of (suc u) ++ ascii " " ++ name_of chain number ++ ascii " $end\n"
  unfolding lines_text declares
  wire_text = append_assoc (ascii "$var wire 1 " ++ identifier_of (suc u) ++ ascii " " ++ name_of chain number) (ascii " $end") (10 ∷ [])

  pub wire_length : length (line_text (declares u chain number)) ≡ length (identifier_of (suc u)) + length (name_of chain number) + 19
  wire_length =
      let up_to_name = ascii "$var wire 1 " ++ identifier_of (suc u) ++ ascii " " in
      ap length wire_text
      ∙ omega (
        arith,
        length-append (up_to_name ++ name_of chain number) (ascii " $end\n"),
        length-append up_to_name (name_of chain number),
        length-append (ascii "$var wire 1 " ++ identifier_of (suc u)) (ascii " "),
      )

-- ---- a line for each place
text_next : (f : ℕ → List ℕ) (i n : ℕ) → lines_text (tabulate i (suc n) f) ≡ lines_text (tabulate i n f) ++ line_text (f (i + n))
unfolding lines_text tabulate
text_next f i zero = ap (λ (k : ℕ). line_text (f k)) (sym (add-zero i))
text_next f i (suc n) =
    let place : suc i + n ≡ i + suc n = omega arith in
    ap (λ (l : List ℕ). f i ++ 10 ∷ l) (text_next f (suc i) n ∙ ap (λ (k : ℕ). lines_text (tabulate (suc i) n f) ++ line_text (f k)) place)
    ∙ sym (append_assoc (f i) (10 ∷ lines_text (tabulate (suc i) n f)) (line_text (f (i + suc n))))

pub tabulate-made : (f : ℕ → List ℕ) (total : ℕ) → Made (λ n. lines_text (tabulate 0 n f)) (λ n. line_text (f n)) total
unfolding lines_text tabulate
tabulate-made f total =
    record { none = refl; next = λ n h. rw (add-one n) (text_next f 0 n ∙ ap (λ (k : ℕ). lines_text (tabulate 0 n f) ++ line_text (f k)) (zero-add n)) }

-- ---- a span: its beginning is none, a value, or a time and a value; then it ends
module _ (last : ℕ) (s : Span) where
  pub rise_none : s.from ≡ 0 → lines_text (rise_after last s) ≡ []
  unfolding lines_text
  rise_none e = rw (eq-eqb s.from 0 e)

  pub rise_on : s.from ≢ 0 → s.from ≡ last → lines_text (rise_after last s) ≡ line_text (value_line true s.at)
  rise_on ne e = rw (ne_eqb s.from 0 ne, eq-eqb s.from last e)

  pub rise_new : s.from ≢ 0 → s.from ≢ last → lines_text (rise_after last s) ≡ line_text (time_line s.from) ++ line_text (value_line true s.at)
  rise_new ne d = rw (ne_eqb s.from 0 ne, ne_eqb s.from last d) (text_append (time_line s.from ∷ []) (value_line true s.at ∷ []))

  pub span_text : lines_text (span_lines last s) ≡ (lines_text (rise_after last s) ++ line_text (time_line s.to)) ++ line_text (value_line false s.at)
  span_text =
      text_append (rise_after last s) (time_line s.to ∷ value_line false s.at ∷ [])
      ∙ ap (λ (l : List ℕ). lines_text (rise_after last s) ++ l) (text_append (time_line s.to ∷ []) (value_line false s.at ∷ []))
      ∙ sym (append_assoc (lines_text (rise_after last s)) (line_text (time_line s.to)) (line_text (value_line false s.at)))

  pub new-length : s.from ≢ 0 → s.from ≢ last
      → length (lines_text (rise_after last s)) ≡ length (line_text (time_line s.from)) + length (line_text (value_line true s.at))
  new-length ne d = ap length (rise_new ne d) ∙ length-append (line_text (time_line s.from)) (line_text (value_line true s.at))

  pub span_length : length (lines_text (span_lines last s)) ≡ length (lines_text (rise_after last s)) + length (line_text (time_line s.to)) + length (line_text (value_line false s.at))
  span_length =
      ap length span_text
      ∙ length-append (lines_text (rise_after last s) ++ line_text (time_line s.to)) (line_text (value_line false s.at))
      ∙ omega (arith, length-append (lines_text (rise_after last s)) (line_text (time_line s.to)))

pub changes_made : (js : List Job) (numbers : List ℕ) (total : ℕ)
    → Made (λ n. lines_text (change_lines (spans_of js numbers n))) (λ n. lines_text (span_lines (last_change (spans_of js numbers n)) (span_at js numbers n))) total
unfolding spans_of change_lines lines_text
changes_made js numbers total =
    record { none = refl; next = λ n h. rw (add-one n) (text_append (change_lines (spans_of js numbers n)) (span_lines (last_change (spans_of js numbers n)) (span_at js numbers n))) }

-- ---- the whole
abbrev pub top_text : List ℕ
top_text = ascii "$timescale 100 us $end\n$scope module core $end\n"

abbrev definitions_text : List ℕ
definitions_text = ascii "$upscope $end\n$enddefinitions $end\n"

abbrev values_text : List ℕ
values_text = ascii "#0\n$dumpvars\n"

abbrev pub middle_text : List ℕ
middle_text = definitions_text ++ values_text

abbrev pub end_text : List ℕ
end_text = ascii "$end\n"

regroup : (a b c d e f : List ℕ) → (a ++ b ++ c) ++ (d ++ e ++ f) ≡ a ++ b ++ (c ++ d) ++ e ++ f
regroup a b c d e f = simp append_assoc

module _ (js : List Job) (ss : List Span) (first n : ℕ) (count : n ≡ length js) (value : (u : ℕ) → u < n → runs_first ss u ≡ eqb first u) where
  abbrev wires : List (List ℕ)
  wires = tabulate 0 n (wire_line js)

  abbrev values : List (List ℕ)
  values = tabulate 0 n (λ u. value_line (eqb first u) u)

  header_text : lines_text (header_lines js) ≡ top_text ++ lines_text wires ++ definitions_text
  unfolding header_lines lines_text
  header_text =
      rw (← count)
      (text_append ((ascii "$timescale 100 us $end" ∷ ascii "$scope module core $end" ∷ []) ++ wires) (ascii "$upscope $end" ∷ ascii "$enddefinitions $end" ∷ []))

  start_text : lines_text (start_lines n ss) ≡ values_text ++ lines_text values ++ end_text
  unfolding start_lines lines_text decimal digits_up_to
  start_text =
      text_append ((time_line 0 ∷ ascii "$dumpvars" ∷ []) ++ tabulate 0 n (λ u. value_line (runs_first ss u) u)) (ascii "$end" ∷ [])
      ∙ ap (λ (l : List (List ℕ)). values_text ++ lines_text l ++ end_text)
      (tabulate_ext 0 n (λ u. value_line (runs_first ss u) u) (λ u. value_line (eqb first u) u) (λ k _ l. rw (value k (omega arith))))

  -- in the order in which it is written
  pub dump_text : dump_of js ss ≡ top_text ++ lines_text wires ++ middle_text ++ lines_text values ++ end_text ++ lines_text (change_lines ss)
  unfolding dump_of
  dump_text =
      let parts : lines_text (header_lines js ++ start_lines n ss) ≡ top_text ++ lines_text wires ++ middle_text ++ lines_text values ++ end_text =
      text_append (header_lines js) (start_lines n ss) ∙ rw (header_text, start_text) (regroup top_text (lines_text wires) definitions_text values_text (lines_text values) end_text) in
      ap (λ (m : ℕ). lines_text (header_lines js ++ start_lines m ss ++ change_lines ss)) (sym count)
      ∙ text_append (header_lines js ++ start_lines n ss) (change_lines ss)
      ∙ ap (λ (l : List ℕ). l ++ lines_text (change_lines ss)) parts
