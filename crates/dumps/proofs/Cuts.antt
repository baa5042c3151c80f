-- A text cut where a byte stands that its parts lack: the lines of a text, the words of a line. Assumes nothing.
--   Whole   no line has an LF
use Rattle.std.specs.Prelude.{Some}
use Prim.Native.Nat.{ℕ, zero, suc}
use mathlib.Core.Path.{◌≡◌, refl}
use mathlib.Core.Bool.{true}
use mathlib.Core.List.{List, [], ◌∷◌, ◌++◌}
use Rattle.laws.specs.Words.{tabulate}
use Rattle.decimal.proofs.Absence.{lacks, lacks_first, lacks_rest}
use Rattle.dumps.specs.Dumps.{lines_text}
use Rattle.dumps.specs.Readers.{lines_in, words_of}

-- ---- words
pub word_cut : (word line : List ℕ) → lacks 32 word ≡ true → words_of (word ++ 32 ∷ line) ≡ word ∷ words_of line
unfolding words_of
word_cut [] line h = refl
word_cut (b ∷ word) line h = rw (lacks_first 32 b word h, word_cut word line (lacks_rest 32 b word h))

-- ---- lines
line_cut : (line text : List ℕ) (lines : List (List ℕ)) → lacks 10 line ≡ true → lines_in text ≡ Some lines → lines_in (line ++ 10 ∷ text) ≡ Some (line ∷ lines)
unfolding lines_in
line_cut [] text lines h e = rw e
line_cut (b ∷ line) text lines h e = rw (line_cut line text lines (lacks_rest 10 b line h) e, lacks_first 10 b line h)

abbrev pub Whole : List (List ℕ) → Type 0
Whole [] = Unit {0}
Whole (line ∷ lines) = (lacks 10 line ≡ true) × Whole lines

pub whole_append : (a b : List (List ℕ)) → Whole a → Whole b → Whole (a ++ b)
whole_append [] b h k = k
whole_append (line ∷ a) b h k = (h.0, whole_append a b h.1 k)

pub whole_tabulate : (f : ℕ → List ℕ) → ((i : ℕ) → lacks 10 (f i) ≡ true) → (i n : ℕ) → Whole (tabulate i n f)
unfolding tabulate
whole_tabulate f h i zero = tt
whole_tabulate f h i (suc n) = (h i, whole_tabulate f h (suc i) n)

-- the lines of a text are those that it was made of
pub lines_back : (lines : List (List ℕ)) → Whole lines → lines_in (lines_text lines) ≡ Some lines
unfolding lines_text
lines_back [] h = unfold lines_in in refl
lines_back (line ∷ lines) h = line_cut line (lines_text lines) lines h.0 (lines_back lines h.1)
