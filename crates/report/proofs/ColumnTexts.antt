-- Columns one after another, and how many bytes they take. Assumes nothing.
use Prim.Native.Nat.{ℕ, suc, ◌+◌, ◌^◌, ◌≤◌, ◌<◌}
use mathlib.Core.List.{List, [], ◌∷◌, ◌++◌, map, append-nil}
use mathlib.Core.Path.{◌≡◌, refl, ap, ◌∙◌}
use mathlib.Core.Bool.{cond}
use native.Mathlib.Omega.{arith}
use native.Mathlib.Numerals.{add-one}
use lib.Dec.{eqb}
use lib.IntN.{ℤ, pos}
use lib.ListN.{length, take, drop, get_or}
use lib.Seq.{take-suc, length-take-le}
use borrow.Author.Tests.{eq-eqb, ne_eqb}
use Rattle.laws.proofs.Tests.{by_equal}
use Rattle.decimal.specs.Digits.{digit_count, decimal, signed}
use Rattle.texts.proofs.WordDigits.{word_digits}
use Rattle.texts.specs.Lines.{after_commas}
use Rattle.texts.proofs.Lines.{commas_append}

-- numbers as the columns of a line
abbrev pub columns_text : List ℕ → List ℕ
columns_text values = drop 1 (after_commas (map pos values))

-- a number as column k: with a comma before all but the first
abbrev pub column_text : ℕ → ℕ → List ℕ
column_text k value = cond (eqb k 0) (decimal value) (44 ∷ decimal value)

pub first_text : (k value : ℕ) → k ≡ 0 → column_text k value ≡ decimal value
first_text k value e = rw (eq-eqb k 0 e)

pub later_text : (k value : ℕ) → (k ≡ 0 → ⊥) → column_text k value ≡ 44 ∷ decimal value
later_text k value h = rw (ne_eqb k 0 h)

pub first_length : (k value : ℕ) → k ≡ 0 → length (column_text k value) ≡ digit_count value
first_length k value e = ap length (first_text k value e)

pub later-length : (k value : ℕ) → (k ≡ 0 → ⊥) → length (column_text k value) ≡ digit_count value + 1
later-length k value h = omega (arith, ap length (later_text k value h))

-- a number of 64 bits has at most 20 digits
pub column-within : (k value : ℕ) → value < 2 ^ 64 → length (column_text k value) ≤ 21
column-within k value h =
    by_equal k 0
    (λ e. omega (arith, first_length k value e, word_digits value h))
    (λ ne. omega (arith, later-length k value ne, word_digits value h))

map_snoc : (values : List ℕ) (value : ℕ) → map pos (values ++ (value ∷ [])) ≡ map pos values ++ (pos value ∷ [])
map_snoc [] value = refl
map_snoc (v ∷ values) value = ap (λ (l : List ℤ). pos v ∷ l) (map_snoc values value)

commas_snoc : (values : List ℕ) (value : ℕ) → after_commas (map pos (values ++ (value ∷ []))) ≡ after_commas (map pos values) ++ (44 ∷ decimal value)
unfolding after_commas signed
commas_snoc values value =
    rw (map_snoc values value)
    (commas_append (map pos values) (pos value ∷ []) ∙ ap (λ (l : List ℕ). after_commas (map pos values) ++ l) (append-nil (44 ∷ decimal value)))

columns_snoc : (values : List ℕ) (value : ℕ) → columns_text (values ++ (value ∷ [])) ≡ columns_text values ++ column_text (length values) value
unfolding after_commas signed
columns_snoc [] value = append-nil (decimal value)
columns_snoc (v ∷ values) value =
    rw (later_text (suc (length values)) value (λ e. omega arith)) (ap (drop 1) (commas_snoc (v ∷ values) value))

-- one column more
pub columns-next : (values : List ℕ) (k : ℕ) → k < length values → columns_text (take (k + 1) values) ≡ columns_text (take k values) ++ column_text k (get_or values k 0)
columns-next values k h =
    rw (add-one, take-suc values k 0 h)
    (columns_snoc (take k values) (get_or values k 0)
    ∙ ap (λ (i : ℕ). columns_text (take k values) ++ column_text i (get_or values k 0)) (length-take-le k values (omega arith)))
