-- The fields of a line are those of its columns, and the field of a column stands in the first line of what is left: the end of the line holds no digit and no comma.
-- Assumes nothing.
use Rattle.std.specs.Prelude.{Option, None, Some}
use Prim.Native.Nat.{ℕ, suc, ◌+◌, ◌-◌, ◌≤◌}
use mathlib.Core.Bool.{true, cond}
use mathlib.Core.List.{List, [], ◌∷◌, ◌++◌}
use mathlib.Core.Path.{◌≡◌, refl, sym, ap, ◌∙◌}
use native.Mathlib.Omega.{arith}
use native.Mathlib.Numerals.{add-one}
use lib.ListN.{length, take, drop, get_or, take-append-drop}
use lib.Seq.{drop-length}
use lib.Dec.{eqb}
use borrow.Author.Tests.{eq-eqb, ne_eqb, eqb-true}
use Rattle.laws.proofs.Tests.{by_test, and_left}
use Rattle.laws.proofs.Lists.{rest_is}
use Rattle.laws.proofs.Lines.{is_break, first_line, inside, first_take}
use Rattle.decimal.specs.declared.field.Field.{Field}
use Rattle.decimal.specs.Fields.{digit_run, number, field_of}
use Rattle.decimal.proofs.Fields.{digit_low, field_append, field_within}
use Rattle.table.specs.Lines.{fields_in}

-- ---- what the contract of `read_column` writes out
-- a field with one byte more in front
abbrev pub with_comma : Option Field → Option Field
with_comma f = elim f [ Some field ↦ number field.value (field.length + 1) | None ↦ None ]

-- a comma and the field after it
abbrev after_comma : List ℕ → Option Field
after_comma text = cond (eqb (get_or text 0 0) 44) (with_comma (field_of (drop 1 text))) None

-- the field of a column at the start of what is left of the line; the first has no comma before it
abbrev pub column_of : ℕ → List ℕ → Option Field
column_of k text = cond (eqb k 0) (field_of text) (after_comma text)

-- what follows a field; where there is no number there is no row
abbrev pub then_field : Option Field → (ℕ → ℕ → Option (List ℕ)) → Option (List ℕ)
then_field f rest = elim f [ Some field ↦ rest field.value field.length | None ↦ None ]

-- ---- what is left of the line, with a comma before the first column, is read column by column
abbrev pub ahead : ℕ → List ℕ → List ℕ
ahead k line = cond (eqb k 0) (44 ∷ line) line

past_comma : (f : Option Field) (b : ℕ) (line : List ℕ) (rest : ℕ → List ℕ → Option (List ℕ)) → then_field f (λ v n. rest v (drop n line)) ≡ then_field (with_comma f) (λ v n. rest v (drop n (b ∷ line)))
past_comma (Some f) b line rest = ap (λ (i : ℕ). rest f.value (drop i (b ∷ line))) (sym (add-one f.length))
past_comma None b line rest = refl

fields_comma : (k : ℕ) (before line : List ℕ) → fields_in (suc k) before line ≡ then_field (after_comma line) (λ v n. fields_in k (before ++ (v ∷ [])) (drop n line))
unfolding fields_in
fields_comma k before [] = refl
fields_comma k before (b ∷ line) =
    by_test (eqb b 44) (λ t. rw t (past_comma (field_of line) b line (λ v rest. fields_in k (before ++ (v ∷ [])) rest))) (λ t. rw t)

pub fields_ahead : (k : ℕ) (before : List ℕ) (i : ℕ) (line : List ℕ) → fields_in (suc k) before (ahead i line) ≡ then_field (column_of i line) (λ v n. fields_in k (before ++ (v ∷ [])) (drop n line))
fields_ahead k before i line = by_test (eqb i 0) (λ t. rw t (unfold fields_in in refl)) (λ t. rw t (fields_comma k before line))

-- ---- a text whose first line is empty begins with a CR, if with anything
break_code : (b c : ℕ) → is_break b c ≡ true → b ≡ 13
break_code b c e = eqb-true b 13 (and_left (eqb b 13) (eqb c 10) e)

run_none : (text : List ℕ) → first_line text ≡ [] → digit_run text ≡ []
unfolding first_line digit_run
run_none [] e = refl
run_none (b ∷ []) e = absurd (omega (arith, ap length e))
run_none (b ∷ c ∷ text) e =
    by_test (is_break b c)
    (λ t. rw (break_code b c t, digit_low 13 (omega arith)))
    (λ t. absurd (omega (arith, ap length (rw t at e))))

comma_end : (text : List ℕ) → first_line text ≡ [] → after_comma text ≡ None
unfolding first_line
comma_end [] e = refl
comma_end (b ∷ []) e = absurd (omega (arith, ap length e))
comma_end (b ∷ c ∷ text) e =
    by_test (is_break b c)
    (λ t. rw (ne_eqb b 44 (λ z. omega (arith, break_code b c t))))
    (λ t. absurd (omega (arith, ap length (rw t at e))))

-- ---- what is behind the line does not matter
comma_append : (line rest : List ℕ) → first_line rest ≡ [] → after_comma (line ++ rest) ≡ after_comma line
comma_append [] rest e = comma_end rest e
comma_append (b ∷ line) rest e = rw (field_append line rest (run_none rest e))

column-append : (k : ℕ) (line rest : List ℕ) → first_line rest ≡ [] → column_of k (line ++ rest) ≡ column_of k line
column-append k line rest e = rw (field_append line rest (run_none rest e), comma_append line rest e)

pub column_line : (k : ℕ) (text : List ℕ) → column_of k (first_line text) ≡ column_of k text
column_line k text =
    let n = length (first_line text) in
    let empty : first_line (drop n text) ≡ [] = (inside n text (omega arith)).first ∙ drop-length (first_line text) in
    let whole : first_line text ++ drop n text ≡ text = ap (λ (l : List ℕ). l ++ drop n text) (first_take text) ∙ take-append-drop n text in
    sym (column-append k (first_line text) (drop n text) empty) ∙ ap (column_of k) whole

-- ---- a column takes no more bytes than there are
comma_within : (g : Option Field) (text : List ℕ) (f : Field) → field_of text ≡ g → with_comma g ≡ Some f → f.length ≤ suc (length text)
comma_within (Some g) text f p q = let z : g.length + 1 ≡ f.length = cc in omega (arith, field_within text g p)
comma_within None text f p q = let z : ◌≡◌ {A = ℕ} 0 1 = cc in absurd (omega arith)

after-within : (text : List ℕ) (f : Field) → after_comma text ≡ Some f → f.length ≤ length text
after-within [] f e = let z : ◌≡◌ {A = ℕ} 0 1 = cc in absurd (omega arith)
after-within (b ∷ text) f e =
    by_test (eqb b 44)
    (λ t. comma_within (field_of text) text f refl (simp t at e))
    (λ t. let z : ◌≡◌ {A = ℕ} 0 1 = cc (simp t at e) in absurd (omega arith))

pub column-within : (k : ℕ) (text : List ℕ) (f : Field) → column_of k text ≡ Some f → f.length ≤ length text
column-within k text f e =
    by_test (eqb k 0) (λ t. field_within text f (simp t at e)) (λ t. after-within text f (simp t at e))

-- ---- as the code reads a column
pub comma_none : (text : List ℕ) → length text ≡ 0 → after_comma text ≡ None
comma_none [] e = refl
comma_none (b ∷ text) e = absurd (omega arith)

pub comma_read : (text : List ℕ) (f : Option Field) → get_or text 0 0 ≡ 44 → f ≡ field_of (take (length text - 1) (drop 1 text)) → with_comma f ≡ after_comma text
comma_read text f h e = rw (eq-eqb (get_or text 0 0) 44 h) (ap with_comma (rw (rest_is 1 text) at e))
