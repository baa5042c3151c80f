-- How long a line of so many fields is: each has a comma before it, the first but for the one that is put there, and at most ten digits.
-- Assumes nothing.
use Rattle.std.specs.Prelude.{Option, None, Some}
use Prim.Native.Nat.{ℕ, zero, suc, ◌+◌, ◌*◌, ◌≤◌}
use mathlib.Core.Bool.{Bool, true, false, cond}
use mathlib.Core.List.{List, [], ◌∷◌, ◌++◌}
use mathlib.Core.Path.{◌≡◌, refl}
use native.Mathlib.Omega.{arith}
use lib.Dec.{eqb}
use lib.ListN.{length, drop, length-drop}
use Rattle.decimal.specs.declared.field.Field.{Field}
use Rattle.decimal.specs.Fields.{max_digits, field_of}
use Rattle.decimal.proofs.Fields.{field_within, field_few}
use Rattle.table.specs.Lines.{fields_in, row_of}

-- one field more, by whether it has its comma and by what stands there
one_more : (b : Bool) (f : Option Field) (k : ℕ) (before text values : List ℕ) → field_of text ≡ f
    → ((v n : ℕ) → fields_in k (before ++ (v ∷ [])) (drop n text) ≡ Some values → length (drop n text) ≤ (max_digits + 1) * k)
    → cond b (elim f [ Some g ↦ fields_in k (before ++ (g.value ∷ [])) (drop g.length text) | None ↦ None ]) None ≡ Some values
    → length text + 1 ≤ (max_digits + 1) * suc k
one_more true (Some f) k before text values e rest h =
    omega (arith, rest f.value f.length h, length-drop f.length text, field_within text f e, field_few text f e)
one_more true None k before text values e rest h = let z : ◌≡◌ {A = ℕ} 0 1 = cc in absurd (omega arith)
one_more false f k before text values e rest h = let z : ◌≡◌ {A = ℕ} 0 1 = cc in absurd (omega arith)

fields_short : (k : ℕ) (before text values : List ℕ) → fields_in k before text ≡ Some values → length text ≤ (max_digits + 1) * k
unfolding fields_in
fields_short zero before [] values h = omega arith
fields_short zero before (b ∷ text) values h = let z : ◌≡◌ {A = ℕ} 0 1 = cc in absurd (omega arith)
fields_short (suc k) before [] values h = omega arith
fields_short (suc k) before (b ∷ text) values h =
    omega (arith, one_more (eqb b 44) (field_of text) k before text values refl (λ v n. fields_short k (before ++ (v ∷ [])) (drop n text) values) h)

pub row_short : (columns : ℕ) (line values : List ℕ) → row_of columns line ≡ Some values → length line + 1 ≤ (max_digits + 1) * columns
row_short columns line values h = omega (arith, fields_short columns [] (44 ∷ line) values h)
