-- The lines of a text are its first line and those behind it; where a line ends. Assumes nothing.
use Rattle.std.specs.Prelude.{Some, None}
use Prim.Native.Nat.{ℕ, ◌≤◌, ◌<◌}
use mathlib.Core.Bool.{true}
use mathlib.Core.List.{List, [], ◌∷◌}
use mathlib.Core.Path.{◌≡◌, refl, ap, ◌∙◌}
use mathlib.Core.Logic.{◌≢◌}
use native.Mathlib.Omega.{arith}
use lib.ListN.{length}
use lib.Dec.{eqb}
use borrow.Author.Tests.{eq-eqb, ne_eqb, eqb-true}
use Rattle.laws.proofs.Tests.{by_test, and_left, and_right}
use Rattle.laws.proofs.Lines.{is_break, first_line, after_line, first_cons, first_break, after_break, line_length}
use Rattle.table.specs.Lines.{lines_of, end_of}

pub lines_cons : (b : ℕ) (text : List ℕ) → lines_of (b ∷ text) ≡ first_line (b ∷ text) ∷ lines_of (after_line (b ∷ text))
unfolding lines_of first_line after_line
lines_cons b [] = refl
lines_cons b (c ∷ text) = by_test (is_break b c) (λ t. rw t) (λ t. rw (t, lines_cons c text))

-- ---- where the line ends
pub end_empty : (text : List ℕ) → first_line text ≡ [] → end_of text ≡ Some (line_length text)
end_empty text e = rw (eq-eqb (length (first_line text)) 0 (ap length e))

pub end_elsewhere : (text : List ℕ) → 0 < length (first_line text) → end_of text ≡ None
end_elsewhere text h = rw (ne_eqb (length (first_line text)) 0 (λ z. omega arith))

pub end-within : (text : List ℕ) (n : ℕ) → end_of text ≡ Some n → n ≤ length text
end-within text n e =
    by_test (eqb (length (first_line text)) 0)
    (λ t. let z : line_length text ≡ n = cc (rw t at e) in omega arith)
    (λ t. let z : ◌≡◌ {A = ℕ} 0 1 = cc (rw t at e) in absurd (omega arith))

-- ---- the end of a line byte by byte
pub end_none : (text : List ℕ) → length text ≡ 0 → end_of text ≡ Some 0
unfolding first_line after_line
end_none [] e = end_empty [] refl
end_none (b ∷ text) e = absurd (omega arith)

pub end_break : (text rest : List ℕ) → text ≡ 13 ∷ 10 ∷ rest → end_of text ≡ Some 2
end_break text rest e =
    let t : is_break 13 10 ≡ true = refl in
    rw e (end_empty (13 ∷ 10 ∷ rest) (first_break 13 10 rest t) ∙ ap Some (omega (arith, ap length (after_break 13 10 rest t))))

pub end_other : (text : List ℕ) → (length text ≡ 0 → ⊥) → ((rest : List ℕ) → text ≢ 13 ∷ 10 ∷ rest) → end_of text ≡ None
unfolding first_line
end_other [] h n = absurd (h refl)
end_other (b ∷ []) h n = end_elsewhere (b ∷ []) (omega arith)
end_other (b ∷ c ∷ text) h n =
    by_test (is_break b c)
    (λ t.
    let p : b ≡ 13 = eqb-true b 13 (and_left (eqb b 13) (eqb c 10) t) in
    let q : c ≡ 10 = eqb-true c 10 (and_right (eqb b 13) (eqb c 10) t) in
    absurd (n text cc))
    (λ t. end_elsewhere (b ∷ c ∷ text) (omega (arith, ap length (first_cons b c text t))))
