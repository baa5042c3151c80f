-- The first line of a text that is cut off: behind the line, or in it. Assumes nothing.
--   Front   a text cut off behind its first line has the same first line
use Prim.Native.Nat.{ℕ, zero, suc, ◌+◌, ◌-◌, ◌≤◌, ◌<◌}
use mathlib.Core.Bool.{true, false}
use mathlib.Core.List.{List, [], ◌∷◌}
use mathlib.Core.Path.{◌≡◌, refl, sym, ap, ap₂, ◌∙◌}
use native.Mathlib.Omega.{arith}
use lib.ListN.{length, take}
use Rattle.laws.proofs.Tests.{by_test}
use Rattle.laws.proofs.Lines.{is_break, first_line, after_line, line_length, first_cons, after-cons, first_break, after_break, after-within, line_some}

pub record Front (m : ℕ) (text : List ℕ) : Type 0 where
  pub first : first_line (take m text) ≡ first_line text
  pub after : after_line (take m text) ≡ take (m - line_length text) (after_line text)

-- a line of two bytes, and one of which the first byte is not its end
break_length : (b c : ℕ) (text : List ℕ) → is_break b c ≡ true → line_length (b ∷ c ∷ text) ≡ 2
break_length b c text t = omega (arith, ap length (after_break b c text t))

cons-length : (b c : ℕ) (text : List ℕ) → is_break b c ≡ false → line_length (b ∷ c ∷ text) ≡ suc (line_length (c ∷ text))
cons-length b c text t = omega (arith, ap length (after-cons b c text t), after-within (c ∷ text))

none_left : (n : ℕ) → ◌≡◌ {A = List ℕ} [] (take n [])
none_left zero = refl
none_left (suc n) = refl

pub front : (m : ℕ) (text : List ℕ) → line_length text ≤ m → Front m text
unfolding after_line
front zero [] h = record { first = refl; after = none_left (0 - line_length []) }
front (suc m) [] h = record { first = refl; after = none_left (suc m - line_length []) }
front zero (b ∷ text) h = absurd (omega (arith, line_some b text))
front (suc zero) (b ∷ []) h = record { first = refl; after = none_left (1 - line_length (b ∷ [])) }
front (suc (suc m)) (b ∷ []) h = record { first = refl; after = none_left (suc (suc m) - line_length (b ∷ [])) }
front (suc zero) (b ∷ c ∷ text) h =
    by_test (is_break b c)
    (λ t. absurd (omega (arith, break_length b c text t)))
    (λ t. absurd (omega (arith, cons-length b c text t, line_some c text)))
front (suc (suc m)) (b ∷ c ∷ text) h =
    by_test (is_break b c)
    (λ t.
    let left : m ≡ suc (suc m) - line_length (b ∷ c ∷ text) = omega (arith, break_length b c text t) in
    record {
      first = first_break b c (take m text) t ∙ sym (first_break b c text t);
      after = after_break b c (take m text) t ∙ ap₂ take left (sym (after_break b c text t));
    })
    (λ t.
    let rest : Front (suc m) (c ∷ text) = front (suc m) (c ∷ text) (omega (arith, cons-length b c text t)) in
    let left : suc m - line_length (c ∷ text) ≡ suc (suc m) - line_length (b ∷ c ∷ text) = omega (arith, cons-length b c text t) in
    record {
      first = first_cons b c (take m text) t ∙ ap (λ (l : List ℕ). b ∷ l) rest.first ∙ sym (first_cons b c text t);
      after = after-cons b c (take m text) t ∙ rest.after ∙ ap₂ take left (sym (after-cons b c text t));
    })

pub cut : (m : ℕ) (text : List ℕ) → m < line_length text → first_line (take m text) ≡ take m text
unfolding first_line
cut zero [] h = refl
cut (suc m) [] h = refl
cut zero (b ∷ text) h = refl
cut (suc zero) (b ∷ []) h = refl
cut (suc (suc m)) (b ∷ []) h = refl
cut (suc zero) (b ∷ c ∷ text) h = refl
cut (suc (suc m)) (b ∷ c ∷ text) h =
    by_test (is_break b c)
    (λ t. absurd (omega (arith, break_length b c text t)))
    (λ t. first_cons b c (take m text) t ∙ ap (λ (l : List ℕ). b ∷ l) (cut (suc m) (c ∷ text) (omega (arith, cons-length b c text t))))

-- ---- a line's end takes at most two bytes
pub line_length_lem : (text : List ℕ) → line_length text ≤ length (first_line text) + 2
unfolding first_line
line_length_lem [] = omega arith
line_length_lem (b ∷ []) = omega arith
line_length_lem (b ∷ c ∷ text) =
    by_test (is_break b c)
    (λ t. omega (arith, break_length b c text t))
    (λ t. omega (arith, cons-length b c text t, ap length (first_cons b c text t), line_length_lem (c ∷ text)))
