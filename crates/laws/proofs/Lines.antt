-- The first line of a text, what stands behind it, and a place inside it. Assumes nothing.
use Prim.Native.Nat.{ℕ, zero, suc, ◌-◌, ◌≤◌, ◌<◌}
use mathlib.Core.Bool.{true, false}
use mathlib.Core.List.{List, [], ◌∷◌}
use mathlib.Core.Path.{◌≡◌, refl, sym, ap, ◌∙◌}
use mathlib.Core.Logic.{◌⊎◌, inl, inr}
use native.Mathlib.Omega.{arith}
use lib.ListN.{length, take, drop}
use lib.Dec.{eqb}
use borrow.Author.Tests.{ne_eqb}
pub use Rattle.laws.specs.Lines.{is_break, line_length}
unfoldable pub use Rattle.laws.specs.Lines.{first_line, after_line}
use Rattle.laws.proofs.Tests.{by_test}

-- ---- a byte that no break starts at belongs to the line
pub no_break : (b c : ℕ) → (b ≡ 13 → ⊥) ⊎ (c ≡ 10 → ⊥) → is_break b c ≡ false
no_break b c (inl d) = rw (ne_eqb b 13 d)
no_break b c (inr d) = rw (ne_eqb c 10 d) (by_test (eqb b 13) (λ t. rw t) (λ t. rw t))

pub first_cons : (b c : ℕ) (text : List ℕ) → is_break b c ≡ false → first_line (b ∷ c ∷ text) ≡ b ∷ first_line (c ∷ text)
unfolding first_line
first_cons b c text e = rw e

pub after-cons : (b c : ℕ) (text : List ℕ) → is_break b c ≡ false → after_line (b ∷ c ∷ text) ≡ after_line (c ∷ text)
unfolding after_line
after-cons b c text e = rw e

pub first_break : (b c : ℕ) (text : List ℕ) → is_break b c ≡ true → first_line (b ∷ c ∷ text) ≡ []
unfolding first_line
first_break b c text e = rw e

pub after_break : (b c : ℕ) (text : List ℕ) → is_break b c ≡ true → after_line (b ∷ c ∷ text) ≡ text
unfolding after_line
after_break b c text e = rw e

-- ---- how much of a text its first line takes
pub after-within : (text : List ℕ) → length (after_line text) ≤ length text
unfolding after_line
after-within [] = omega arith
after-within (b ∷ []) = omega arith
after-within (b ∷ c ∷ text) =
    by_test (is_break b c) (λ t. simp t (omega arith)) (λ t. simp t (omega (arith, after-within (c ∷ text))))

pub after_less : (b : ℕ) (text : List ℕ) → length (after_line (b ∷ text)) ≤ length text
unfolding after_line
after_less b [] = omega arith
after_less b (c ∷ text) = by_test (is_break b c) (λ t. simp t (omega arith)) (λ t. simp t (after-within (c ∷ text)))

pub line_within : (text : List ℕ) → line_length text ≤ length text
line_within text = omega arith

pub line_some : (b : ℕ) (text : List ℕ) → 0 < line_length (b ∷ text)
line_some b text = omega (arith, after_less b text)

-- what stands behind the first line is the rest of the text
pub after-drop : (text : List ℕ) → drop (line_length text) text ≡ after_line text
unfolding after_line
after-drop [] = refl
after-drop (b ∷ []) = refl
after-drop (b ∷ c ∷ text) =
    by_test (is_break b c)
    (λ t. let n : suc (suc (length text)) - length text ≡ 2 = omega arith in rw (t, n))
    (λ t.
    let n : suc (suc (length text)) - length (after_line (c ∷ text)) ≡ suc (line_length (c ∷ text)) = omega (arith, after-within (c ∷ text)) in
    rw (t, n) (after-drop (c ∷ text)))

-- ---- a place inside the first line
pub record Inside (n : ℕ) (text : List ℕ) : Type 0 where
  pub first : first_line (drop n text) ≡ drop n (first_line text)
  pub after : after_line (drop n text) ≡ after_line text

pub inside : (n : ℕ) (text : List ℕ) → n ≤ length (first_line text) → Inside n text
inside zero text h = record { first = refl; after = refl }
inside (suc n) [] h = unfold first_line after_line in record { first = refl; after = refl }
inside (suc zero) (b ∷ []) h = unfold first_line after_line in record { first = refl; after = refl }
inside (suc (suc n)) (b ∷ []) h = unfold first_line after_line in record { first = refl; after = refl }
inside (suc n) (b ∷ c ∷ text) h =
    by_test (is_break b c)
    (λ t. absurd (let z : first_line (b ∷ c ∷ text) ≡ [] = first_break b c text t in omega (arith, ap length z)))
    (λ t.
    let e : first_line (b ∷ c ∷ text) ≡ b ∷ first_line (c ∷ text) = first_cons b c text t in
    let r = inside n (c ∷ text) (omega (arith, ap length e)) in
    record { first = r.first ∙ ap (drop (suc n)) (sym e); after = r.after ∙ sym (after-cons b c text t) })

-- the first line is the text up to its length
pub first_take : (text : List ℕ) → first_line text ≡ take (length (first_line text)) text
unfolding first_line
first_take [] = refl
first_take (b ∷ []) = refl
first_take (b ∷ c ∷ text) = by_test (is_break b c) (λ t. rw t) (λ t. rw t (ap (λ (l : List ℕ). b ∷ l) (first_take (c ∷ text))))
