-- Tests as facts: a case split on a test, and what two tests together say. The kit's borrow.Author.Tests has what one comparison says.
-- Assumes nothing.
use Prim.Native.Nat.{ℕ, suc, ◌+◌, ◌-◌, ◌≤◌, ◌<◌}
use mathlib.Core.Path.{◌≡◌, refl, sym, ◌∙◌}
use mathlib.Core.Bool.{Bool, true, false, cond, ◌&&◌, true≢false}
use native.Mathlib.Omega.{arith}
use mathlib.Core.Logic.{◌≢◌}
use lib.Dec.{leb, eqb}
use borrow.Author.Tests.{leb-true, leb-false, eq-eqb, ne_eqb, eqb-true, eqb-false}

-- a proof for each outcome of a test
pub by_test : {X : Type 0} (b : Bool) → (b ≡ true → X) → (b ≡ false → X) → X
by_test true f g = f refl
by_test false f g = g refl

-- a proof for each order of two numbers, for equal ones and others, and for the last number below a limit and the ones before it
pub by_order : {X : Type 0} (a b : ℕ) → (a ≤ b → X) → (b < a → X) → X
by_order a b f g = by_test (leb a b) (λ q. f (leb-true a b q)) (λ q. g (leb-false a b q))

pub by_equal : {X : Type 0} (a b : ℕ) → (a ≡ b → X) → (a ≢ b → X) → X
by_equal a b f g = by_test (eqb a b) (λ q. f (eqb-true a b q)) (λ q. g (eqb-false a b q))

pub by_last : {X : Type 0} (a n : ℕ) → a < suc n → (a ≡ n → X) → (a < n → X) → X
by_last a n l f g = by_equal a n f (λ ne. g (omega arith))

pub both_ways : {b : Bool} → b ≡ true → b ≡ false → ⊥
both_ways p q = true≢false (sym p ∙ q)

pub never_true : (b : Bool) → (b ≡ true → ⊥) → b ≡ false
never_true true h = absurd (h refl)
never_true false h = refl

pub and_left : (a b : Bool) → a && b ≡ true → a ≡ true
and_left true b e = refl
and_left false b e = e

pub and_right : (a b : Bool) → a && b ≡ true → b ≡ true
and_right true b e = e
and_right false b e = absurd (true≢false (sym e))

pub and_parts : {a b : Bool} → a && b ≡ true → (a ≡ true) × (b ≡ true)
and_parts {a} {b} e = (and_left a b e, and_right a b e)

pub and_both : (a b : Bool) → a ≡ true → b ≡ true → a && b ≡ true
and_both a b p q = rw (p, q) refl

-- two tests that pass together
pub same_test : (a b : Bool) → (a ≡ true → b ≡ true) → (b ≡ true → a ≡ true) → a ≡ b
same_test true b f g = sym (f refl)
same_test false true f g = g refl
same_test false false f g = refl

pub cond_le : (a b : Bool) (m : ℕ) → (a ≡ true → b ≡ true) → cond a m 0 ≤ cond b m 0
cond_le true b m h = rw (h refl) (omega arith)
cond_le false b m h = omega arith

pub cond_one : (b : Bool) → cond b 1 0 ≤ 1
cond_one true = omega arith
cond_one false = omega arith

-- "is one more than", asked without a sum that could wrap
pub pred_eqb : (a b : ℕ) → 0 < a → eqb (a - 1) b ≡ eqb a (b + 1)
pred_eqb a b h =
    by_test (eqb (a - 1) b)
    (λ t. t ∙ sym (eq-eqb a (b + 1) (omega (arith, eqb-true (a - 1) b t))))
    (λ f. f ∙ sym (ne_eqb a (b + 1) (λ e. eqb-false (a - 1) b f (omega arith))))
