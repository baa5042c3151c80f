-- A test of each place: one place more, a place that fails, all places, two tests that agree, and the first place that fails. Nothing here depends on what the test is. Assumes nothing.
use Prim.Native.Nat.{ℕ, zero, suc, ◌+◌, ◌<◌}
use mathlib.Core.Path.{◌≡◌, refl, sym, ap, ◌∙◌}
use mathlib.Core.Bool.{Bool, true, false, ◌&&◌}
use native.Mathlib.Omega.{arith}
use native.Mathlib.Numerals.{add-one}
use Rattle.laws.specs.Words.{every_below}
use Rattle.laws.proofs.Tests.{by_test, by_last, both_ways, and_left, and_right, and_both}

pub every_none : (f : ℕ → Bool) → every_below 0 f ≡ true
unfolding every_below
every_none f = refl

pub every_next : (f : ℕ → Bool) (n : ℕ) → every_below n f ≡ true → f n ≡ true → every_below (n + 1) f ≡ true
unfolding every_below
every_next f n h e = rw add-one (and_both (every_below n f) (f n) h e)

pub every_at : (f : ℕ → Bool) (n i : ℕ) → i < n → every_below n f ≡ true → f i ≡ true
unfolding every_below
every_at f zero i l h = absurd (omega arith)
every_at f (suc n) i l h =
    by_last i n l
    (λ e. ap f e ∙ and_right (every_below n f) (f n) h)
    (λ m. every_at f n i m (and_left (every_below n f) (f n) h))

pub every_not : (f : ℕ → Bool) (n i : ℕ) → i < n → f i ≡ false → every_below n f ≡ false
every_not f n i l e = by_test (every_below n f) (λ h. absurd (both_ways (every_at f n i l h) e)) (λ h. h)

pub every_all : (f : ℕ → Bool) (n : ℕ) → ((i : ℕ) → i < n → f i ≡ true) → every_below n f ≡ true
unfolding every_below
every_all f zero h = refl
every_all f (suc n) h = and_both (every_below n f) (f n) (every_all f n (λ i l. h i (omega arith))) (h n (omega arith))

pub every_ext : (f g : ℕ → Bool) (n : ℕ) → ((i : ℕ) → i < n → f i ≡ g i) → every_below n f ≡ every_below n g
unfolding every_below
every_ext f g zero h = refl
every_ext f g (suc n) h = rw (every_ext f g n (λ i l. h i (omega arith)), h n (omega arith))

-- the first place that fails
pub record FirstFailing (f : ℕ → Bool) (n : ℕ) : Type 0 where
  pub place : ℕ
  pub below : place < n
  pub fails : f place ≡ false
  pub holds : (i : ℕ) → i < place → f i ≡ true

pub first_failing : (f : ℕ → Bool) (n : ℕ) → every_below n f ≡ false → FirstFailing f n
unfolding every_below
first_failing f zero h = absurd (both_ways refl h)
first_failing f (suc n) h =
    by_test (every_below n f)
    (λ e. record { place = n; below = omega arith; fails = sym (ap (λ (b : Bool). b && f n) e) ∙ h; holds = λ i l. every_at f n i l e })
    (λ e.
    let w = first_failing f n e in
    record { place = w.place; below = omega (arith, w.below); fails = w.fails; holds = w.holds })
