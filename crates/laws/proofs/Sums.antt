-- Sums over places: monotone, equal term by term, added, one term raised, limited, counts of places, and split. Assumes nothing.
use Prim.Native.Nat.{ℕ, zero, suc, ◌+◌, ◌*◌, ◌≤◌, ◌<◌}
use mathlib.Core.Path.{◌≡◌, refl, ap, subst}
use mathlib.Core.Logic.{◌≢◌}
use native.Mathlib.Omega.{arith}
use native.Mathlib.Nat.{add-zero, add-suc}
use lib.Dec.{eqb}
use borrow.Author.Tests.{eqb-true, eqb-false}
use Rattle.laws.specs.Words.{sum_below}
use Rattle.laws.proofs.Tests.{by_test, by_equal, by_last}

pub sum_mono : (n : ℕ) (f g : ℕ → ℕ) → ((i : ℕ) → i < n → f i ≤ g i) → sum_below n f ≤ sum_below n g
unfolding sum_below
sum_mono zero f g h = omega arith
sum_mono (suc n) f g h = omega (arith, sum_mono n f g (λ i l. h i (omega arith)), h n (omega arith))

pub sum_ext : (n : ℕ) (f g : ℕ → ℕ) → ((i : ℕ) → i < n → f i ≡ g i) → sum_below n f ≡ sum_below n g
unfolding sum_below
sum_ext zero f g h = refl
sum_ext (suc n) f g h = omega (arith, sum_ext n f g (λ i l. h i (omega arith)), h n (omega arith))

pub sum_add : (n : ℕ) (f g : ℕ → ℕ) → sum_below n (λ i. f i + g i) ≡ sum_below n f + sum_below n g
unfolding sum_below
sum_add zero f g = refl
sum_add (suc n) f g = omega (arith, sum_add n f g)

-- sums that are equal, of terms in order, have equal terms
pub sum_eq : (n : ℕ) (f g : ℕ → ℕ) → ((i : ℕ) → i < n → f i ≤ g i) → sum_below n g ≤ sum_below n f → (i : ℕ) → i < n → f i ≡ g i
unfolding sum_below
sum_eq zero f g h e i l = omega arith
sum_eq (suc n) f g h e i l =
    let below : sum_below n f ≤ sum_below n g = sum_mono n f g (λ k kl. h k (omega arith)) in
    let top : f n ≤ g n = h n (omega arith) in
    by_test (eqb i n)
    (λ q. rw (eqb-true i n q) (omega arith))
    (λ q.
    let ne : i ≢ n = eqb-false i n q in
    sum_eq n f g (λ k kl. h k (omega arith)) (omega arith) i (omega arith))

-- one term is raised by y
pub sum_bump : (n : ℕ) (f g : ℕ → ℕ) (k y : ℕ) → k < n → g k ≡ f k + y → ((i : ℕ) → i < n → i ≢ k → g i ≡ f i) → sum_below n g ≡ sum_below n f + y
unfolding sum_below
sum_bump zero f g k y l e h = omega arith
sum_bump (suc n) f g k y l e h =
    by_test (eqb k n)
    (λ q.
    let kn : k ≡ n = eqb-true k n q in
    let e' : g n ≡ f n + y = subst (λ (z : ℕ). g z ≡ f z + y) kn e in
    omega (arith, e', sum_ext n g f (λ i il. h i (omega arith) (omega arith))))
    (λ q.
    let ne : k ≢ n = eqb-false k n q in
    omega (arith, sum_bump n f g k y (omega arith) e (λ i il d. h i (omega arith) d), h n (omega arith) (omega arith)))

pub sum_const : (n m : ℕ) (f : ℕ → ℕ) → ((i : ℕ) → i < n → f i ≤ m) → sum_below n f ≤ n * m
unfolding sum_below
sum_const zero m f h = omega arith
sum_const (suc n) m f h = omega (arith, sum_const n m f (λ i l. h i (omega arith)), h n (omega arith))

pub sum_zero : (n : ℕ) (f : ℕ → ℕ) → ((i : ℕ) → i < n → f i ≡ 0) → sum_below n f ≡ 0
unfolding sum_below
sum_zero zero f h = refl
sum_zero (suc n) f h = omega (arith, sum_zero n f (λ i l. h i (omega arith)), h n (omega arith))

-- terms that are 0 but for one
pub sum_only : (n : ℕ) (f : ℕ → ℕ) (k m : ℕ) → f k ≤ m → ((i : ℕ) → i < n → i ≢ k → f i ≡ 0) → sum_below n f ≤ m
unfolding sum_below
sum_only zero f k m l h = omega arith
sum_only (suc n) f k m l h =
    by_equal n k
    (λ e. omega (arith, ap f e, sum_zero n f (λ i il. h i (omega arith) (omega arith))))
    (λ ne. omega (arith, sum_only n f k m l (λ i il d. h i (omega arith) d), h n (omega arith) ne))

pub sum_one : (n : ℕ) (f : ℕ → ℕ) (i : ℕ) → i < n → f i ≤ sum_below n f
unfolding sum_below
sum_one zero f i l = absurd (omega arith)
sum_one (suc n) f i l = by_last i n l (λ e. rw e (omega arith)) (λ il. omega (arith, sum_one n f i il))

pub sum_two : (n : ℕ) (f : ℕ → ℕ) (i k : ℕ) → i < k → k < n → f i + f k ≤ sum_below n f
unfolding sum_below
sum_two zero f i k il kl = absurd (omega arith)
sum_two (suc n) f i k il kl =
    by_last k n kl
    (λ e. omega (arith, sum_one n f i (omega arith), ap f e))
    (λ l. omega (arith, sum_two n f i k il l))

-- a count of places that leaves one out
pub sum_skip : (n : ℕ) (f : ℕ → ℕ) (j : ℕ) → j < n → f j ≡ 0 → ((i : ℕ) → i < n → f i ≤ 1) → sum_below n f + 1 ≤ n
unfolding sum_below
sum_skip zero f j l z h = absurd (omega arith)
sum_skip (suc n) f j l z h =
    by_last j n l
    (λ e.
    let last : f n ≡ 0 = subst (λ (i : ℕ). f i ≡ 0) e z in
    omega (arith, sum_const n 1 f (λ i il. h i (omega arith))))
    (λ jl. omega (arith, sum_skip n f j jl z (λ i il. h i (omega arith)), h n (omega arith)))

-- the first terms, and the rest
pub sum_split : (f : ℕ → ℕ) (n m : ℕ) → sum_below (n + m) f ≡ sum_below n f + sum_below m (λ i. f (n + i))
unfolding sum_below
sum_split f n zero = rw (add-zero n, add-zero (sum_below n f)) refl
sum_split f n (suc m) = rw (add-suc n m) (omega (arith, sum_split f n m))

-- terms that are 0 add nothing to those before them
pub sum_still : (f : ℕ → ℕ) (n m : ℕ) → ((i : ℕ) → i < m → f (n + i) ≡ 0) → sum_below (n + m) f ≡ sum_below n f
sum_still f n m h = omega (arith, sum_split f n m, sum_zero m (λ i. f (n + i)) h)

-- terms that are 0 but for those of a window
pub sum_window : (f : ℕ → ℕ) (first size rest : ℕ) → ((u : ℕ) → u < first → f u ≡ 0) → ((i : ℕ) → i < rest → f (first + (size + i)) ≡ 0)
    → sum_below (first + (size + rest)) f ≡ sum_below size (λ i. f (first + i))
sum_window f first size rest before behind =
    omega (
      arith,
      sum_split f first (size + rest),
      sum_split (λ i. f (first + i)) size rest,
      sum_zero first f before,
      sum_zero rest (λ i. f (first + (size + i))) behind,
    )
