-- Lists over places: their length, their elements, what maps them, the first of them, and a list over its own places. Nothing here depends on what the elements are. Assumes nothing.
use Prim.Native.Nat.{ℕ, zero, suc, ◌+◌, ◌≤◌, ◌<◌, min}
use mathlib.Core.Path.{◌≡◌, refl, sym, ap, ◌∙◌}
use mathlib.Core.List.{List, ◌∷◌, map}
use native.Mathlib.Omega.{arith}
use native.Mathlib.Nat.{add-zero, zero-add, zero-min, min-zero, suc-min-suc}
use lib.ListN.{length, get_or, take}
use lib.Seq.{ext_get_or}
use Rattle.laws.specs.Words.{tabulate}

pub length-tabulate : {A : Type 0} (i n : ℕ) (f : ℕ → A) → length (tabulate i n f) ≡ n
unfolding tabulate
length-tabulate i zero f = refl
length-tabulate i (suc n) f = ap suc (length-tabulate (suc i) n f)

pub get_d_tabulate : {A : Type 0} (i n : ℕ) (f : ℕ → A) (d : A) (k : ℕ) → k < n → get_or (tabulate i n f) k d ≡ f (i + k)
unfolding tabulate
get_d_tabulate i zero f d k l = absurd (omega arith)
get_d_tabulate i (suc n) f d zero l = ap f (sym (add-zero i))
get_d_tabulate i (suc n) f d (suc k) l = get_d_tabulate (suc i) n f d k (omega arith) ∙ ap f (omega arith)

pub tabulate_ext : {A : Type 0} (i n : ℕ) (f g : ℕ → A) → ((k : ℕ) → i ≤ k → k < i + n → f k ≡ g k) → tabulate i n f ≡ tabulate i n g
unfolding tabulate
tabulate_ext i zero f g h = refl
tabulate_ext i (suc n) f g h = cc (h i (omega arith) (omega arith), tabulate_ext (suc i) n f g (λ k a b. h k (omega arith) (omega arith)))

pub map-tabulate : {A B : Type 0} (f : A → B) (i n : ℕ) (g : ℕ → A) → map f (tabulate i n g) ≡ tabulate i n (λ k. f (g k))
unfolding tabulate
map-tabulate f i zero g = refl
map-tabulate {B = B} f i (suc n) g = ap (λ (l : List B). f (g i) ∷ l) (map-tabulate f (suc i) n g)

pub tabulate_list : {A : Type 0} (xs : List A) (d : A) → tabulate 0 (length xs) (λ i. get_or xs i d) ≡ xs
tabulate_list xs d =
    let count = length-tabulate 0 (length xs) (λ i. get_or xs i d) in
    ext_get_or d (tabulate 0 (length xs) (λ i. get_or xs i d)) xs count
    (λ i l. get_d_tabulate 0 (length xs) (λ k. get_or xs k d) d i (omega (arith, count)) ∙ ap (λ (k : ℕ). get_or xs k d) (zero-add i))

pub take-tabulate : {A : Type 0} (m i n : ℕ) (f : ℕ → A) → take m (tabulate i n f) ≡ tabulate i (min m n) f
unfolding tabulate
take-tabulate zero i n f = rw (zero-min n) refl
take-tabulate (suc m) i zero f = rw (min-zero (suc m)) refl
take-tabulate (suc m) i (suc n) f = rw (suc-min-suc m n) (ap (λ l. f i ∷ l) (take-tabulate m (suc i) n f))

pub tabulate_shift : {A : Type 0} (i n : ℕ) (f : ℕ → A) → tabulate i n (λ k. f (suc k)) ≡ tabulate (suc i) n f
unfolding tabulate
tabulate_shift i zero f = refl
tabulate_shift i (suc n) f = ap (λ l. f (suc i) ∷ l) (tabulate_shift (suc i) n f)
