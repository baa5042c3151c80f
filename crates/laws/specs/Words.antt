-- The words that definitions and promises are written in: those of the logic, passed on, and those of places and texts. Assumes nothing.
use Prim.Native.Char.{code}
use Prim.Native.String.{String, [] as nothing, ◌∷◌ as ◌then◌}
use Rattle.std.specs.Prelude.{ℕ, zero, suc, ◌+◌, ◌-◌, max, Bool, true, cond, ◌&&◌, List, [], ◌∷◌, ◌++◌, leb, ltb, eqb, length, get_or, take, drop, replicate}

-- The number at a place, 0 beyond the list.
abbrev pub number_at : List ℕ → ℕ → ℕ
number_at xs i = get_or xs i 0

-- f 0 + f 1 + … + f (n - 1).
unfoldable pub sum_below : ℕ → (ℕ → ℕ) → ℕ
sum_below zero f = 0
sum_below (suc n) f = sum_below n f + f n

-- The greatest of f 0, …, f (n - 1), and 0 where there is none.
unfoldable pub greatest : ℕ → (ℕ → ℕ) → ℕ
greatest zero f = 0
greatest (suc n) f = max (greatest n f) (f n)

-- Whether f holds at 0, 1, …, n - 1.
unfoldable pub every_below : ℕ → (ℕ → Bool) → Bool
every_below zero f = true
every_below (suc n) f = every_below n f && f n

-- The first of the places 0, 1, …, n - 1 at which f holds, and n where there is none.
unfoldable pub first_below : ℕ → (ℕ → Bool) → ℕ
first_below zero f = 0
first_below (suc n) f = let before = first_below n f in cond (ltb before n) before (cond (f n) n (suc n))

-- Whether two lists have the same numbers at the first n places, with 0 beyond their last.
unfoldable pub same_up_to : ℕ → List ℕ → List ℕ → Bool
same_up_to n a b = every_below n (λ i. eqb (get_or a i 0) (get_or b i 0))

-- The list f i, f (i + 1), …, of n elements.
unfoldable pub tabulate : {A : Type 0} → ℕ → ℕ → (ℕ → A) → List A
tabulate i zero f = []
tabulate i (suc n) f = f i ∷ tabulate (suc i) n f

-- The last element, and d where there is none.
unfoldable pub last_of : {A : Type 0} → A → List A → A
last_of d [] = d
last_of d (x ∷ xs) = last_of x xs

-- The list, and d in the places beyond it up to m of them.
abbrev pub padded : {A : Type 0} → ℕ → A → List A → List A
padded m d xs = xs ++ replicate (m - length xs) d

-- The bytes of a quoted text, each the code of its character.
abbrev pub ascii : String → List ℕ
ascii nothing = []
ascii (c then text) = code c ∷ ascii text

-- The buffer with the text from the place `at` on, and all else as it was.
unfoldable pub patched : {A : Type 0} → List A → ℕ → List A → List A
patched buffer at text = take at buffer ++ text ++ drop (at + length text) buffer

-- The same of as much of the text as the buffer has room for.
unfoldable pub clipped : {A : Type 0} → List A → ℕ → List A → List A
clipped buffer at text = take (length buffer) (patched buffer at text)

-- The buffer with the text at its start; where the text does not fit, the buffer as it was.
unfoldable pub written : List ℕ → List ℕ → List ℕ
written text buffer = cond (leb (length text) (length buffer)) (patched buffer 0 text) buffer

-- How many bytes were written: the text's length, and 0 where it does not fit.
unfoldable pub written_length : List ℕ → List ℕ → ℕ
written_length text buffer = cond (leb (length text) (length buffer)) (length text) 0
