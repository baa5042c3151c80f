-- Two lists with the same numbers at the first places: none, one more, one that differs, each of them, whole lists, and a list that starts with another. Assumes nothing.
use Prim.Native.Nat.{ℕ, ◌+◌, ◌≤◌, ◌<◌}
use mathlib.Core.Path.{◌≡◌, refl, sym, ap, ◌∙◌}
use mathlib.Core.Logic.{◌≢◌}
use mathlib.Core.Bool.{true, false}
use mathlib.Core.List.{List}
use native.Mathlib.Omega.{arith}
use lib.ListN.{length, get_or, take}
use lib.Seq.{length-take-le, get_or-take, ext_get_or}
use borrow.Author.Tests.{eq-eqb, ne_eqb, eqb-true}
use Rattle.laws.specs.Words.{same_up_to}
use Rattle.laws.proofs.Every.{every_none, every_next, every_not, every_at, every_all}

pub same_none : (a b : List ℕ) → same_up_to 0 a b ≡ true
unfolding same_up_to
same_none a b = every_none _

pub same_more : (n : ℕ) (a b : List ℕ) → same_up_to n a b ≡ true → get_or a n 0 ≡ get_or b n 0 → same_up_to (n + 1) a b ≡ true
unfolding same_up_to
same_more n a b e q = every_next _ n e (eq-eqb (get_or a n 0) (get_or b n 0) q)

pub same_not : (n : ℕ) (a b : List ℕ) (i : ℕ) → i < n → get_or a i 0 ≢ get_or b i 0 → same_up_to n a b ≡ false
unfolding same_up_to
same_not n a b i l ne = every_not _ n i l (ne_eqb (get_or a i 0) (get_or b i 0) ne)

pub same_at : (n : ℕ) (a b : List ℕ) → same_up_to n a b ≡ true → (i : ℕ) → i < n → get_or a i 0 ≡ get_or b i 0
unfolding same_up_to
same_at n a b e i l = eqb-true _ _ (every_at _ n i l e)

pub same_all : (n : ℕ) (a b : List ℕ) → ((i : ℕ) → i < n → get_or a i 0 ≡ get_or b i 0) → same_up_to n a b ≡ true
unfolding same_up_to
same_all n a b h = every_all _ n (λ i l. eq-eqb (get_or a i 0) (get_or b i 0) (h i l))

pub same_refl : (n : ℕ) (a : List ℕ) → same_up_to n a a ≡ true
same_refl n a = same_all n a a (λ i l. refl)

-- lists of one length that are the same at all their places are one list
pub same_whole : (a b : List ℕ) → length a ≡ length b → same_up_to (length b) a b ≡ true → a ≡ b
same_whole a b e h = ext_get_or 0 a b e (λ i l. same_at (length b) a b h i (omega arith))

-- a list that starts with another
pub same_front : (a b : List ℕ) → length b ≤ length a → same_up_to (length b) a b ≡ true → take (length b) a ≡ b
same_front a b h e =
    let n : length (take (length b) a) ≡ length b = length-take-le (length b) a h in
    ext_get_or 0 (take (length b) a) b n (λ i l. get_or-take (length b) a i 0 (omega arith) ∙ same_at (length b) a b e i (omega arith))

pub front_same : (a b : List ℕ) → take (length b) a ≡ b → same_up_to (length b) a b ≡ true
front_same a b e = same_all (length b) a b (λ i l. sym (get_or-take (length b) a i 0 l) ∙ ap (λ (l : List ℕ). get_or l i 0) e)
