-- Lists: what owning an array of structs tells, the rest of a slice, the first places, reads within, the last element, and padding. Nothing here
-- depends on what the elements are. Assumes nothing.
use Prim.Native.Nat.{ℕ, zero, suc, ◌-◌, ◌≤◌, ◌<◌, min}
use mathlib.Core.List.{List, [], ◌∷◌, ◌++◌, append_assoc, append-nil, map}
use mathlib.Core.Path.{◌≡◌, refl, sym, ap, ◌∙◌}
use native.Mathlib.Omega.{arith}
use native.Mathlib.Nat.{zero-min, min-zero, suc-min-suc}
use lib.ListN.{length, length-append, length-map, length-drop, length-replicate, take, drop, get_or, set, replicate}
use lib.Seq.{take_all, set-append_seam}
use Rattle.laws.specs.Words.{last_of, padded}

-- the length of an array of structs, as the borrow checker has it
pub mapped_length : (X Y : Type 0) (f : X → Y) (l : List X) (n : ℕ) → length (map f l) ≡ n → length l ≡ n
mapped_length X Y f l n e = sym (length-map l f) ∙ e

-- the part of a slice from a on, as the borrow checker has it
pub rest_is : {A : Type 0} (a : ℕ) (s : List A) → take (length s - a) (drop a s) ≡ drop a s
rest_is a s = take_all (length s - a) (drop a s) (omega (arith, length-drop a s))

-- the first places of a list that has fewer
take_within : {A : Type 0} (n : ℕ) (l : List A) → take (min n (length l)) l ≡ take n l
take_within zero l = rw (zero-min (length l)) refl
take_within (suc n) [] = rw (min-zero (suc n)) refl
take_within (suc n) (x ∷ l) = rw (suc-min-suc n (length l)) (ap (λ k. x ∷ k) (take_within n l))

pub take-clipped : {A : Type 0} (n m : ℕ) (l : List A) → length l ≡ m → take (min n m) l ≡ take n l
take-clipped n m l e = rw (← e) (take_within n l)

-- at a place within a list the default does not show
pub read_within : {A : Type 0} (xs : List A) (i : ℕ) (d e : A) → i < length xs → get_or xs i d ≡ get_or xs i e
read_within [] i d e l = absurd (omega arith)
read_within (x ∷ xs) zero d e l = refl
read_within (x ∷ xs) (suc i) d e l = read_within xs i d e (omega arith)

pub last_snoc : {A : Type 0} (xs : List A) (d x : A) → last_of d (xs ++ (x ∷ [])) ≡ x
unfolding last_of
last_snoc [] d x = refl
last_snoc (y ∷ xs) d x = last_snoc xs y x

-- ---- padding
module _ {A : Type 0} (m : ℕ) (d : A) where
  pub length-padded : (xs : List A) → length xs ≤ m → length (padded m d xs) ≡ m
  length-padded xs h = length-append xs (replicate (m - length xs) d) ∙ omega (arith, length-replicate (m - length xs) d)

  -- a list of all places is not padded
  pub padded_full : (xs : List A) → length xs ≡ m → padded m d xs ≡ xs
  padded_full xs e =
      let none : m - length xs ≡ 0 = omega arith in
      ap (λ (n : ℕ). xs ++ replicate n d) none ∙ append-nil xs

  -- one element more takes the place of the first that pads
  pub padded_snoc : (xs : List A) (x : A) → length xs < m → set (padded m d xs) (length xs) x ≡ padded m d (xs ++ (x ∷ []))
  padded_snoc xs x h =
      let rest = m - length (xs ++ (x ∷ [])) in
      let k : m - length xs ≡ suc rest = omega (arith, length-append xs (x ∷ [])) in
      rw k (set-append_seam xs d (replicate rest d) x ∙ sym (append_assoc xs (x ∷ []) (replicate rest d)))

  -- padding by the default of a reading changes no reading
  pub get_d_padded : (xs : List A) (i : ℕ) → get_or (padded m d xs) i d ≡ get_or xs i d
  get_d_padded xs i = pads xs (m - length xs) i
    where
      none : (n i : ℕ) → get_or (replicate n d) i d ≡ d
      none zero i = refl
      none (suc n) zero = refl
      none (suc n) (suc i) = none n i

      pads : (xs : List A) (n i : ℕ) → get_or (xs ++ replicate n d) i d ≡ get_or xs i d
      pads [] n i = none n i
      pads (x ∷ xs) n zero = refl
      pads (x ∷ xs) n (suc i) = pads xs n i
