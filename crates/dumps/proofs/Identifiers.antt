-- Identifiers: none is shared by two jobs, those of a set's jobs are as the format has them, none has a space or a code below it, and none is longer
-- than two bytes. No other file knows how they are made. Assumes nothing.
use Prim.Native.Nat.{ℕ, suc, ◌+◌, ◌≤◌, ◌<◌}
use mathlib.Core.Path.{◌≡◌, refl}
use mathlib.Core.Bool.{true}
use mathlib.Core.List.{List, [], ◌∷◌}
use native.Mathlib.Omega.{arith}
use lib.Dec.{eqb}
use lib.ListN.{length}
use borrow.Author.Tests.{eq-eqb, ne_eqb, eqb-true, le-leb}
use Rattle.laws.proofs.Tests.{by_equal, never_true, and_left, and_right}
use Rattle.decimal.proofs.Absence.{lacks, lacks_none, lacks-cons}
use Rattle.jobs.specs.Limits.{max_jobs}
use Rattle.dumps.specs.Identifiers.{identifier_of}
use Rattle.dumps.specs.Readers.{same, printable, is_identifier}

pub identifier_lacks : (code n : ℕ) → code ≤ 32 → lacks code (identifier_of (suc n)) ≡ true
unfolding identifier_of
identifier_lacks code n l = lacks-cons code (32 + suc n) [] (λ e. omega arith) (lacks_none code)

pub identifier_injective : (n m : ℕ) → identifier_of n ≡ identifier_of m → n ≡ m
unfolding identifier_of
identifier_injective n m e = let z : 32 + n ≡ 32 + m = cc in omega arith

pub identifier_fit : (u : ℕ) → u < max_jobs → is_identifier (identifier_of (suc u)) ≡ true
unfolding identifier_of printable
identifier_fit u l = rw (le-leb 33 (32 + suc u) (omega arith), le-leb (32 + suc u) 126 (omega arith))

pub identifier_short : (n : ℕ) → length (identifier_of n) ≤ 2
unfolding identifier_of
identifier_short n = omega arith

-- ---- which wire an identifier stands for
same_refl : (x : List ℕ) → same x x ≡ true
unfolding same
same_refl [] = refl
same_refl (a ∷ x) = rw (eq-eqb a a refl) (same_refl x)

same_eq : (x y : List ℕ) → same x y ≡ true → x ≡ y
unfolding same
same_eq [] [] h = refl
same_eq [] (b ∷ y) h = let z : ◌≡◌ {A = ℕ} 0 1 = cc in absurd (omega arith)
same_eq (a ∷ x) [] h = let z : ◌≡◌ {A = ℕ} 0 1 = cc in absurd (omega arith)
same_eq (a ∷ x) (b ∷ y) h =
    let p = eqb-true a b (and_left (eqb a b) (same x y) h) in
    let q = same_eq x y (and_right (eqb a b) (same x y) h) in
    cc (p, q)

pub identifier_same : (u k : ℕ) → same (identifier_of (suc k)) (identifier_of (suc u)) ≡ eqb u k
identifier_same u k =
    by_equal u k
    (λ e. rw (e, eq-eqb k k refl) (same_refl (identifier_of (suc k))))
    (λ ne. rw (ne_eqb u k ne) (never_true _ (λ t. ne (let e = identifier_injective (suc k) (suc u) (same_eq _ _ t) in omega arith))))
