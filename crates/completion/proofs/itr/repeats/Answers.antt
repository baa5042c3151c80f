-- `repeats` answers whether the round left the bounds of the jobs as they were. Assumes nothing.
use Prim.Native.Nat.{ℕ, ◌≤◌, ◌<◌}
use Rattle.laws.proofs.Same.{same_at, same_all}
use Rattle.laws.proofs.Tests.{by_test, never_true}
use Rattle.laws.specs.Words.{same_up_to}
use Rattle.std.proofs.lemmas.Bool.Decides.{Decides-eqb}
use Rattle.std.proofs.lemmas.Slice.Eq.{slice_eq-Decides}
use lib.Dec.{eqb}
use lib.ListN.{length, get_or, take}
use lib.Pointwise.{pointwise}
use lib.Seq.{length-take-le, get_or-take, ext_get_or}
use mathlib.Core.Bool.{Bool, true}
use mathlib.Core.List.{List}
use mathlib.Core.Path.{◌≡◌, refl, sym, ap, ◌∙◌}
use native.Mathlib.Omega.{arith}
use Rattle.completion.proofs.itr.repeats.Goals as goal

-- the slices of the first n numbers are the same where these are
pointwise_same : (n : ℕ) (a b : List ℕ) → n ≤ length a → n ≤ length b → pointwise eqb (take n a) (take n b) ≡ same_up_to n a b
pointwise_same n a b inside within =
    let r : Bool = pointwise eqb (take n a) (take n b) in
    let decides = slice_eq-Decides Decides-eqb (take n a) (take n b) r refl in
    let lengths : length (take n a) ≡ length (take n b) = length-take-le n a inside ∙ sym (length-take-le n b within) in
    by_test (same_up_to n a b)
    (λ same.
    decides.1 (ext_get_or 0 (take n a) (take n b) lengths (λ i l.
    let here : i < n = omega (arith, l, length-take-le n a inside) in
    get_or-take n a i 0 here ∙ same_at n a b same i here ∙ sym (get_or-take n b i 0 here))) ∙ sym same)
    (λ other.
    never_true r (λ e.
    let slices : take n a ≡ take n b = decides.0 e in
    let same : same_up_to n a b ≡ true
    = same_all n a b (λ i l. sym (get_or-take n a i 0 l) ∙ ap (λ (s : List ℕ). get_or s i 0) slices ∙ get_or-take n b i 0 l) in
    absurd (cc (sym other ∙ same)))
    ∙ sym other)

pub returns : goal.returns
returns c = let t = c.args.table.now in (c.eq.ensures ∙ pointwise_same t.count c.round.new.next c.args.bound.now (omega (arith, t.fit.few)) (omega (arith, t.fit.few)), c.round.ensures)
