-- The first release that is still to come.
--   next-after      it comes after the time
--   next_le         none of those still to come is before it
--   next_attained   it is one of them, or the limit
--   next-same       it is the same from each time before it
-- Assumes nothing.
use Prim.Native.Nat.{ℕ, zero, suc, ◌≤◌, ◌<◌, min}
use mathlib.Core.Path.{◌≡◌, refl, sym, ap, ◌∙◌}
use mathlib.Core.Bool.{cond}
use mathlib.Core.Logic.{◌⊎◌, inl, inr}
use native.Mathlib.Omega.{arith}
use lib.Dec.{ltb}
use borrow.Author.Tests.{lt-ltb, le-ltb}
use Rattle.laws.proofs.Tests.{by_order, by_last}

-- The first release of the first n jobs that is still to come, or the limit where that is sooner or there is none.
unfoldable pub next_release : ℕ → (ℕ → ℕ) → ℕ → ℕ → ℕ
next_release limit release time zero = limit
next_release limit release time (suc n) =
    let next = next_release limit release time n in
    cond (ltb time (release n)) (min next (release n)) next

module _ (limit : ℕ) (release : ℕ → ℕ) (time : ℕ) where
  pub next_none : next_release limit release time 0 ≡ limit
  unfolding next_release
  next_none = refl

  pub next_step : (n : ℕ)
      → next_release limit release time (suc n) ≡ cond (ltb time (release n)) (min (next_release limit release time n) (release n)) (next_release limit release time n)
  unfolding next_release
  next_step n = refl

  next_past : (n : ℕ) → release n ≤ time → next_release limit release time (suc n) ≡ next_release limit release time n
  next_past n past = next_step n ∙ rw (le-ltb time (release n) past)

  next-later : (n : ℕ) → time < release n → next_release limit release time (suc n) ≡ min (next_release limit release time n) (release n)
  next-later n later = next_step n ∙ rw (lt-ltb time (release n) later)

  pub next-after : time < limit → (n : ℕ) → time < next_release limit release time n
  next-after l zero = omega (arith, next_none)
  next-after l (suc n) =
      let before : time < next_release limit release time n = next-after l n in
      by_order (release n) time (λ past. omega (arith, next_past n past)) (λ later. omega (arith, next-later n later))

  next_shrinks : (n : ℕ) → next_release limit release time (suc n) ≤ next_release limit release time n
  next_shrinks n = by_order (release n) time (λ past. omega (arith, next_past n past)) (λ later. omega (arith, next-later n later))

  pub next_le : (n u : ℕ) → u < n → time < release u → next_release limit release time n ≤ release u
  next_le zero u l later = absurd (omega arith)
  next_le (suc n) u l later =
      by_last u n l
      (λ e. omega (arith, next-later n (omega (arith, ap release e)), ap release e))
      (λ below. omega (arith, next_shrinks n, next_le n u below later))

  pub next_attained : (n : ℕ) → (next_release limit release time n ≡ limit) ⊎ ((u : ℕ) × (u < n) × (release u ≡ next_release limit release time n))
  next_attained zero = inl next_none
  next_attained (suc n) =
      by_order (release n) time
      (λ past. kept (next_past n past) (next_attained n))
      (λ later.
      by_order (next_release limit release time n) (release n)
      (λ l. kept (omega (arith, next-later n later)) (next_attained n))
      (λ l. inr (n, omega arith, omega (arith, next-later n later))))
    where
      kept : next_release limit release time (suc n) ≡ next_release limit release time n
          → (next_release limit release time n ≡ limit) ⊎ ((u : ℕ) × (u < n) × (release u ≡ next_release limit release time n))
          → (next_release limit release time (suc n) ≡ limit) ⊎ ((u : ℕ) × (u < suc n) × (release u ≡ next_release limit release time (suc n)))
      kept same (inl e) = inl (same ∙ e)
      kept same (inr w) = inr (w.0, omega (arith, w.1), w.2 ∙ sym same)

pub next-same : (limit : ℕ) (release : ℕ → ℕ) (time to n : ℕ) → time ≤ to → to < next_release limit release time n
    → next_release limit release to n ≡ next_release limit release time n
next-same limit release time to zero l before = next_none limit release to ∙ sym (next_none limit release time)
next-same limit release time to (suc n) l before =
    let rest = next-same limit release time to n l (omega (arith, next_shrinks limit release time n)) in
    by_order (release n) time
    (λ past. next_past limit release to n (omega arith) ∙ rest ∙ sym (next_past limit release time n past))
    (λ later.
    let here = next-later limit release time n later in
    omega (arith, rest, here, next-later limit release to n (omega (arith, here))))
