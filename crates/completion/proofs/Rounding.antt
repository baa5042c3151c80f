-- ITR round by round: the bounds so far, and that no round so far has changed none; the first that changes none is the definition's.
--   itr_passed   ITR's answer padded as that of an accepted set
--   Rounding    what the loop over the rounds holds after n of them
-- Assumes a table in its limits.
use Prim.Native.Nat.{ℕ, zero, suc, ◌+◌, ◌*◌, ◌-◌, ◌≤◌, ◌<◌}
use mathlib.Core.Path.{◌≡◌, refl, sym, ap, subst, fun_ext, ◌∙◌}
use mathlib.Core.Bool.{true, false}
use mathlib.Core.List.{List}
use native.Mathlib.Omega.{arith}
use native.Mathlib.Nat.{mul-le-mul_right}
use native.Mathlib.Numerals.{add-one}
use lib.ListN.{get_or}
use lib.Seq.{ext_get_or}
use Rattle.laws.specs.Words.{same_up_to, padded}
use Rattle.laws.proofs.Tests.{by_last, by_order, both_ways}
use Rattle.laws.proofs.Same.{same_at, same_refl}
use Rattle.laws.proofs.Lists.{get_d_padded}
use Rattle.jobs.specs.Limits.{max_jobs}
use Rattle.theory.specs.Table.{Table}
use Rattle.theory.specs.Bounds.{cja_with, overlap, round, after, Answer, round_limit, itr}
use Rattle.theory.specs.Claims.{Repeats, Settled}
use Rattle.theory.proofs.Rules.{length-after}
use Rattle.theory.proofs.Settling.{itr_settled, rounds_limit, settled_unique}
use Rattle.completion.specs.declared.answer.ItrAlone.{ItrAlone}
use Rattle.theory.proofs.Columns.{Fit}
use Rattle.theory.proofs.RisingBounds.{Upwards, after_rises}
use Rattle.theory.proofs.ChainWindow.{bounds_in}
use Rattle.theory.proofs.Refilling.{Spare, spare_padded}

limit_small : (t : Table) → t.count ≤ max_jobs → round_limit t ≤ max_jobs * max_jobs * max_jobs + 2
unfolding round_limit
limit_small t few =
    let n : ℕ = t.count in
    let first : n * n ≤ max_jobs * n = mul-le-mul_right n few in
    let second : n * n * (n - 1) ≤ max_jobs * n * (n - 1) = mul-le-mul_right (n - 1) first in
    let third : max_jobs * n * (n - 1) ≤ max_jobs * max_jobs * (n - 1) = mul-le-mul_right (n - 1) (omega arith) in
    omega arith

-- ---- a round reads bounds as they are padded
pub overlap-padded : (t : Table) (b : List ℕ) → overlap t (padded max_jobs 0 b) ≡ overlap t b
unfolding overlap
overlap-padded t b = fun_ext (λ k. fun_ext (λ j. fun_ext (λ u. rw (get_d_padded max_jobs 0 b u, get_d_padded max_jobs 0 b j))))

pub round-padded : (t : Table) (b : List ℕ) → round t (padded max_jobs 0 b) ≡ round t b
unfolding round
round-padded t b = ap (cja_with t) (overlap-padded t b)

abbrev pub itr_passed : Answer → ItrAlone
itr_passed answer = record { bounds = padded max_jobs 0 answer.bounds; rounds = answer.rounds }

pub record Rounding (t : Table) (bounds : List ℕ) (n : ℕ) : Type 0 where
  pub bounds_are : bounds ≡ padded max_jobs 0 (after t n)
  pub moved : (m : ℕ) → m < suc n → Repeats t m → ⊥

module _ (t : Table) where
  pub rounding_none : (bounds : List ℕ) → bounds ≡ padded max_jobs 0 (after t 0) → Rounding t bounds 0
  rounding_none bounds e = record { bounds_are = e; moved = none }
    where
      none : (m : ℕ) → m < 1 → Repeats t m → ⊥
      none zero l r = r
      none (suc m) l r = omega arith

  module _ {n : ℕ} {bounds : List ℕ} (h : Rounding t bounds n) where
    -- the definition's last round is still to come
    pub rounding_below : n < (itr t).rounds
    rounding_below = by_order (itr t).rounds n (λ l. absurd (h.moved (itr t).rounds (omega arith) (itr_settled t).last)) (λ l. l)

    -- there is nothing behind them
    pub rounding_spare : t.count ≤ max_jobs → Spare t.count bounds
    rounding_spare few = rw h.bounds_are (spare_padded t.count (after t n) (length-after t n) few)

    -- they rise along each chain
    pub rounding_rises : Upwards t (bounds_in bounds)
    rounding_rises i l c =
        let at : (u : ℕ) → get_or bounds u 0 ≡ get_or (after t n) u 0 = (λ u. ap (λ (b : List ℕ). get_or b u 0) h.bounds_are ∙ get_d_padded max_jobs 0 (after t n) u) in
        omega (arith, at i, at (suc i), after_rises t n i l c)

    module _ (next : List ℕ) (e : next ≡ padded max_jobs 0 (round t bounds)) where
      next_is : next ≡ padded max_jobs 0 (after t (suc n))
      unfolding after
      next_is =
          let same : round t bounds ≡ round t (after t n) = rw h.bounds_are (round-padded t (after t n)) in
          e ∙ ap (padded max_jobs 0) same

      repeats : same_up_to t.count next bounds ≡ true → Repeats t (suc n)
      repeats s =
          ext_get_or 0 (after t (suc n)) (after t n) (length-after t (suc n) ∙ sym (length-after t n)) (λ i l.
          sym (get_d_padded max_jobs 0 (after t (suc n)) i)
          ∙ sym (ap (λ (b : List ℕ). get_or b i 0) next_is)
          ∙ same_at t.count next bounds s i (omega (arith, length-after t (suc n)))
          ∙ ap (λ (b : List ℕ). get_or b i 0) h.bounds_are
          ∙ get_d_padded max_jobs 0 (after t n) i)

      moves : same_up_to t.count next bounds ≡ false → Repeats t (suc n) → ⊥
      moves s r =
          both_ways
          (subst (λ (b : List ℕ). same_up_to t.count next b ≡ true) (next_is ∙ ap (padded max_jobs 0) r ∙ sym h.bounds_are) (same_refl t.count next))
          s

      pub rounding_next : same_up_to t.count next bounds ≡ false → Rounding t next (n + 1)
      rounding_next s =
          rw add-one
          (record {
            bounds_are = next_is;
            moved = λ m l r. by_last m (suc n) l (λ q. moves s (subst (Repeats t) q r)) (λ ml. h.moved m ml r);
          })

      pub rounding_last : same_up_to t.count next bounds ≡ true → ◌≡◌ {A = ItrAlone} (record { bounds = next; rounds = n + 1 }) (itr_passed (itr t))
      rounding_last s =
          let answer : Answer = record { bounds = after t (suc n); rounds = suc n } in
          let settled : Settled t answer = record { made = refl; last = repeats s; first = λ m l r. h.moved m l r } in
          rw (add-one, next_is) (ap itr_passed (settled_unique t answer (itr t) settled (itr_settled t)))

  -- the rounds are few enough to be counted
  pub rounds_small : Fit t → (itr t).rounds ≤ max_jobs * max_jobs * max_jobs + 2
  rounds_small fit = omega (arith, rounds_limit t, limit_small t fit.few)
