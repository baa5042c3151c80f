-- The pick, which is before every other ready job. Assumes nothing.
--   Chosen   a ready job among the first n that is before every other one
--   Picked   what the best of the first n jobs is
use Prim.Native.Nat.{ℕ, zero, suc, ◌+◌, ◌≤◌, ◌<◌}
use mathlib.Core.Path.{◌≡◌, refl, sym, ap, subst, ◌∙◌}
use mathlib.Core.Bool.{true, false, cond}
use mathlib.Core.List.{List}
use mathlib.Core.Logic.{◌⊎◌, inl, inr, ⊎_elim}
use native.Mathlib.Omega.{arith}
use native.Mathlib.Numerals.{add-one}
use Rattle.laws.specs.Words.{number_at}
use Rattle.laws.proofs.Tests.{by_test, by_last, both_ways}
use Rattle.theory.specs.Table.{Table}
use Rattle.theory.proofs.Columns.{Alike}
use Rattle.std.specs.Prelude.{Option, Some, None}
use Rattle.machine.specs.declared.state.State.{State}
use Rattle.machine.specs.declared.pick.Best.{Best}
use Rattle.machine.specs.Order.{rank_of}
use Rattle.machine.specs.Ticks.{ready_in, better, best_up_to}
use Rattle.machine.proofs.Readiness.{ready_alike}
use Rattle.machine.proofs.Since.{since_alike}
use Rattle.machine.proofs.Order.{goes_first, Before, first_before}

module _ (t : Table) where
  module _ (times : List ℕ) (s : State) where
    -- a ready job among the first n that is before every other one
    pub record Chosen (n u : ℕ) : Type 0 where
      pub inside : u < n
      pub is_ready_lem : ready_in t times s u ≡ true
      pub top : (k : ℕ) → k < n → ready_in t times s k ≡ true → (k ≡ u) ⊎ Before t (number_at s.completions) u k

    abbrev pub Picked : ℕ → Option Best → Type 0
    Picked n None = (k : ℕ) → k < n → ready_in t times s k ≡ false
    Picked n (Some best) = (best.rank ≡ rank_of t (number_at s.completions) best.at) × Chosen n best.at

    unready : (n : ℕ) → ready_in t times s n ≡ false → (best : Option Best) → Picked n best → Picked (suc n) best
    unready n r None h = λ k l. by_last k n l (λ q. ap (ready_in t times s) q ∙ r) (λ m. h k m)
    unready n r (Some best) (e, h) = (
      e,
      record {
        inside = omega (arith, h.inside);
        is_ready_lem = h.is_ready_lem;
        top = λ k l g. by_last k n l (λ q. absurd (both_ways g (ap (ready_in t times s) q ∙ r))) (λ m. h.top k m g);
      },
    )

    only : (n : ℕ) → ready_in t times s n ≡ true → ((k : ℕ) → k < n → ready_in t times s k ≡ false) → Chosen (suc n) n
    only n r h = record { inside = omega arith; is_ready_lem = r; top = λ k l g. by_last k n l (λ q. inl q) (λ m. absurd (both_ways g (h k m))) }

    taken : (n u : ℕ) → ready_in t times s n ≡ true → Chosen n u → goes_first t (number_at s.completions) n u ≡ true → Chosen (suc n) n
    taken n u r h g =
        record {
          inside = omega arith;
          is_ready_lem = r;
          top = λ k l q.
              by_last k n l
              (λ e. inl e)
              (λ m. inr (⊎_elim (λ e. rw e (inl g)) (λ b. first_before t (number_at s.completions) g b) (h.top k m q)));
        }

    kept : (n u : ℕ) → Chosen n u → goes_first t (number_at s.completions) n u ≡ false → Chosen (suc n) u
    kept n u h g =
        record {
          inside = omega (arith, h.inside);
          is_ready_lem = h.is_ready_lem;
          top = λ k l q. by_last k n l (λ e. rw e (inr (inr (g, h.inside)))) (λ m. h.top k m q);
        }

    ready_next : (n : ℕ) → ready_in t times s n ≡ true → (best : Option Best) → Picked n best → Picked (suc n) (Some (better best n (rank_of t (number_at s.completions) n)))
    unfolding better goes_first
    ready_next n r None h = (refl, only n r h)
    ready_next n r (Some best) (e, h) =
        by_test (goes_first t (number_at s.completions) n best.at)
        (λ g. rw (e, g) (refl, taken n best.at r h g))
        (λ g. rw (e, g) (refl, kept n best.at h g))

    pub picked_up_to : (n : ℕ) → Picked n (best_up_to t times s n)
    unfolding best_up_to
    picked_up_to zero = λ k l. absurd (omega arith)
    picked_up_to (suc n) =
        by_test (ready_in t times s n)
        (λ r. rw r (ready_next n r (best_up_to t times s n) (picked_up_to n)))
        (λ r. rw r (unready n r (best_up_to t times s n) (picked_up_to n)))

pub best_inside : (t : Table) (times : List ℕ) (s : State) (n : ℕ) (best : Best) → Some best ≡ best_up_to t times s n → best.at < n
best_inside t times s n best e = (subst (Picked t times s n) (sym e) (picked_up_to t times s n)).1.inside

pub best_step : (t : Table) (times : List ℕ) (s : State) (best : Option Best) (u : ℕ) → best ≡ best_up_to t times s u
    → cond (ready_in t times s u) (Some (better best u (rank_of t (number_at s.completions) u))) best ≡ best_up_to t times s (u + 1)
unfolding best_up_to
best_step t times s best u e = rw (add-one, e)

-- ---- tables that agree have the same best
module _ {a b : Table} {n : ℕ} (same : Alike a b n) (times : List ℕ) (s : State) where
  pub best_alike : (m : ℕ) → m ≤ n → best_up_to a times s m ≡ best_up_to b times s m
  unfolding best_up_to
  best_alike zero l = refl
  best_alike (suc m) l = rw (ready_alike same times s m l, best_alike m (omega arith), same.urgency m l, since_alike same (number_at s.completions) m l, same.chain m l)
