-- What a tick in which the job at u runs leaves as it was: complete jobs stay complete, ready ones ready while they are not complete, and the order of
-- two ready jobs stays. Assumes nothing.
use Prim.Native.Nat.{ℕ}
use mathlib.Core.Path.{◌≡◌, ap, ◌∙◌}
use mathlib.Core.Bool.{true, false}
use mathlib.Core.List.{List}
use native.Mathlib.Omega.{arith}
use Rattle.laws.specs.Words.{number_at}
use Rattle.laws.proofs.Tests.{both_ways}
use Rattle.theory.specs.Table.{Table}
use Rattle.theory.specs.Runs.{runs, complete}
use Rattle.theory.proofs.Legal.{Parts, ready_parts, parts_ready}
use Rattle.machine.specs.declared.state.State.{State}
use Rattle.machine.specs.Order.{ready_since}
use Rattle.machine.specs.Ticks.{ready_in, pick, moved}
use Rattle.machine.proofs.Readiness.{predecessor_stays, complete_other, noted_other}
use Rattle.machine.proofs.Since.{since_kept}
use Rattle.machine.proofs.Order.{Before, before_same}
use Rattle.machine.proofs.Ticking.{pick_chosen}

module _ (t : Table) (times : List ℕ) (s : State) (u : ℕ) (q : pick t times s ≡ runs u) where
  abbrev pub later : State
  later = moved times (runs u) s

  pub parts_of : (k : ℕ) → ready_in t times s k ≡ true → Parts t t.earliest times (number_at s.work) s.time k
  parts_of k r = ready_parts t t.earliest times (number_at s.work) s.time k r

  pub ran_parts : Parts t t.earliest times (number_at s.work) s.time u
  ran_parts = parts_of u (pick_chosen t times s u q).is_ready_lem

  pub stays : (k : ℕ) → complete times (number_at s.work) k ≡ true → complete times (number_at later.work) k ≡ true
  stays k c = complete_other times s.work u k (λ e. both_ways c (ap (complete times (number_at s.work)) e ∙ ran_parts.unfinished)) ∙ c

  pub ready-later : (k : ℕ) → ready_in t times s k ≡ true → complete times (number_at later.work) k ≡ false → ready_in t times later k ≡ true
  ready-later k r c =
      let p = parts_of k r in
      parts_ready t t.earliest times (number_at later.work) later.time k
      (record { released = omega (arith, p.released); unfinished = c; predecessor = predecessor_stays t times (number_at s.work) (number_at later.work) k stays p.predecessor })

  pub since_later : (k : ℕ) → ready_in t times s k ≡ true → ready_since t (number_at later.completions) k ≡ ready_since t (number_at s.completions) k
  since_later k r =
      since_kept t times (number_at s.work) (number_at s.completions) (number_at later.completions) k
      (λ v l c. noted_other times s u v (λ e. both_ways c (ap (complete times (number_at s.work)) e ∙ ran_parts.unfinished)))
      (parts_of k r).predecessor

  pub order_later : (a b : ℕ) → ready_in t times s a ≡ true → ready_in t times s b ≡ true → Before t (number_at s.completions) a b → Before t (number_at later.completions) a b
  order_later a b r p = before_same t (number_at s.completions) (number_at later.completions) (since_later a r) (since_later b p)
