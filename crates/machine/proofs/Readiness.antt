-- Ready jobs: what it takes, and what one more tick of work changes, of work and of completions. Assumes nothing.
use Prim.Native.Nat.{ℕ, zero, suc, ◌+◌, ◌-◌, ◌<◌}
use mathlib.Core.Path.{◌≡◌, refl, sym, ap, ◌∙◌}
use mathlib.Core.Bool.{Bool, true, false, cond}
use mathlib.Core.List.{List}
use mathlib.Core.Logic.{◌≢◌}
use native.Mathlib.Omega.{arith}
use lib.Dec.{eqb}
use lib.ListN.{length, get_or, set}
use lib.Seq.{get_or-set_same, get_or-set_other, set-get_or}
use borrow.Author.Tests.{lt-leb, eq-eqb, ne_eqb}
use Rattle.laws.specs.Words.{number_at}
use Rattle.theory.specs.Table.{Table, joined}
use Rattle.theory.specs.Runs.{runs, complete, predecessor_complete, ready}
use Rattle.theory.proofs.Columns.{Alike}
use Rattle.theory.proofs.Legal.{predecessor-next, predecessor_none}
use Rattle.machine.specs.declared.state.State.{State}
use Rattle.machine.specs.Ticks.{ready_in, moved}

-- a state by its figures
abbrev pub state_of : ℕ → List ℕ → List ℕ → State
state_of time work completions = record { time = time; work = work; completions = completions }

pub early_not_ready : (t : Table) (release : ℕ → ℕ) (times : List ℕ) (work : ℕ → ℕ) (n u : ℕ) → n < release u → ready t release times work n u ≡ false
unfolding ready
early_not_ready t release times work n u l = rw (lt-leb (release u) n l)

module _ (t : Table) (times : List ℕ) where
  -- where every job before is complete, the predecessor is
  pub predecessor_all : (work : ℕ → ℕ) (u : ℕ) → ((k : ℕ) → k < u → complete times work k ≡ true) → predecessor_complete t times work u ≡ true
  unfolding predecessor_complete
  predecessor_all work zero h = refl
  predecessor_all work (suc v) h = by_joined (joined t v) (h v (omega arith))
    where
      by_joined : (b : Bool) → complete times work v ≡ true → cond b (complete times work v) true ≡ true
      by_joined true e = e
      by_joined false e = refl

  -- what stays complete keeps its successor's predecessor complete
  pub predecessor_stays : (work work' : ℕ → ℕ) (u : ℕ) → ((k : ℕ) → complete times work k ≡ true → complete times work' k ≡ true)
      → predecessor_complete t times work u ≡ true → predecessor_complete t times work' u ≡ true
  unfolding predecessor_complete
  predecessor_stays work work' zero h e = refl
  predecessor_stays work work' (suc v) h e = by_joined (joined t v) e
    where
      by_joined : (b : Bool) → cond b (complete times work v) true ≡ true → cond b (complete times work' v) true ≡ true
      by_joined true q = h v q
      by_joined false q = refl

-- ---- tables that agree
module _ {a b : Table} {n : ℕ} (same : Alike a b n) (times : List ℕ) where
  pub predecessor_alike : (work : ℕ → ℕ) (u : ℕ) → u < n → predecessor_complete a times work u ≡ predecessor_complete b times work u
  unfolding predecessor_complete joined
  predecessor_alike work zero l = refl
  predecessor_alike work (suc v) l = rw (same.chain v (omega arith), same.chain (suc v) l)

  pub ready_alike : (s : State) (u : ℕ) → u < n → ready_in a times s u ≡ ready_in b times s u
  unfolding ready
  ready_alike s u l = rw (predecessor_alike (number_at s.work) u l, same.release u l)

-- ---- one more tick of work at u
module _ (times work : List ℕ) (u : ℕ) where
  abbrev pub worked : List ℕ
  worked = set work u (get_or work u 0 + 1)

  pub worked_here : u < length work → get_or worked u 0 ≡ get_or work u 0 + 1
  worked_here l = get_or-set_same work u (get_or work u 0 + 1) 0 l

  pub worked_other : (k : ℕ) → k ≢ u → get_or worked k 0 ≡ get_or work k 0
  worked_other k ne = get_or-set_other work u k (get_or work u 0 + 1) 0 ne

  pub complete_other : (k : ℕ) → k ≢ u → complete times (number_at worked) k ≡ complete times (number_at work) k
  unfolding complete
  complete_other k ne = rw (worked_other k ne)

-- ---- the completions after a tick in which the job at u ran
module _ (times : List ℕ) (s : State) (u : ℕ) where
  abbrev entry_after : ℕ
  entry_after = cond (eqb (get_or s.work u 0 + 1) (get_or times u 0)) (s.time + 1) (get_or s.completions u 0)

  -- it is complete
  pub noted_here : u < length s.completions → get_or s.work u 0 + 1 ≡ get_or times u 0 → get_or (moved times (runs u) s).completions u 0 ≡ s.time + 1
  noted_here l e = get_or-set_same s.completions u entry_after 0 l ∙ rw (eq-eqb (get_or s.work u 0 + 1) (get_or times u 0) e)

  -- it is not
  pub noted_open : get_or s.work u 0 + 1 ≢ get_or times u 0 → (moved times (runs u) s).completions ≡ s.completions
  noted_open ne = rw (ne_eqb (get_or s.work u 0 + 1) (get_or times u 0) ne) (set-get_or s.completions u 0)

  pub noted_other : (k : ℕ) → k ≢ u → get_or (moved times (runs u) s).completions k 0 ≡ get_or s.completions k 0
  noted_other k ne = get_or-set_other s.completions u k entry_after 0 ne

-- ---- the predecessor, by the place before
module _ (t : Table) (times : List ℕ) (work : ℕ → ℕ) (u : ℕ) (l : 0 < u) where
  step_back : u ≡ suc (u - 1)
  step_back = omega arith

  pub predecessor_apart : t.chain (u - 1) ≢ t.chain u → predecessor_complete t times work u ≡ true
  predecessor_apart ne = rw step_back (predecessor_none t times work (u - 1) (λ e. ne (e ∙ ap t.chain (sym step_back))))

  pub predecessor_of : t.chain (u - 1) ≡ t.chain u → predecessor_complete t times work u ≡ complete times work (u - 1)
  predecessor_of e = ap (predecessor_complete t times work) step_back ∙ predecessor-next t times work (u - 1) (e ∙ ap t.chain step_back)
