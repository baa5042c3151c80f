-- Since when a job is ready. Assumes nothing.
--   since_kept       it does not change while its predecessor is complete and the completions of complete jobs stay
--   since_released   not before its release
--   since_past       not after a time by which it is released and all completions are
--   since_alike      the same in tables that agree
--   since_first, since_apart, since_of   by the place before
use Prim.Native.Nat.{ℕ, zero, suc, ◌-◌, ◌≤◌, ◌<◌, max}
use mathlib.Core.Path.{◌≡◌, refl, sym, ap, ◌∙◌}
use mathlib.Core.Bool.{Bool, true, false, cond}
use mathlib.Core.List.{List}
use mathlib.Core.Logic.{◌≢◌}
use native.Mathlib.Omega.{arith}
use borrow.Author.Tests.{eq-eqb, ne_eqb}
use Rattle.laws.proofs.Tests.{by_test}
use Rattle.theory.specs.Table.{Table, joined}
use Rattle.theory.specs.Runs.{complete, predecessor_complete}
use Rattle.theory.proofs.Columns.{Alike}
use Rattle.machine.specs.Order.{ready_since}

-- ---- completions that are the same for complete jobs
module _ (t : Table) (times : List ℕ) (work : ℕ → ℕ) (old new : ℕ → ℕ) where
  pub since_kept : (u : ℕ) → ((v : ℕ) → v < u → complete times work v ≡ true → new v ≡ old v) → predecessor_complete t times work u ≡ true
      → ready_since t new u ≡ ready_since t old u
  unfolding ready_since predecessor_complete
  since_kept zero h p = refl
  since_kept (suc v) h p = by_joined (joined t v) p
    where
      by_joined : (b : Bool) → cond b (complete times work v) true ≡ true
          → cond b (max (t.earliest (suc v)) (new v)) (t.earliest (suc v)) ≡ cond b (max (t.earliest (suc v)) (old v)) (t.earliest (suc v))
      by_joined true c = rw (h v (omega arith) c)
      by_joined false c = refl

-- ---- between its release and the time
module _ (t : Table) (completed : ℕ → ℕ) where
  pub since_released : (u : ℕ) → t.earliest u ≤ ready_since t completed u
  unfolding ready_since
  since_released zero = omega arith
  since_released (suc v) = by_test (joined t v) (λ e. rw e (omega arith)) (λ e. rw e (omega arith))

  pub since_past : (time : ℕ) → ((v : ℕ) → completed v ≤ time) → (u : ℕ) → t.earliest u ≤ time → ready_since t completed u ≤ time
  unfolding ready_since
  since_past time past zero l = l
  since_past time past (suc v) l = by_test (joined t v) (λ e. rw e (omega (arith, past v))) (λ e. rw e l)

-- ---- tables that agree
pub since_alike : {a b : Table} {n : ℕ} → Alike a b n → (completed : ℕ → ℕ) (u : ℕ) → u < n → ready_since a completed u ≡ ready_since b completed u
unfolding ready_since joined
since_alike same completed zero l = same.release 0 l
since_alike same completed (suc v) l = rw (same.chain v (omega arith), same.chain (suc v) l, same.release (suc v) l)

-- ---- by the place before
module _ (t : Table) (completed : ℕ → ℕ) where
  pub since_first : ready_since t completed 0 ≡ t.earliest 0
  unfolding ready_since
  since_first = refl

  since_none : (v : ℕ) → t.chain v ≢ t.chain (suc v) → ready_since t completed (suc v) ≡ t.earliest (suc v)
  unfolding ready_since joined
  since_none v ne = rw (ne_eqb (t.chain v) (t.chain (suc v)) ne)

  since_next : (v : ℕ) → t.chain v ≡ t.chain (suc v) → ready_since t completed (suc v) ≡ max (t.earliest (suc v)) (completed v)
  unfolding ready_since joined
  since_next v e = rw (eq-eqb (t.chain v) (t.chain (suc v)) e)

  module _ (u : ℕ) (l : 0 < u) where
    step_back : u ≡ suc (u - 1)
    step_back = omega arith

    pub since_apart : t.chain (u - 1) ≢ t.chain u → ready_since t completed u ≡ t.earliest u
    since_apart ne = ap (ready_since t completed) step_back ∙ since_none (u - 1) (λ e. ne (e ∙ ap t.chain (sym step_back))) ∙ ap t.earliest (sym step_back)

    pub since_of : t.chain (u - 1) ≡ t.chain u → ready_since t completed u ≡ max (t.earliest u) (completed (u - 1))
    since_of e = ap (ready_since t completed) step_back ∙ since_next (u - 1) (e ∙ ap t.chain step_back) ∙ ap (λ (k : ℕ). max (t.earliest k) (completed (u - 1))) (sym step_back)
