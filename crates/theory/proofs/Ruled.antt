-- Bounds by the ERT rule, job by job, with any figure of interference.
--   Ruled   what the loop over the jobs holds at place i
-- Assumes nothing.
use Prim.Native.Nat.{ℕ, ◌+◌, ◌*◌, ◌≤◌, ◌<◌}
use mathlib.Core.Path.{◌≡◌, sym, ◌∙◌}
use mathlib.Core.List.{List}
use native.Mathlib.Omega.{arith}
use lib.ListN.{set}
use Rattle.jobs.specs.Limits.{max_jobs, max_release, max_time}
use Rattle.theory.specs.Table.{Table}
use Rattle.theory.specs.Bounds.{ert_rule}
use Rattle.theory.proofs.Columns.{Fit}
use Rattle.theory.proofs.Refilling.{Spare, Refilled, refilled_none, refilled_next}
use Rattle.theory.proofs.Predecessors.{not_before, ert_by, not_before_limit}
use Rattle.theory.proofs.Prior.{prior, prior_none, prior-next}

-- no release is beyond it
abbrev pub latest_limit : ℕ
latest_limit = max_release + max_jobs * max_time

-- what one job can add to a bound
abbrev pub job_limit : ℕ
job_limit = max_time + max_jobs * max_time

pub record Ruled (t : Table) (inter : ℕ → ℕ) (i last bound : ℕ) (bounds : List ℕ) : Type 0 where
  pub inside : i ≤ t.count
  pub last_is : last ≡ prior t.chain i
  pub bound_is : bound ≡ prior (ert_rule t inter) i
  pub bounds_are : Refilled t.count (ert_rule t inter) i bounds
  pub small : bound ≤ latest_limit + i * job_limit

module _ (t : Table) (inter : ℕ → ℕ) where
  pub ruled_none : (bounds : List ℕ) → Spare t.count bounds → Ruled t inter 0 0 0 bounds
  ruled_none bounds spare =
      record {
        inside = omega arith;
        last_is = sym (prior_none t.chain);
        bound_is = sym (prior_none (ert_rule t inter));
        bounds_are = refilled_none (ert_rule t inter) spare;
        small = omega arith;
      }

  module _ (fit : Fit t) {i last bound : ℕ} {bounds : List ℕ} (h : Ruled t inter i last bound bounds) (l : i < t.count) where
    pub ruled_time : (time : ℕ) → time ≡ not_before last (t.chain i) (t.latest i) bound → time ≤ latest_limit + i * job_limit
    ruled_time time e = rw e (not_before_limit last (t.chain i) (t.latest i) bound (latest_limit + i * job_limit) (omega (arith, fit.late i l)) h.small)

    pub ruled_next : (time bound' : ℕ) → time ≡ not_before last (t.chain i) (t.latest i) bound → inter i ≤ t.count * max_time
        → bound' ≡ time + t.most i + inter i → Ruled t inter (i + 1) (t.chain i) bound' (set bounds i bound')
    ruled_next time bound' et di eb =
        let is : bound' ≡ ert_rule t inter i = eb ∙ rw (et, h.last_is, h.bound_is) (sym (ert_by t inter i)) in
        record {
          inside = omega arith;
          last_is = sym (prior-next t.chain i);
          bound_is = is ∙ sym (prior-next (ert_rule t inter) i);
          bounds_are = refilled_next (ert_rule t inter) fit.few h.bounds_are bound' l is;
          small = omega (arith, ruled_time time et, fit.mosts i l, fit.few);
        }
