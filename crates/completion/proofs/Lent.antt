-- The table of an accepted set, as the code has it: it is within its limits, with the set's own bounds.
--   Lends   what holds of its bounds
-- Assumes nothing.
use Prim.Native.Nat.{suc}
use mathlib.Core.Path.{◌≡◌, sym, ◌∙◌}
use mathlib.Core.List.{List}
use native.Mathlib.Omega.{arith}
use Rattle.jobs.specs.declared.job.Job.{Job}
use Rattle.jobs.specs.declared.set.JobSet.{JobSet}
use Rattle.std.specs.Prelude.{Ok}
use Rattle.jobs.specs.Jobs.{jobs_of}
use Rattle.jobs.specs.Checks.{check_of}
use Rattle.jobs.proofs.Accepted.{Accepted, accepted}
use Rattle.theory.specs.Table.{Table, table_of}
use Rattle.theory.specs.Bounds.{ert, cja, itr}
use Rattle.theory.proofs.Releases.{earliest_latest}
use Rattle.theory.proofs.RisingBounds.{rises_upwards, releases_rise}
use Rattle.theory.proofs.AcceptedSets.{accepted_ordered, accepted_most, accepted_latest}
use Rattle.theory.proofs.Agreement.{Agree, agree_same}
use Rattle.theory.proofs.Columns.{Fit}
use Rattle.theory.proofs.Unread.{bare, ert-bare, cja-bare, itr-bare}

pub record Lends (set : JobSet) (s : Table) : Type 0 where
  pub by_ert : ert s ≡ ert (table_of (jobs_of set))
  pub by_cja : cja s ≡ cja (table_of (jobs_of set))
  pub by_itr : itr s ≡ itr (table_of (jobs_of set))

agree_fit : {s t : Table} → Agree s (bare t) → Fit t → Fit s
agree_fit {t = t} a fit =
    record {
      few = omega (arith, a.count, fit.few);
      ordered = λ i l. omega (arith, a.chain i (omega arith), a.chain (suc i) l, fit.ordered i (omega (arith, a.count)));
      mosts = λ i l. omega (arith, a.most i l, fit.mosts i (omega (arith, a.count)));
      early = λ i l. omega (arith, a.earliest i l, fit.early i (omega (arith, a.count)));
      late = λ i l. omega (arith, a.latest i l, fit.late i (omega (arith, a.count)));
      rises = λ i l c.
          let same : t.chain i ≡ t.chain (suc i) = sym (a.chain i (omega arith)) ∙ c ∙ a.chain (suc i) l in
          omega (arith, a.earliest i (omega arith), a.earliest (suc i) l, fit.rises i (omega (arith, a.count)) same);
    }

accepted_fit : (js : List Job) → Accepted js → Fit (table_of js)
accepted_fit js ok =
    record {
      few = ok.few;
      ordered = accepted_ordered js ok;
      mosts = accepted_most js ok;
      early = λ i l. omega (arith, earliest_latest js i, accepted_latest js ok i l);
      late = accepted_latest js ok;
      rises = rises_upwards (table_of js) (table_of js).earliest (table_of js).least (releases_rise js);
    }

pub lent_fit : (set : JobSet) → check_of (jobs_of set) ≡ Ok tt → (s : Table) → Agree s (bare (table_of (jobs_of set))) → Fit s
lent_fit set passed s agree = agree_fit agree (accepted_fit (jobs_of set) (accepted (jobs_of set) passed))

pub lends : (set : JobSet) → check_of (jobs_of set) ≡ Ok tt → (s : Table) → Agree s (bare (table_of (jobs_of set))) → Lends set s
lends set passed s agree =
    let ok = accepted (jobs_of set) passed in
    let same = agree_same agree (accepted_ordered (jobs_of set) ok) in
    record {
      by_ert = same.by_ert ∙ ert-bare (table_of (jobs_of set));
      by_cja = same.by_cja ∙ cja-bare (table_of (jobs_of set));
      by_itr = same.by_itr ∙ itr-bare (table_of (jobs_of set));
    }
