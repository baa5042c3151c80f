-- The claims of specs/Claims, for every accepted set. Assumes nothing.
use Prim.Native.Nat.{ℕ, suc, ◌≤◌, ◌+◌, ◌*◌, ◌<◌}
use mathlib.Core.Bool.{true}
use mathlib.Core.List.{List}
use mathlib.Core.Path.{◌≡◌, ap, ◌∙◌}
use native.Mathlib.Omega.{arith}
use lib.Dec.{lit<}
use native.Mathlib.Nat.{zero-add}
use Rattle.laws.specs.Words.{number_at, tabulate}
use Rattle.laws.proofs.Tabulate.{length-tabulate, get_d_tabulate}
use Rattle.jobs.specs.declared.job.Job.{Job}
use Rattle.std.specs.Prelude.{Ok}
use Rattle.jobs.specs.Limits.{max_jobs, max_release, max_time}
use Rattle.jobs.specs.Checks.{check_of}
use Rattle.jobs.proofs.Accepted.{accepted}
use Rattle.theory.specs.Table.{Table, table_of}
use Rattle.theory.specs.Bounds.{ert, cja, bound_limit, itr}
use Rattle.theory.specs.Runs.{times_fit, releases_fit}
use Rattle.theory.specs.Claims.{Compared, Demand3, EveryAccepted}
use Rattle.theory.proofs.WellFormed.{WellFormed}
use Rattle.theory.proofs.AcceptedSets.{accepted_ordered, accepted_well, accepted_most, accepted_latest}
use Rattle.theory.proofs.Monotone.{cja_le_ert}
use Rattle.theory.proofs.Settling.{itr_settled, rounds_limit, settled_unique, itr_le_cja}
use Rattle.theory.proofs.Least.{itr_below}
use Rattle.theory.proofs.FewRounds.{rounds_few}
use Rattle.theory.proofs.Soundness.{itr-holds, cja-holds, ert-holds}
use Rattle.theory.proofs.Legal.{times-to, releases-to}
use Rattle.theory.proofs.Existence.{run_of}
use Rattle.theory.proofs.Limits.{ert_limit}
use Rattle.theory.proofs.Delays.{ert_explains, cja_explains, itr_explains, last_round}
use Rattle.theory.proofs.RisingBounds.{releases_rise, after_rises}
use Rattle.theory.proofs.PartBounds.{part_no_later}
use Rattle.theory.proofs.LeastUrgent.{part_unmoved}
use Rattle.theory.proofs.Removal.{without_chain, old_place, LeastUrgent, removal_no_later, removal_unmoved}

whole_demand : (t : Table) → WellFormed t → Demand3 t
whole_demand t well =
    record {
      by_ert = ert-holds t well;
      by_cja = cja-holds t well;
      by_itr = itr-holds t well;
      itr_cja = itr_le_cja t;
      cja_ert = cja_le_ert t well.ordered;
      rounds = rounds_limit t;
      settled = itr_settled t;
    }

-- all most times and the earliest releases
choice : (t : Table) → WellFormed t → (times : List ℕ) × (release : ℕ → ℕ) × (times_fit t times ≡ true) × (releases_fit t release ≡ true)
choice t well =
    let most : (u : ℕ) → u < t.count → number_at (tabulate 0 t.count t.most) u ≡ t.most u
    = (λ u l. get_d_tabulate 0 t.count t.most 0 u l ∙ ap t.most (zero-add u)) in (
      tabulate 0 t.count t.most,
      t.earliest,
      times-to t (tabulate 0 t.count t.most) (record { each = length-tabulate 0 t.count t.most; low = λ u l. omega (arith, most u l, well.range u l); high = λ u l. omega (arith, most u l) }),
      releases-to t t.earliest (record { early = λ u l. omega arith; late = λ u l. well.releases u l }),
    )

ert_limited : (js : List Job) → check_of js ≡ Ok tt → (i : ℕ) → i < (table_of js).count → number_at (ert (table_of js)) i < bound_limit
ert_limited js passed i l =
    let ok = accepted js passed in
    let limit : 4 * (max_release + max_jobs * max_time) + suc max_jobs * suc max_jobs * max_time < 4 * bound_limit = lit< tt in
    omega (arith, limit, ert_limit (table_of js) max_jobs (max_release + max_jobs * max_time) max_time ok.few (accepted_latest js ok) (accepted_most js ok) i l)

pub claims : EveryAccepted
claims js passed =
    let t = table_of js in
    let well = accepted_well js (accepted js passed) in
    record {
      demand_3 = whole_demand t well;
      rounds_determined = λ answer h. settled_unique t answer (itr t) h (itr_settled t);
      choices_exist = choice t well;
      runs_exist = run_of t;
      bounds_limited = ert_limited js passed;
      few_rounds = rounds_few t well;
      itr_least = itr_below t;
      releases_rise = releases_rise js;
      after_rises = after_rises t;
      taken_off = λ part place number h. part_no_later h well.ordered;
      least_urgent = λ part place number h less. part_unmoved h well.ordered less;
      last_round = last_round t;
      ert_delays = ert_explains t well.ordered;
      cja_delays = cja_explains t well.ordered;
      itr_delays = itr_explains t well.ordered;
    }

-- the limit on ERT's bounds holds for the others, which are at most these
pub record Limited (t : Table) : Type 0 where
  pub by_ert : (i : ℕ) → i < t.count → number_at (ert t) i < bound_limit
  pub by_cja : (i : ℕ) → i < t.count → number_at (cja t) i < bound_limit
  pub by_itr : (i : ℕ) → i < t.count → number_at (itr t).bounds i < bound_limit

pub all_limited : (js : List Job) → check_of js ≡ Ok tt → Limited (table_of js)
all_limited js passed =
    let all = claims js passed in
    record {
      by_ert = all.bounds_limited;
      by_cja = λ i l. omega (arith, all.bounds_limited i l, all.demand_3.cja_ert i l);
      by_itr = λ i l. omega (arith, all.bounds_limited i l, all.demand_3.cja_ert i l, all.demand_3.itr_cja i l);
    }

-- ---- one chain taken off a list of jobs
pub chain_taken_off : (c : ℕ) (js : List Job) → check_of js ≡ Ok tt → Compared ◌≤◌ (table_of (without_chain c js)) (table_of js) (old_place c js)
chain_taken_off c js passed = removal_no_later c js (accepted_ordered js (accepted js passed))

pub least_urgent_chain : (c : ℕ) (js : List Job) → check_of js ≡ Ok tt → LeastUrgent c js
    → Compared ◌≡◌ (table_of (without_chain c js)) (table_of js) (old_place c js)
least_urgent_chain c js passed = removal_unmoved c js (accepted_ordered js (accepted js passed))
