-- The definitions give what is known of each case, figure by figure and by computation; P1 is accepted, so that demand 3 holds of it. Assumes nothing.
--   settled_run     a run is what its ticks up to its end give, where all work is done after them
--   known_results   the table of cases is as the definitions have it
-- `[]` is imported for the prover's messages alone: without it they do not show which figure of a list is wrong.
use Prim.Native.Nat.{ℕ, ◌≤◌}
use mathlib.Core.Path.{◌≡◌, refl}
use mathlib.Core.Bool.{true, false}
use mathlib.Core.List.{List, [], ◌∷◌, map}
use native.Mathlib.Omega.{arith}
use lib.IntN.{pos}
use lib.ListN.{length, get_or}
use Rattle.laws.specs.Words.{sum_below, tabulate, greatest, last_of, every_below, same_up_to, number_at}
use Rattle.jobs.specs.declared.job.Job.{Job}
use Rattle.std.specs.Prelude.{Ok}
use Rattle.jobs.specs.Checks.{is_next, in_limits, record_check, records_check, check_of}
use Rattle.jobs.specs.Jobs.{job_at, urgency_of}
use Rattle.theory.specs.Table.{joined, effective_release, table_of}
use Rattle.theory.specs.Bounds.{open_block, largest_block, interference, ert_rule, interference_at, ert, demand, lowest, pair_bound, largest_pair, cja_with, cja, itr_start, overlap, round, settle, round_limit, itr, slack, slacks, meets}
use Rattle.theory.specs.Runs.{complete, predecessor_complete, ready, times_fit}
use Rattle.theory.specs.Claims.{Demand3}
use Rattle.theory.proofs.Claims.{claims}
use Rattle.machine.specs.Order.{ready_since, outranks}
use Rattle.machine.specs.Ticks.{last_time, all_complete, machine_check, better, best_up_to, pick, next}
use Rattle.machine.specs.Events.{is_event, events}
use Rattle.machine.specs.Runs.{noted, rows}
use Rattle.machine.proofs.Forward.{Carried, onward, carried, run-carried, trace_carried}
use Rattle.known_results.specs.Cases.{KnownRun, run_with, Known, known_at, Case, jobs_in, by_definition, minus, p1, p4, p5, p6, p7, p8, equals_in_order, cases}

-- ---- runs
-- what ticks carried forward give of a run
abbrev run_by : List Job → List ℕ → Carried → KnownRun
run_by js times c = (times, (tabulate 0 (length js) (λ u. get_or c.state.completions u 0), c.state.time, events (table_of js) (number_at c.state.completions) c.state.time), rows js c.spans)

settled_run : (js : List Job) (r : KnownRun) → machine_check js r.0 ≡ Ok tt → r.1.1 ≤ last_time
    → all_complete r.0 (carried (table_of js) r.0 r.1.1).state.work (length js) ≡ true
    → run_by js r.0 (carried (table_of js) r.0 r.1.1) ≡ r → run_with js r.0 ≡ r
unfolding run_with
settled_run js r passed early done known =
    rw (run-carried js r.0 passed r.1.1 early done, trace_carried js r.0 passed r.1.1 early done) known

-- all that `settled_run` asks, of each run
EachSettled : List Job → List KnownRun → Type 0
EachSettled js [] = Unit {0}
EachSettled js (r ∷ rs) =
    (machine_check js r.0 ≡ Ok tt)
    × (r.1.1 ≤ last_time)
    × (all_complete r.0 (carried (table_of js) r.0 r.1.1).state.work (length js) ≡ true)
    × (run_by js r.0 (carried (table_of js) r.0 r.1.1) ≡ r)
    × EachSettled js rs

settled_runs : (js : List Job) (rs : List KnownRun) → EachSettled js rs → map (λ (r : KnownRun). run_with js r.0) rs ≡ rs
unfolding EachSettled
settled_runs js [] each = refl
settled_runs js (r ∷ rs) each = rw (settled_run js r each.0 each.1 each.2 each.3, settled_runs js rs each.4)

-- ---- the table
-- what is known of the job at a place, by lists of ERT, CJA and ITR bounds
abbrev known_by : List Job → List ℕ → List ℕ → List ℕ → ℕ → Known
known_by js e c b i =
    (job_at js i, (table_of js).earliest i, interference_at (table_of js) i, number_at e i, number_at c i, number_at b i, get_or (tabulate 0 (length js) (λ i. slack (job_at js i).deadline (number_at b i))) i (pos 0))

known_by_lem : (js : List Job) {e c b : List ℕ} → ert (table_of js) ≡ e → cja (table_of js) ≡ c → (itr (table_of js)).bounds ≡ b → known_at js ≡ known_by js e c b
unfolding known_at slacks
known_by_lem js by_ert by_cja by_itr = λ k. known_by js (by_ert k) (by_cja k) (by_itr k)

-- the bounds of a case, as they are known
abbrev ert_in : Case → List ℕ
ert_in c = map (λ (j : Known). j.3) c.0

abbrev cja_in : Case → List ℕ
cja_in c = map (λ (j : Known). j.4) c.0

abbrev itr_in : Case → List ℕ
itr_in c = map (λ (j : Known). j.5) c.0

-- a case whose figures are known, with the bounds worked out once for all its jobs
figures : (c : Case) → check_of (jobs_in c) ≡ c.1.0 → ert (table_of (jobs_in c)) ≡ ert_in c → cja (table_of (jobs_in c)) ≡ cja_in c
    → (itr (table_of (jobs_in c))).bounds ≡ itr_in c
    → (itr (table_of (jobs_in c))).rounds ≡ c.1.1
    → tabulate 0 (length (jobs_in c)) (known_by (jobs_in c) (ert_in c) (cja_in c) (itr_in c)) ≡ c.0
    → meets (jobs_in c) (itr_in c) ≡ c.1.2
    → EachSettled (jobs_in c) c.2
    → by_definition c ≡ c
unfolding by_definition
figures c check by_ert by_cja by_itr rounds jobs verdict runs =
    rw (known_by_lem (jobs_in c) by_ert by_cja by_itr, jobs, check, rounds, by_itr, verdict, settled_runs (jobs_in c) c.2 runs)

pub first_and_rest : {A : Type 0} {x y : A} {xs ys : List A} → x ≡ y → xs ≡ ys → x ∷ xs ≡ y ∷ ys
first_and_rest e f = rw (e, f)

pub known_results : map by_definition cases ≡ cases
unfolding EachSettled urgency_of tabulate sum_below greatest last_of is_next in_limits record_check records_check check_of joined effective_release open_block largest_block interference ert_rule interference_at ert demand lowest pair_bound largest_pair cja_with cja itr_start overlap round same_up_to settle round_limit itr slacks meets every_below times_fit machine_check complete predecessor_complete ready ready_since outranks better best_up_to pick next is_event events noted rows onward carried
known_results =
    first_and_rest (figures p1 refl refl refl refl refl refl refl (refl, omega arith, refl, refl, (refl, omega arith, refl, refl, tt)))
    (first_and_rest (figures (p4 12 (pos 0) true) refl refl refl refl refl refl refl (refl, omega arith, refl, refl, tt))
    (first_and_rest (figures (p4 11 (minus 1) false) refl refl refl refl refl refl refl (refl, omega arith, refl, refl, tt))
    (first_and_rest (figures p5 refl refl refl refl refl refl refl tt)
    (first_and_rest (figures p6 refl refl refl refl refl refl refl (refl, omega arith, refl, refl, (refl, omega arith, refl, refl, tt)))
    (first_and_rest (figures p7 refl refl refl refl refl refl refl tt)
    (first_and_rest (figures p8 refl refl refl refl refl refl refl tt)
    (first_and_rest (figures equals_in_order refl refl refl refl refl refl refl (refl, omega arith, refl, refl, tt)) refl)))))))

pub p1_accepted : check_of (jobs_in p1) ≡ Ok tt
unfolding last_of is_next in_limits record_check records_check check_of
p1_accepted = refl

pub p1-demand_3 : Demand3 (table_of (jobs_in p1))
p1-demand_3 = (claims (jobs_in p1) p1_accepted).demand_3
