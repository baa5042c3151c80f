-- What follows from the bounds; unused places are 0. Document 01, "Bounds", the refusals of a set and of admission, number 10, and document 02, R-3.
-- Assumes nothing.
use Rattle.std.specs.Prelude.{Result, Ok, Err, Option, None, Some, Bool, true, false, ℕ, ℤ, pos, cond, List, [], eqb}
use Rattle.laws.specs.Words.{padded}
use Rattle.jobs.specs.declared.{job.Job.Job, set.JobSet.JobSet, refusal.Refusal.Refusal}
use Rattle.jobs.specs.{Limits.max_jobs, Refusals.on_pass, Jobs.jobs_of, Jobs.set_of, Checks.check_of, Joins.with_chain, Joins.join_check}
use Rattle.theory.specs.{Table.table_of, Bounds.ert, Bounds.cja, Bounds.itr, Bounds.slacks, Bounds.meets, Delays.ert_delay, Delays.cja_delay, Delays.itr_delay}
use Rattle.completion.specs.{declared.answer.Bounds.Bounds, declared.answer.Delay.Delay, Delays.no_delay, Delays.delays_named}
use Rattle.analysis.specs.declared.{answer.Figures.Figures, answer.Admission.Admission}

-- Each job's deadline less its ITR bound.
unfoldable pub slacks_of : JobSet → Result (List ℤ) Refusal
slacks_of set = let js = jobs_of set in on_pass (check_of js) Err (Ok (padded max_jobs (pos 0) (slacks js)))

-- The three bounds, the rounds and the slacks in one.
unfoldable pub figures_of : JobSet → Result Figures Refusal
figures_of set =
    let js = jobs_of set in
    let t = table_of js in
    on_pass (check_of js) Err
    (Ok (record {
      ert = padded max_jobs 0 (ert t);
      cja = padded max_jobs 0 (cja t);
      itr = padded max_jobs 0 (itr t).bounds;
      rounds = (itr t).rounds;
      slacks = padded max_jobs (pos 0) (slacks js);
    }))

-- The bounds of accepted jobs by 1 ERT, 2 CJA or 3 ITR, and none by another algorithm.
unfoldable pub bounds_by : List Job → ℕ → Option (List ℕ)
bounds_by js algorithm =
    cond (eqb algorithm 1) (Some (ert (table_of js)))
    (cond (eqb algorithm 2) (Some (cja (table_of js)))
    (cond (eqb algorithm 3) (Some (itr (table_of js)).bounds)
    None))

-- What the bounds of accepted jobs come from by the same algorithms, and nothing by another.
unfoldable pub delays_by : List Job → ℕ → List Delay
delays_by js algorithm =
    cond (eqb algorithm 1) (delays_named js (ert_delay (table_of js)))
    (cond (eqb algorithm 2) (delays_named js (cja_delay (table_of js)))
    (cond (eqb algorithm 3) (delays_named js (itr_delay (table_of js)))
    []))

-- What is made of the bounds by an algorithm, or of number 10 where it has none.
abbrev pub on_bounds : {A : Type 0} → Option (List ℕ) → (Refusal → A) → (List ℕ → A) → A
on_bounds None otherwise answer = otherwise Refusal.UnknownAlgorithm
on_bounds (Some bounds) otherwise answer = answer bounds

-- The bounds of a set by an algorithm; its own refusals come first, then 10.
unfoldable pub bounds_of : JobSet → ℕ → Result Bounds Refusal
bounds_of set algorithm =
    let js = jobs_of set in
    on_pass (check_of js) Err
    (on_bounds (bounds_by js algorithm) Err (λ bounds. Ok (record { bounds = padded max_jobs 0 bounds; delays = padded max_jobs no_delay (delays_by js algorithm) })))

-- The verdict on accepted jobs by an algorithm: yes where each bound is at or before its job's deadline.
unfoldable pub verdict_by : List Job → ℕ → Result Bool Refusal
verdict_by js algorithm = on_bounds (bounds_by js algorithm) Err (λ bounds. Ok (meets js bounds))

-- The verdict on a set; its own refusals come first.
unfoldable pub verdict_of : JobSet → ℕ → Result Bool Refusal
verdict_of set algorithm = on_pass (check_of (jobs_of set)) Err (verdict_by (jobs_of set) algorithm)

-- A further chain is admitted where the verdict on the joined jobs is yes; else the old set stays. What refuses the joining comes before number 10.
unfoldable pub admission_of : JobSet → JobSet → ℕ → Admission
admission_of old new algorithm =
    let joined = with_chain (jobs_of old) (jobs_of new) in
    let verdict = on_pass (join_check (jobs_of old) (jobs_of new)) Err (verdict_by joined algorithm) in
    record { verdict = verdict; set = elim verdict [ Ok true ↦ set_of joined | Ok false ↦ old | Err refusal ↦ old ] }
