-- `trace` meets its contract. Assumes nothing.
use Rattle.std.specs.Prelude.{Result, Ok}
use Rattle.std.proofs.lemmas.Result.{err_from_is_err_and}
use Rattle.jobs.proofs.Sets.{length_jobs}
use Rattle.jobs.specs.Jobs.{jobs_of}
use Rattle.laws.specs.Words.{patched}
use Rattle.machine.proofs.Alike.{spans_alike, steps_alike}
use Rattle.machine.proofs.Runnable.{shown_alike, shown_runnable}
use Rattle.machine.proofs.RunningTimes.{set_accepted}
use Rattle.machine.proofs.Ticking.{Prepared, each_counted, few_times}
use Rattle.machine.proofs.Tracing.{traced-length, trace_refused, trace_short, trace_written}
use Rattle.machine.specs.Runs.{steps_of, spans, rows, traced}
use Rattle.machine.specs.Ticks.{last_time}
use Rattle.machine.specs.declared.trace.Traced.{Traced}
use Rattle.jobs.specs.declared.refusal.Refusal.{Refusal}
use Rattle.machine.specs.declared.trace.Span.{Span}
use Rattle.theory.proofs.Columns.{shown}
use Rattle.theory.specs.Table.{table_of}
use mathlib.Core.List.{List}
use mathlib.Core.Path.{◌≡◌, sym, ap, ◌∙◌}
use lib.ListN.{length}
use native.Mathlib.Omega.{arith}
use Rattle.jobs.specs.declared.set.JobSet.{JobSet}
use Prim.Native.Nat.{ℕ}
use Rattle.machine.proofs.trace.trace.Goals as goal

-- the columns are those of the set
module _ (set : JobSet) (columns : List (List ℕ)) (times : List ℕ) (p : Prepared set columns times) where
  -- the run that the columns show is that of the set
  spans-same : spans (shown (length times) columns) times last_time ≡ traced (jobs_of set) times
  spans-same = spans_alike (shown_alike set columns times p) (each_counted set columns times p) (length_jobs set) times last_time

  steps-same : steps_of (shown (length times) columns) times ≡ steps_of (table_of (jobs_of set)) times
  steps-same = steps_alike (shown_alike set columns times p) (each_counted set columns times p) (length_jobs set) times

pub returns-in_err-check_times : goal.returns-in_err-check_times
returns-in_err-check_times c =
    let e = trace_refused (jobs_of c.args.set) _ _ _ (sym c.check_times.ensures ∙ c.in_err-check_times.was) in
    let p = err_from_is_err_and c.from_residual.result c.from_residual.ensures.1 in
    (rw (p.1, p.2) (sym e.0), sym e.1)

pub overflow_mul-set : goal.overflow_mul-set
overflow_mul-set c =
    let set = c.args.set in
    omega (arith, length_jobs set, (set_accepted (jobs_of set) _ (sym c.check_times.ensures ∙ c.in_ok-check_times.was)).few)

pub returns-then-out-set : goal.returns-then-out-set
returns-then-out-set c =
    let a = c.args in
    let e = trace_short (jobs_of a.set) a.times.now a.out.now (sym c.check_times.ensures ∙ c.in_ok-check_times.was) (omega (arith, length_jobs a.set, c.if-out-set.true)) in
    (sym e.0, sym e.1)

pub columns_of-columns-requires : goal.columns_of-columns-requires
columns_of-columns-requires c = set_accepted _ _ (sym c.check_times.ensures ∙ c.in_ok-check_times.was)

pub invariant_of-jobs : goal.invariant_of-jobs
invariant_of-jobs c = record { few = few_times (jobs_of c.args.set) _ (sym c.check_times.ensures ∙ c.in_ok-check_times.was) }

pub write_entries-requires : goal.write_entries-requires
write_entries-requires c =
    let p : Prepared c.args.set c.columns_of-columns.result c.args.times.now = (sym c.check_times.ensures ∙ c.in_ok-check_times.was, c.columns_of-columns.ensures) in
    let each = each_counted c.args.set c.columns_of-columns.result _ p in
    (shown_runnable c.args.set c.columns_of-columns.result _ p, each, omega (arith, each, c.if-out-set.false))

pub shape_of-out : goal.shape_of-out
shape_of-out c =
    let a = c.args in
    let passed = sym c.check_times.ensures ∙ c.in_ok-check_times.was in
    rw (c.write_entries.ensures.1, spans-same a.set c.columns_of-columns.result a.times.now (passed, c.columns_of-columns.ensures))
    (traced-length (jobs_of a.set) _ _ passed (omega (arith, length_jobs a.set, c.if-out-set.false)))

pub returns : goal.returns
returns c =
    let a = c.args in
    let passed = sym c.check_times.ensures ∙ c.in_ok-check_times.was in
    let wrote = c.write_entries.ensures in
    let e = trace_written (jobs_of a.set) a.times.now a.out.now passed (omega (arith, length_jobs a.set, c.if-out-set.false)) in (
      ap (λ (k : Traced). let r : Result Traced Refusal = Ok k in r) wrote.0
          ∙ rw (spans-same a.set c.columns_of-columns.result a.times.now (passed, c.columns_of-columns.ensures), steps-same a.set c.columns_of-columns.result a.times.now (passed, c.columns_of-columns.ensures)) (sym e.0),
      wrote.1
          ∙ ap (λ (ss : List Span). patched a.out.now 0 (rows (jobs_of a.set) ss)) (spans-same a.set c.columns_of-columns.result a.times.now (passed, c.columns_of-columns.ensures))
          ∙ sym e.1,
    )
