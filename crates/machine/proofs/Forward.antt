-- A run carried forward from one tick to the next: its state and spans together, so that a run of n ticks is computed in n steps.
-- Assumes nothing of the table; of a set, that it and its running times have passed.
--   Carried         what is known after some ticks
--   carried         the same after n ticks
--   run-carried     where all work is done after n ticks, the answer of the run
--   trace_carried   the same of the trace
use Prim.Native.Nat.{ℕ, zero, suc, ◌≤◌}
use mathlib.Core.Path.{◌≡◌, refl, sym, ap, ◌∙◌}
use mathlib.Core.Bool.{true}
use mathlib.Core.List.{List, []}
use lib.ListN.{length}
use Rattle.jobs.specs.declared.job.Job.{Job}
use Rattle.std.specs.Prelude.{Result, Ok}
use Rattle.jobs.specs.declared.refusal.Refusal.{Refusal}
use Rattle.theory.specs.Table.{Table, table_of}
use Rattle.machine.specs.declared.state.State.{State}
use Rattle.machine.specs.declared.run.Completed.{Completed}
use Rattle.machine.specs.declared.trace.Span.{Span}
use Rattle.machine.specs.Ticks.{last_time, start, all_complete, machine_check, pick, next}
use Rattle.machine.specs.Runs.{after, entry, run_of, noted, spans, traced}
use Rattle.machine.proofs.Runnable.{run_passed, runnable}
use Rattle.machine.proofs.Running.{at_limit}
use Rattle.machine.proofs.Steps.{answer_by, completed_settled}
use Rattle.machine.proofs.Tracing.{spans_settled}

pub record Carried : Type 0 where
  pub state : State
  pub spans : List Span

-- tick n
unfoldable pub onward : Table → List ℕ → ℕ → Carried → Carried
onward t times n c =
    let e = pick t times c.state in
    record { state = next t times c.state; spans = noted c.spans n e }

unfoldable pub carried : Table → List ℕ → ℕ → Carried
carried t times zero = record { state = start; spans = [] }
carried t times (suc n) = onward t times n (carried t times n)

module _ (t : Table) (times : List ℕ) where
  pub carried-state : (n : ℕ) → (carried t times n).state ≡ after t times n
  unfolding carried onward after
  carried-state zero = refl
  carried-state (suc n) = ap (next t times) (carried-state n)

  carried-entry : (n : ℕ) → pick t times (carried t times n).state ≡ entry t times n
  unfolding entry
  carried-entry n = ap (pick t times) (carried-state n)

  pub carried-spans : (n : ℕ) → (carried t times n).spans ≡ spans t times n
  unfolding carried onward spans
  carried-spans zero = refl
  carried-spans (suc n) = rw (carried-spans n, carried-entry n)

module _ (js : List Job) (times : List ℕ) (passed : machine_check js times ≡ Ok tt) where
  abbrev t : Table
  t = table_of js

  module _ (n : ℕ) (early : n ≤ last_time) (done : all_complete times (carried t times n).state.work (length js) ≡ true) where
    settled : all_complete times (after t times n).work (length js) ≡ true
    settled = rw (carried-state t times n) at done

    pub run-carried : run_of js times ≡ Ok (answer_by t (carried t times n).state)
    run-carried = run_passed js times passed ∙ ap (λ (k : Completed). let r : Result Completed Refusal = Ok k in r) (completed_settled (runnable js times passed) n settled early ∙ ap (answer_by t) (sym (carried-state t times n)))

    pub trace_carried : traced js times ≡ (carried t times n).spans
    trace_carried = at_limit (spans t times) n (spans_settled t times n settled) early ∙ sym (carried-spans t times n)
