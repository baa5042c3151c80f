-- `advance` meets its contract. Assumes nothing.
use Prim.Native.Nat.{◌+◌, ◌<◌, ◌≤◌}
use Rattle.jobs.proofs.Sets.{length_jobs}
use Rattle.jobs.specs.Jobs.{jobs_of}
use Rattle.jobs.specs.Limits.{max_jobs, max_time}
use Rattle.machine.proofs.RunningTimes.{times_brief}
use Rattle.machine.proofs.Ticking.{passed_early, passed_within, advance_none, advance_room, advance_inside, advance_work, advance_ran, advance_all, tick_finished, tick_idle}
use Rattle.theory.specs.Table.{table_of}
use lib.ListN.{length, get_or}
use mathlib.Core.Path.{◌≡◌, sym, ◌∙◌}
use native.Mathlib.Omega.{arith}
use Rattle.jobs.specs.declared.set.JobSet.{JobSet}
use Rattle.std.specs.Prelude.{Ok, Some}
use Rattle.machine.specs.declared.state.State.{State}
use Rattle.machine.specs.declared.pick.Best.{Best}
use Rattle.machine.specs.Ticks.{best_up_to, state_check}
use Rattle.machine.proofs.Ticking.{Prepared, each_counted}
use Rattle.theory.proofs.Columns.{seen}
use mathlib.Core.List.{List}
use Prim.Native.Nat.{ℕ}
use Rattle.machine.proofs.step.advance.Goals as goal

-- what is known where the scan found a job
works : (set : JobSet) (columns : List (List ℕ)) (times : List ℕ) (s : State) (p : Prepared set columns times) → state_check (table_of (jobs_of set)) times s ≡ Ok tt
    → {best : Best} → Some best ≡ best_up_to (seen columns) times s (length times) → (best.at < max_jobs) × (best.at < length times) × (get_or s.work best.at 0 + 1 ≤ max_time)
works set columns times s p passed {best} e =
    let inside = advance_inside set columns times p s best e in
    let known : best.at < length times = omega (arith, inside, each_counted set columns times p) in
    let left = advance_work set columns times p s best e (passed_within (table_of (jobs_of set)) times s passed best.at (omega (arith, inside, length_jobs set))) in
    (advance_room set columns times p s best e, known, omega (arith, left, (times_brief _ _ p.0).1 _ known))

pub overflow_add-next : goal.overflow_add-next
overflow_add-next c = omega (arith, passed_early _ _ _ c.requires.1)

pub work_on-requires : goal.work_on-requires
work_on-requires c = works c.args.set c.args.jobs.columns.now _ _ c.requires.0 c.requires.1 (sym c.in-Some.is ∙ c.best_of.ensures)

pub offset_bounds-set-best : goal.offset_bounds-set-best
offset_bounds-set-best c = omega (arith, (works c.args.set c.args.jobs.columns.now _ _ c.requires.0 c.requires.1 (sym c.in-Some.is ∙ c.best_of.ensures)).0)

pub bounds-set-best : goal.bounds-set-best
bounds-set-best c = (works c.args.set c.args.jobs.columns.now _ _ c.requires.0 c.requires.1 (sym c.in-Some.is ∙ c.best_of.ensures)).0

pub returns-in-Some : goal.returns-in-Some
returns-in-Some c = rw c.work_on.ensures (sym (advance_ran c.args.set c.args.jobs.columns.now c.args.jobs.times.now c.requires.0 c.args.state _ (sym c.in-Some.is ∙ c.best_of.ensures)))

pub returns-then-are_complete : goal.returns-then-are_complete
returns-then-are_complete c =
    let whole = advance_all c.args.set c.args.jobs.columns.now c.args.jobs.times.now c.requires.0 c.args.state _ (sym c.are_complete.ensures ∙ c.if-are_complete.true) in
    sym (tick_finished (jobs_of c.args.set) _ _ whole)

pub returns : goal.returns
returns c =
    let none = advance_none c.args.set c.args.jobs.columns.now c.args.jobs.times.now c.requires.0 c.args.state (sym c.in_default.is ∙ c.best_of.ensures) in
    let left = advance_all c.args.set c.args.jobs.columns.now c.args.jobs.times.now c.requires.0 c.args.state _ (sym c.are_complete.ensures ∙ c.if-are_complete.false) in
    sym (tick_idle (jobs_of c.args.set) _ _ none left)
