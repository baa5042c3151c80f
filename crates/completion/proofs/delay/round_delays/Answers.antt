-- `round_delays` names what each job's bound comes from. The loop's invariant: the first j jobs' delays stand in the array. Assumes nothing.
use Prim.Native.Nat.{ℕ}
use Rattle.completion.proofs.Counting.{lent_by}
use Rattle.completion.proofs.Naming.{best_at}
use Rattle.completion.specs.Delays.{delay_named, no_delay}
use Rattle.completion.specs.declared.answer.Delay.{Delay}
use Rattle.completion.specs.declared.table.Table.{Table}
use Rattle.jobs.specs.Limits.{max_jobs}
use Rattle.laws.proofs.Filling.{filled_none, filled_next}
use Rattle.std.specs.Prelude.{replicate}
use Rattle.laws.specs.Words.{number_at}
use Rattle.theory.specs.Bounds.{overlap}
use Rattle.theory.specs.Delays.{delay_at}
use mathlib.Core.List.{List}
use mathlib.Core.Path.{ap, ◌∙◌}
use native.Mathlib.Omega.{arith}
use Rattle.completion.proofs.delay.round_delays.Goals as goal

-- what a job's bound comes from
abbrev delay : Table → List ℕ → List ℕ → ℕ → Delay
delay t bound numbers j = delay_named (number_at numbers) (delay_at (lent_by t) (overlap (lent_by t) bound) j)

pub loop-j-init : goal.loop-j-init
loop-j-init c =
    let a = c.args in
    (omega arith, ap (replicate max_jobs) c.none-none.ensures ∙ filled_none max_jobs no_delay (delay a.table.now a.bound.now a.numbers.now))

pub delay_at-requires : goal.delay_at-requires
delay_at-requires c =
    let a = c.args in
    let h = c.loop-j-test.true in
    (h, best_at (lent_by a.table.now) a.bound.now a.best.now c.requires c.loop-j.j h)

pub loop-j-preserved : goal.loop-j-preserved
loop-j-preserved c =
    let a = c.args in
    let l = c.loop-j in
    (omega arith, filled_next max_jobs no_delay (delay a.table.now a.bound.now a.numbers.now) l.j l.delays _ (omega (arith, a.table.now.fit.few)) l.invariant.1 c.delay_at.ensures)
