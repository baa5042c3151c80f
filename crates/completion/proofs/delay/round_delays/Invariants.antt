-- `round_delays` names what each job's bound comes from. The loop's invariant: the first j jobs' delays stand in the array. Assumes nothing.
use Prim.Native.Nat.{◌≤◌}
use Rattle.completion.specs.Delays.{delay_named, no_delay}
use Rattle.jobs.specs.Limits.{max_jobs}
use Rattle.laws.specs.Words.{number_at, tabulate, padded}
use Rattle.completion.proofs.Counting.{lent_by}
use Rattle.theory.specs.Bounds.{overlap}
use Rattle.theory.specs.Delays.{delay_at}
use mathlib.Core.Path.{◌≡◌}
use Rattle.completion.proofs.delay.round_delays.Given as goal

abbrev pub invariant-loop-j : goal.invariant-loop-j
invariant-loop-j l =
    let t = lent_by l.table in
    (l.j ≤ l.table.count) × (l.delays ≡ padded max_jobs no_delay (tabulate 0 l.j (λ i. delay_named (number_at l.numbers) (delay_at t (overlap t l.bound) i))))
