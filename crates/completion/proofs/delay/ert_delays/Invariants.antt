-- `ert_delays` names what each job's ERT bound comes from. The loop's invariant: the first j jobs' delays stand in the array. Assumes nothing.
use Prim.Native.Nat.{◌≤◌}
use Rattle.completion.specs.Delays.{delay_named, no_delay}
use Rattle.jobs.specs.Limits.{max_jobs}
use Rattle.laws.specs.Words.{number_at, tabulate, padded}
use Rattle.completion.proofs.Counting.{lent_by}
use Rattle.theory.specs.Delays.{ert_delay}
use mathlib.Core.Path.{◌≡◌}
use Rattle.completion.proofs.delay.ert_delays.Given as goal

abbrev pub invariant-loop-j : goal.invariant-loop-j
invariant-loop-j l =
    (l.j ≤ l.table.count) × (l.delays ≡ padded max_jobs no_delay (tabulate 0 l.j (λ i. delay_named (number_at l.numbers) (ert_delay (lent_by l.table) i))))
