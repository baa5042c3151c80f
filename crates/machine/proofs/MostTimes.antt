-- The machine takes the most times of an accepted set. Assumes nothing.
use mathlib.Core.Bool.{true}
use mathlib.Core.List.{List}
use mathlib.Core.Path.{◌≡◌}
use native.Mathlib.Omega.{arith}
use Rattle.jobs.specs.declared.job.Job.{Job}
use Rattle.std.specs.Prelude.{Ok}
use Rattle.jobs.specs.Jobs.{most_times}
use Rattle.jobs.specs.Checks.{check_of}
use Rattle.jobs.proofs.Accepted.{accepted}
use Rattle.jobs.proofs.MostTimes.{length_most, most_at_lem}
use Rattle.theory.specs.Table.{table_of}
use Rattle.theory.specs.Runs.{times_fit}
use Rattle.theory.proofs.Legal.{times-to}
use Rattle.machine.specs.Ticks.{machine_check}
use Rattle.machine.proofs.RunningTimes.{times_passed}

module _ (js : List Job) (passed : check_of js ≡ Ok tt) where
  most_fit : times_fit (table_of js) (most_times js) ≡ true
  most_fit =
      times-to (table_of js) (most_times js)
      (record {
        each = length_most js;
        low = λ i l. omega (arith, most_at_lem js i, ((accepted js passed).limits i l).range);
        high = λ i l. omega (arith, most_at_lem js i);
      })

  pub most_passed : machine_check js (most_times js) ≡ Ok tt
  most_passed = times_passed js (most_times js) most_fit passed
