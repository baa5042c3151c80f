-- A runnable table: what the checks 4 to 8 establish for the engine.
--   runnable         a set and running times that have passed are runnable
--   runnable_alike   so is a table that agrees with a runnable one
--   shown_runnable   so is the table that the columns of their set show
--   times_short      what adding up its running times asks for
--   work_limit       how much work there is at most
--   goes             the course of its run
--   run-complete     all is complete in the end
--   run_early        which comes before the limit on times
-- Assumes nothing.
use Prim.Native.Nat.{ℕ, ◌*◌, ◌≤◌, ◌<◌}
use mathlib.Core.Path.{◌≡◌, sym, ◌∙◌}
use mathlib.Core.Bool.{true}
use mathlib.Core.List.{List}
use native.Mathlib.Omega.{arith}
use lib.ListN.{length, get_or}
use Rattle.jobs.specs.declared.job.Job.{Job}
use Rattle.jobs.specs.declared.set.JobSet.{JobSet}
use Rattle.jobs.specs.declared.refusal.Refusal.{Refusal}
use Rattle.std.specs.Prelude.{Ok, Err, sum, ◌^◌}
use Rattle.jobs.specs.Limits.{max_jobs, max_time}
use Rattle.jobs.specs.Jobs.{jobs_of}
use Rattle.jobs.proofs.Sets.{length_jobs}
use Rattle.theory.specs.Table.{Table, table_of}
use Rattle.theory.proofs.Columns.{Alike, shown}
use Rattle.theory.proofs.Releases.{earliest_latest}
use Rattle.theory.proofs.AcceptedSets.{accepted_latest}
use Rattle.machine.specs.Ticks.{last_time, all_complete, machine_check}
use Rattle.machine.specs.Runs.{after, finish, run_of}
use Rattle.theory.proofs.Runnable.{last_release, Runnable}
use Rattle.machine.proofs.Alike.{completed_of}
use Rattle.machine.proofs.RunningTimes.{sum_of, sum_whole, set_accepted, times-in_range, times-each, times_brief, sum_limit}
use Rattle.machine.proofs.Ticking.{Prepared, each_counted}
use Rattle.machine.proofs.Course.{all_sum, Going, going, going_ends}

-- ---- what the checks decide
pub run_refused : (js : List Job) (times : List ℕ) (r : Refusal) → machine_check js times ≡ Err r
    → run_of js times ≡ Err r
unfolding run_of
run_refused js times r e = rw e

pub run_passed : (js : List Job) (times : List ℕ) → machine_check js times ≡ Ok tt → run_of js times ≡ Ok (completed_of (table_of js) times)
unfolding run_of
run_passed js times e = rw e

pub runnable : (js : List Job) (times : List ℕ) → machine_check js times ≡ Ok tt → Runnable (table_of js) times
runnable js times passed =
    let accepted = set_accepted js times passed in
    record {
      few = accepted.few;
      released = λ u l. omega (arith, earliest_latest js u, accepted_latest js accepted u l);
      each = times-each js times passed;
      positive = λ u l. omega (arith, (times-in_range js times passed).low u l, (accepted.limits u l).positive);
      brief = λ u l. (times_brief js times passed).1 u (omega (arith, times-each js times passed));
    }

pub runnable_alike : {a b : Table} {n : ℕ} (times : List ℕ) → Alike a b n → a.count ≡ n → b.count ≡ n → Runnable b times → Runnable a times
runnable_alike times same left right r =
    record {
      few = omega (arith, r.few);
      released = λ u l. omega (arith, same.release u (omega arith), r.released u (omega arith));
      each = r.each ∙ right ∙ sym left;
      positive = λ u l. r.positive u (omega arith);
      brief = λ u l. r.brief u (omega arith);
    }

-- the table that the columns of a set show
module _ (set : JobSet) (columns : List (List ℕ)) (times : List ℕ) (p : Prepared set columns times) where
  pub shown_alike : Alike (shown (length times) columns) (table_of (jobs_of set)) set.count
  shown_alike = record { chain = p.1.chain; urgency = p.1.urgency; release = p.1.release }

  pub shown_runnable : Runnable (shown (length times) columns) times
  shown_runnable = runnable_alike times shown_alike (each_counted set columns times p) (length_jobs set) (runnable (jobs_of set) times p.0)

module _ {t : Table} {times : List ℕ} (r : Runnable t times) where
  pub times_short : (length times ≤ max_jobs) × ((i : ℕ) → i < length times → get_or times i 0 ≤ max_time)
  times_short = (omega (arith, r.each, r.few), λ i l. r.brief i (omega (arith, r.each)))

  pub sum_short : sum times < 2 ^ 64
  sum_short = omega (arith, sum_whole times, sum_limit times times_short.1 (length times) (omega arith), times_short.0)

  pub work_limit : sum_of times t.count ≤ max_jobs * max_time
  work_limit = omega (arith, sum_limit times times_short.1 t.count (omega (arith, r.each)), r.few)

  pub goes : (n : ℕ) → Going t times last_release r.few r.released n (after t times n)
  goes = going t times last_release r.few r.released

  pub run-complete : all_complete times (finish t times).work t.count ≡ true
  run-complete = going_ends t times last_release r.few r.released last_time (omega (arith, work_limit))

  pub run_early : (finish t times).time < last_time
  run_early = omega (arith, (goes last_time).early, all_sum times (finish t times).work t.count run-complete, work_limit)
