-- The numbers of a dump: they have few digits, and are read back from a time and from the name of a wire. Assumes nothing.
use Rattle.std.specs.Prelude.{Some}
use Prim.Native.Nat.{ℕ, ◌≤◌, ◌<◌}
use mathlib.Core.Path.{◌≡◌, refl, sym, ap, ◌∙◌}
use mathlib.Core.List.{List, [], ◌∷◌, ◌++◌, append_assoc, append-nil}
use native.Mathlib.Omega.{arith}
use lib.ListN.{length}
use lib.Seq.{drop_at}
use borrow.Author.Tests.{eq-eqb}
use Rattle.decimal.specs.Digits.{digit_count, decimal}
use Rattle.decimal.specs.Fields.{is_digit, digit_run, max_digits, number, field_of}
use Rattle.decimal.proofs.Counts.{count_within}
use Rattle.decimal.proofs.RoundTrip.{round_trip}
use Rattle.jobs.specs.declared.job.Job.{Job}
use Rattle.jobs.specs.Jobs.{job_at}
use Rattle.jobs.proofs.Accepted.{Accepted, job-place}
use Rattle.machine.specs.Ticks.{last_time}
use Rattle.dumps.specs.Dumps.{name_of}
use Rattle.dumps.specs.Readers.{number_in, job_named}

-- ---- how many digits they have
pub time_narrow : (t : ℕ) → t ≤ last_time → digit_count t ≤ max_digits
time_narrow t l = count_within 9 t (omega arith)

module _ (js : List Job) (ok : Accepted js) (u : ℕ) (l : u < length js) where
  pub chain_narrow : digit_count (job_at js u).chain ≤ 2
  chain_narrow = count_within 1 (job_at js u).chain (omega (arith, (ok.limits u l).chains))

  pub job_narrow : digit_count (job_at js u).job ≤ 3
  job_narrow = count_within 2 (job_at js u).job (omega (arith, job-place js ok u l, ok.few))

-- ---- reading them back
pub number_back : (n : ℕ) → digit_count n ≤ max_digits → number_in (decimal n) ≡ Some n
unfolding number_in digit_run
number_back n few =
    let field : field_of (decimal n) ≡ number n (digit_count n) = ap field_of (sym (append-nil (decimal n))) ∙ round_trip n [] few refl in
    rw (field, number_in, eq-eqb (digit_count n) (digit_count n) refl)

pub name_back : (chain number : ℕ) → digit_count chain ≤ max_digits → digit_count number ≤ max_digits → job_named (name_of chain number) ≡ Some (chain, number)
unfolding job_named digit_run is_digit
name_back chain number narrow few =
    let behind : List ℕ = 106 ∷ decimal number in
    let text : decimal chain ++ (106 ∷ []) ++ decimal number ≡ decimal chain ++ behind = append_assoc (decimal chain) (106 ∷ []) (decimal number) in
    rw (text, round_trip chain behind narrow refl, text, drop_at (decimal chain) behind (digit_count chain) refl, number_back number few)
