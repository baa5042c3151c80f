-- With 12, 13 and 14 read as 6, records and sets are checked as with one number for all values. Assumes nothing.
use Prim.Native.Nat.{ℕ}
use mathlib.Core.Path.{◌≡◌, refl, sym, ap, ap₂, ◌∙◌}
use mathlib.Core.Bool.{Bool, true, false, ◌&&◌}
use mathlib.Core.List.{List, [], ◌∷◌, ◌++◌, append_assoc, append-nil}
use native.Mathlib.Omega.{arith}
use lib.Dec.{leb, ltb}
use lib.ListN.{length}
use Rattle.laws.specs.Words.{last_of}
use Rattle.jobs.specs.declared.job.Job.{Job}
use Rattle.jobs.specs.declared.refusal.Refusal.TheVariants.{TooManyRecords, OutOfOrder, OutOfLimits, PriorityOutOfLimits, LeastOrMostOutOfLimits, LeastAboveMost}
use Rattle.std.specs.Prelude.{Result, ⊤, Ok, Err}
use Rattle.jobs.specs.Limits.{max_jobs, max_priority}
use Rattle.jobs.specs.Refusals.{unless, and_then}
use Rattle.jobs.specs.Checks.{is_next, in_limits, times_in_limits, values_check, record_check, records_check, any_record, check_of}
use Rattle.jobs.specs.Claims.{within_limits, plain_check, check_by, as_six}
use Rattle.jobs.specs.Jobs.{no_job}
use Rattle.jobs.proofs.Checks.{then_then, next_check}
use Rattle.jobs.proofs.Limits.{four_as_one}
use Rattle.jobs.specs.declared.refusal.Refusal.{Refusal}

-- ---- a record
-- the tests of the values, in their order
by_values : (a b c d : Bool)
    → as_six (unless a OutOfLimits (unless b PriorityOutOfLimits (unless c LeastOrMostOutOfLimits (unless d LeastAboveMost (Ok tt)))))
    ≡ unless (a && b && c && d) OutOfLimits (Ok tt)
by_values true true true true = refl
by_values true true true false = refl
by_values true true false d = refl
by_values true false c d = refl
by_values false b c d = refl

values-as_six : (j : Job) → as_six (values_check j) ≡ unless (within_limits j) OutOfLimits (Ok tt)
values-as_six j =
    by_values (in_limits j) (leb j.priority max_priority) (times_in_limits j) (leb j.least j.most)
    ∙ ap (λ (b : Bool). unless b OutOfLimits (Ok tt)) (four_as_one j)

-- the tests before them
by_place : (a b : Bool) (values : Result ⊤ Refusal)
    → as_six (unless a TooManyRecords (unless b OutOfOrder values)) ≡ unless a TooManyRecords (unless b OutOfOrder (as_six values))
by_place true true values = refl
by_place true false values = refl
by_place false b values = refl

pub record_as_six : (n : ℕ) (last j : Job) → as_six (record_check n last j) ≡ plain_check n last j
unfolding record_check
record_as_six n last j =
    by_place (ltb n max_jobs) (is_next n last j) (values_check j)
    ∙ ap (λ (values : Result ⊤ Refusal). unless (ltb n max_jobs) TooManyRecords (unless (is_next n last j) OutOfOrder values)) (values-as_six j)

-- a check that passes when read so, passes
pub six_passed : (check : Result ⊤ Refusal) → as_six check ≡ Ok tt → check ≡ Ok tt
six_passed (Ok tt) e = refl
six_passed (Err refusal) e = let z : ◌≡◌ {A = ℕ} 0 1 = cc in absurd (omega arith)

-- ---- a set
then_six : (a b : Result ⊤ Refusal) → as_six (and_then a b) ≡ and_then (as_six a) (as_six b)
then_six (Ok tt) b = refl
then_six (Err refusal) b = refl

any_six : (js : List Job) → as_six (any_record js) ≡ any_record js
any_six [] = refl
any_six (j ∷ js) = refl

records_as_six : (before js : List Job) → as_six (and_then (records_check before js) (any_record (before ++ js))) ≡ check_by plain_check before js
unfolding records_check check_by
records_as_six before [] = any_six (before ++ []) ∙ ap any_record (append-nil before)
records_as_six before (j ∷ js) =
    let check = next_check before j in
    let later = records_check (before ++ (j ∷ [])) js in
    let rest = and_then later (any_record (before ++ (j ∷ js))) in
    let onward : as_six rest ≡ check_by plain_check (before ++ (j ∷ [])) js
    = ap (λ (all : List Job). as_six (and_then later (any_record all))) (sym (append_assoc before (j ∷ []) js)) ∙ records_as_six (before ++ (j ∷ [])) js in
    ap as_six (then_then check later (any_record (before ++ (j ∷ js)))) ∙ then_six check rest ∙ ap₂ and_then (record_as_six (length before) (last_of no_job before) j) onward

pub set_as_six : (js : List Job) → as_six (check_of js) ≡ check_by plain_check [] js
unfolding check_of
set_as_six js = records_as_six [] js
