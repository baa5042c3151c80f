-- What a joined set comes to: the check of the joining, and an accepted set where it passes. Assumes nothing.
use Prim.Native.Nat.{ℕ, ◌+◌}
use mathlib.Core.Path.{◌≡◌, refl, sym, ap, ◌∙◌}
use mathlib.Core.List.{List, [], ◌∷◌, ◌++◌}
use native.Mathlib.Omega.{arith}
use lib.ListN.{length-append}
use Rattle.laws.specs.Words.{last_of}
use Rattle.jobs.specs.declared.job.Job.{Job}
use Rattle.jobs.specs.declared.set.JobSet.{JobSet}
use Rattle.std.specs.Prelude.{Result, ⊤, Ok, Err}
use Rattle.jobs.specs.Refusals.{on_pass}
use Rattle.jobs.specs.Jobs.{no_job, jobs_of, set_of}
use Rattle.jobs.specs.Checks.{records_check, any_record, check_of}
use Rattle.jobs.specs.Joins.{numbered, with_chain, join_check, join_of}
use Rattle.jobs.proofs.Sets.{jobs_set}
use Rattle.jobs.proofs.Checks.{then_first, then_second, any_some, check_passed}
use Rattle.jobs.proofs.Joins.{length-numbered}
use Rattle.jobs.specs.declared.refusal.Refusal.{Refusal}

-- where there is a new record there is one in all
any_joined : (old new : List Job) → any_record new ≡ Ok tt → any_record (with_chain old new) ≡ Ok tt
unfolding with_chain
any_joined old [] e = let z : ◌≡◌ {A = ℕ} 0 1 = cc in absurd (omega arith)
any_joined old (j ∷ js) e =
    let c = (last_of no_job old).chain + 1 in
    any_some (old ++ numbered c 1 (j ∷ js)) (omega (arith, length-append old (numbered c 1 (j ∷ js)), length-numbered c 1 (j ∷ js)))

join_passes : (old new : List Job) → join_check old new ≡ Ok tt → check_of (with_chain old new) ≡ Ok tt
unfolding join_check
join_passes old new e =
    check_passed (with_chain old new) (Ok tt)
    (then_first (records_check [] (with_chain old new)) (any_record new) e)
    (any_joined old new (then_second (records_check [] (with_chain old new)) (any_record new) e))

-- the answer to a join, by its check
refused_by : (k : Result ⊤ Refusal) (set : JobSet) (x : Refusal) → on_pass k Err (Ok set) ≡ Err x → k ≡ Err x
refused_by (Ok tt) set x e = let z : ◌≡◌ {A = ℕ} 0 1 = cc in absurd (omega arith)
refused_by (Err y) set x e = let z : y ≡ x = cc in ap Err z

passed_by : (k : Result ⊤ Refusal) (set joined : JobSet) → on_pass k Err (Ok set) ≡ Ok joined → (k ≡ Ok tt) × (joined ≡ set)
passed_by (Ok tt) set joined e = (refl, cc)
passed_by (Err y) set joined e = let z : ◌≡◌ {A = ℕ} 0 1 = cc in absurd (omega arith)

module _ (old new : JobSet) (answer : Result JobSet Refusal) (is : answer ≡ join_of old new) where
  pub joined_refused : (x : Refusal) → answer ≡ Err x → join_check (jobs_of old) (jobs_of new) ≡ Err x
  unfolding join_of
  joined_refused x e = refused_by (join_check (jobs_of old) (jobs_of new)) (set_of (with_chain (jobs_of old) (jobs_of new))) x (sym is ∙ e)

  module _ (joined : JobSet) (told : answer ≡ Ok joined) where
    joined_is : (join_check (jobs_of old) (jobs_of new) ≡ Ok tt) × (joined ≡ set_of (with_chain (jobs_of old) (jobs_of new)))
    unfolding join_of
    joined_is = passed_by (join_check (jobs_of old) (jobs_of new)) (set_of (with_chain (jobs_of old) (jobs_of new))) joined (sym is ∙ told)

    pub joined_passes : join_check (jobs_of old) (jobs_of new) ≡ Ok tt
    joined_passes = joined_is.0

    pub joined-set : joined ≡ set_of (with_chain (jobs_of old) (jobs_of new))
    joined-set = joined_is.1

    pub joined_jobs : jobs_of joined ≡ with_chain (jobs_of old) (jobs_of new)
    joined_jobs = ap jobs_of joined-set ∙ jobs_set (with_chain (jobs_of old) (jobs_of new))

    pub joined_accepted : check_of (jobs_of joined) ≡ Ok tt
    joined_accepted = ap check_of joined_jobs ∙ join_passes (jobs_of old) (jobs_of new) joined_passes
