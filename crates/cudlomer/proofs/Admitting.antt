-- A set that a chain is admitted to has no more jobs than a set may have. Assumes nothing.
use Rattle.std.specs.Prelude.{Result, Ok, Err, Bool, true, false, ⊤}
use Prim.Native.Nat.{ℕ, ◌≤◌}
use mathlib.Core.Path.{◌≡◌, refl, sym, ap, ◌∙◌}
use mathlib.Core.List.{[]}
use native.Mathlib.Omega.{arith}
use lib.ListN.{length}
use Rattle.jobs.specs.declared.set.JobSet.{JobSet}
use Rattle.jobs.specs.Limits.{max_jobs}
use Rattle.jobs.specs.Refusals.{on_pass}
use Rattle.jobs.specs.Jobs.{jobs_of, set_of}
use Rattle.jobs.specs.Checks.{records_check, any_record}
use Rattle.jobs.specs.Joins.{with_chain, join_check}
use Rattle.jobs.proofs.Sets.{count_set}
use Rattle.jobs.proofs.Checks.{then_first}
use Rattle.jobs.proofs.Accepted.{records_few}
use Rattle.analysis.specs.declared.answer.Admission.{Admission}
use Rattle.analysis.specs.Answers.{verdict_by, admission_of}
use Rattle.jobs.specs.declared.refusal.Refusal.{Refusal}

-- yes is said of a joining that passes
yes_passes : (k : Result ⊤ Refusal) (verdict : Result Bool Refusal) → on_pass k Err verdict ≡ Ok true → k ≡ Ok tt
yes_passes (Ok tt) verdict e = refl
yes_passes (Err refusal) verdict e = let z : ◌≡◌ {A = ℕ} 0 1 = cc in absurd (omega arith)

abbrev set_by : Result Bool Refusal → JobSet → JobSet → JobSet
set_by verdict old joined = elim verdict [ Ok true ↦ joined | Ok false ↦ old | Err refusal ↦ old ]

pub admitted_few : (old new : JobSet) (algorithm : ℕ) (answer : Admission) → answer ≡ admission_of old new algorithm → answer.verdict ≡ Ok true → answer.set.count ≤ max_jobs
unfolding admission_of join_check
admitted_few old new algorithm answer e said-yes =
    let joined = with_chain (jobs_of old) (jobs_of new) in
    let said = ap (λ (a : Admission). a.verdict) (sym e) ∙ said-yes in
    let passed = yes_passes (join_check (jobs_of old) (jobs_of new)) (verdict_by joined algorithm) said in
    let is : answer.set.count ≡ length joined = ap (λ (a : Admission). a.set.count) e ∙ ap (λ (v : Result Bool Refusal). (set_by v old (set_of joined)).count) said ∙ count_set joined in
    omega (arith, is, records_few joined (then_first (records_check [] joined) (any_record (jobs_of new)) passed))
