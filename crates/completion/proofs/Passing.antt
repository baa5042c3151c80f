-- The answers of the bounds of a set that was accepted, and of one that was refused. Assumes nothing.
use mathlib.Core.Path.{◌≡◌, refl, ◌∙◌}
use mathlib.Core.List.{List}
use Prim.Native.Nat.{ℕ}
use Rattle.laws.specs.Words.{padded}
use Rattle.jobs.specs.declared.set.JobSet.{JobSet}
use Rattle.jobs.specs.declared.refusal.Refusal.{Refusal}
use Rattle.std.specs.Prelude.{Result, Ok, Err, ⊤}
use Rattle.jobs.specs.Limits.{max_jobs}
use Rattle.jobs.specs.Refusals.{on_pass}
use Rattle.jobs.specs.Jobs.{jobs_of}
use Rattle.jobs.specs.Checks.{check_of}
use Rattle.theory.specs.Table.{Table, table_of}
use Rattle.theory.specs.Bounds.{ert, cja, itr}
use Rattle.completion.specs.declared.answer.Bounds.{Bounds}
use Rattle.completion.specs.declared.answer.Itr.{Itr}
use Rattle.completion.specs.declared.answer.ItrAlone.{ItrAlone}
use Rattle.completion.specs.Answers.{ert_of, cja_of, itr_of, bounds_alone, itr_alone}
use Rattle.completion.proofs.Rounding.{itr_passed}

-- an answer is that of a check that passes
answered : {A : Type 0} (k : Result ⊤ Refusal) (a x : A) → Ok a ≡ on_pass k Err (Ok x) → (k ≡ Ok tt) × (a ≡ x)
answered (Ok tt) a x e = (refl, cc)
answered (Err refusal) a x e = cc

-- and a refusal is that of the check
refused : {A : Type 0} (k : Result ⊤ Refusal) (refusal : Refusal) (x : A) → Err refusal ≡ on_pass k Err (Ok x) → k ≡ Err refusal
refused (Ok tt) refusal x e = cc
refused (Err other) refusal x e = cc

-- what stands alone of an answer
alone : (k : Result ⊤ Refusal) (answer : Bounds) → bounds_alone (on_pass k Err (Ok answer)) ≡ on_pass k Err (Ok answer.bounds)
alone (Ok tt) answer = refl
alone (Err refusal) answer = refl

rounds_alone : (k : Result ⊤ Refusal) (answer : Itr) → itr_alone (on_pass k Err (Ok answer)) ≡ on_pass k Err (Ok (record { bounds = answer.bounds; rounds = answer.rounds }))
rounds_alone (Ok tt) answer = refl
rounds_alone (Err refusal) answer = refl

module _ (set : JobSet) where
  abbrev t : Table
  t = table_of (jobs_of set)

  pub ert_alone_is : bounds_alone (ert_of set) ≡ on_pass (check_of (jobs_of set)) Err (Ok (padded max_jobs 0 (ert t)))
  unfolding ert_of
  ert_alone_is = alone (check_of (jobs_of set)) _

  pub cja_alone_is : bounds_alone (cja_of set) ≡ on_pass (check_of (jobs_of set)) Err (Ok (padded max_jobs 0 (cja t)))
  unfolding cja_of
  cja_alone_is = alone (check_of (jobs_of set)) _

  pub itr_alone_is : itr_alone (itr_of set) ≡ on_pass (check_of (jobs_of set)) Err (Ok (itr_passed (itr t)))
  unfolding itr_of
  itr_alone_is = rounds_alone (check_of (jobs_of set)) _

  -- a set with an answer is accepted, and has those bounds
  pub ert_answered : (bounds : List ℕ) → Ok bounds ≡ bounds_alone (ert_of set) → (check_of (jobs_of set) ≡ Ok tt) × (bounds ≡ padded max_jobs 0 (ert t))
  ert_answered bounds e = answered _ _ _ (e ∙ ert_alone_is)

  pub cja_answered : (bounds : List ℕ) → Ok bounds ≡ bounds_alone (cja_of set) → (check_of (jobs_of set) ≡ Ok tt) × (bounds ≡ padded max_jobs 0 (cja t))
  cja_answered bounds e = answered _ _ _ (e ∙ cja_alone_is)

  pub itr_answered : (answer : ItrAlone) → Ok answer ≡ itr_alone (itr_of set) → (check_of (jobs_of set) ≡ Ok tt) × (answer ≡ itr_passed (itr t))
  itr_answered answer e = answered _ _ _ (e ∙ itr_alone_is)

  -- a set with none is refused
  pub ert_refused : (refusal : Refusal) → Err refusal ≡ bounds_alone (ert_of set) → check_of (jobs_of set) ≡ Err refusal
  ert_refused refusal e = refused _ _ _ (e ∙ ert_alone_is)

  pub cja_refused : (refusal : Refusal) → Err refusal ≡ bounds_alone (cja_of set) → check_of (jobs_of set) ≡ Err refusal
  cja_refused refusal e = refused _ _ _ (e ∙ cja_alone_is)

  pub itr_refused : (refusal : Refusal) → Err refusal ≡ itr_alone (itr_of set) → check_of (jobs_of set) ≡ Err refusal
  itr_refused refusal e = refused _ _ _ (e ∙ itr_alone_is)
