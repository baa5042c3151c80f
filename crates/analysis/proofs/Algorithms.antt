-- The answer by an algorithm: that of ERT, CJA or ITR, or a refusal. Assumes nothing.
use Rattle.std.specs.Prelude.{Result, Ok, Err, ⊤}
use Prim.Native.Nat.{ℕ, ◌≤◌}
use native.Mathlib.Omega.{arith}
use Rattle.jobs.proofs.Accepted.{accepted}
use Rattle.jobs.proofs.Sets.{length_jobs}
use mathlib.Core.Path.{◌≡◌, refl, sym, ap, ◌∙◌}
use mathlib.Core.Logic.{◌≢◌}
use mathlib.Core.List.{List}
use borrow.Author.Tests.{ne_eqb}
use Rattle.jobs.specs.declared.set.JobSet.{JobSet}
use Rattle.jobs.specs.declared.refusal.Refusal.{Refusal}
use Rattle.jobs.specs.declared.refusal.Refusal.TheVariants.{UnknownAlgorithm}
use Rattle.jobs.specs.Limits.{max_jobs}
use Rattle.jobs.specs.Refusals.{on_pass}
use Rattle.jobs.specs.Checks.{check_of}
use Rattle.jobs.specs.Jobs.{jobs_of}
use Rattle.completion.specs.declared.answer.Bounds.{Bounds}
use Rattle.completion.specs.declared.answer.Itr as declared
use Rattle.completion.specs.declared.answer.ItrAlone.{ItrAlone}
use Rattle.completion.specs.Answers.{ert_of, cja_of, itr_of, bounds_alone, itr_alone}
use Rattle.analysis.specs.Algorithms.{number_of}
use Rattle.analysis.specs.declared.algorithm.Algorithm.{Algorithm}
use Rattle.analysis.specs.declared.algorithm.Algorithm.TheVariants.{Ert, Cja, Itr}
use Rattle.analysis.specs.Answers.{bounds_by, delays_by, bounds_of}

-- the answer of ITR without its rounds
abbrev pub without_rounds : Result declared.Itr Refusal → Result Bounds Refusal
without_rounds (Ok answer) = Ok (record { bounds = answer.bounds; delays = answer.delays })
without_rounds (Err refusal) = Err refusal

rounds_gone : (k : Result ⊤ Refusal) (answer : declared.Itr) → without_rounds (on_pass k Err (Ok answer)) ≡ on_pass k Err (Ok (record { bounds = answer.bounds; delays = answer.delays }))
rounds_gone (Ok tt) answer = refl
rounds_gone (Err refusal) answer = refl

pub is_ert : (set : JobSet) → ert_of set ≡ bounds_of set 1
unfolding ert_of bounds_of bounds_by delays_by
is_ert set = refl

pub is_cja : (set : JobSet) → cja_of set ≡ bounds_of set 2
unfolding cja_of bounds_of bounds_by delays_by
is_cja set = refl

pub is_itr : (set : JobSet) → without_rounds (itr_of set) ≡ bounds_of set 3
unfolding itr_of bounds_of bounds_by delays_by
is_itr set = rounds_gone (check_of (jobs_of set)) _

-- another number is refused, after the set
pub is_unknown : (set : JobSet) (number : ℕ) → ((algorithm : Algorithm) → number_of algorithm ≢ number) → bounds_of set number ≡ on_pass (check_of (jobs_of set)) Err (Err UnknownAlgorithm)
unfolding bounds_of bounds_by
is_unknown set number none =
    let other : (algorithm : Algorithm) → number ≢ number_of algorithm = (λ algorithm e. none algorithm (sym e)) in
    rw (ne_eqb number 1 (other Ert), ne_eqb number 2 (other Cja), ne_eqb number 3 (other Itr))

abbrev pub each_alone : Result ItrAlone Refusal → Result (List ℕ) Refusal
each_alone (Ok answer) = Ok answer.bounds
each_alone (Err refusal) = Err refusal

each_same : (answer : Result declared.Itr Refusal) → each_alone (itr_alone answer) ≡ bounds_alone (without_rounds answer)
each_same (Ok answer) = refl
each_same (Err refusal) = refl

pub itr_each_alone : (set : JobSet) → each_alone (itr_alone (itr_of set)) ≡ bounds_alone (bounds_of set 3)
itr_each_alone set = each_same (itr_of set) ∙ ap bounds_alone (is_itr set)

-- a set that has bounds by an algorithm is accepted
passed_by : (k : Result ⊤ Refusal) (later : Result Bounds Refusal) (bounds : List ℕ) → Ok bounds ≡ bounds_alone (on_pass k Err later) → k ≡ Ok tt
passed_by (Ok tt) later bounds e = refl
passed_by (Err refusal) later bounds e = cc

bounds_passed : (set : JobSet) (algorithm : ℕ) (bounds : List ℕ) → Ok bounds ≡ bounds_alone (bounds_of set algorithm) → check_of (jobs_of set) ≡ Ok tt
unfolding bounds_of
bounds_passed set algorithm bounds e = passed_by (check_of (jobs_of set)) _ bounds e

pub bounds_few : (set : JobSet) (algorithm : ℕ) (bounds : List ℕ) → Ok bounds ≡ bounds_alone (bounds_of set algorithm) → set.count ≤ max_jobs
bounds_few set algorithm bounds e = omega (arith, length_jobs set, (accepted (jobs_of set) (bounds_passed set algorithm bounds e)).few)
