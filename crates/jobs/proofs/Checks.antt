-- The checks of a set's records, one after another: what is still to come decides as the whole does. Assumes nothing.
use Prim.Native.Nat.{ℕ, suc, ◌+◌, ◌≤◌, ◌<◌}
use mathlib.Core.Path.{◌≡◌, refl, sym, ap, ◌∙◌}
use mathlib.Core.List.{List, [], ◌∷◌, ◌++◌, append_assoc, append-nil}
use native.Mathlib.Omega.{arith}
use native.Mathlib.Numerals.{add-one}
use lib.ListN.{length, take, drop, drop_of_length-le}
use lib.Seq.{take-suc, drop-cons, length-take-le}
use borrow.Author.Tests.{le-ltb}
use Rattle.laws.specs.Words.{last_of}
use Rattle.laws.proofs.Lists.{last_snoc}
use Rattle.jobs.specs.declared.job.Job.{Job}
use Rattle.jobs.specs.declared.refusal.Refusal.{Refusal}
use Rattle.jobs.specs.declared.refusal.Refusal.TheVariants.{TooManyRecords, NoRecord}
use Rattle.std.specs.Prelude.{Result, ⊤, Ok, Err}
use Rattle.jobs.specs.Limits.{max_jobs}
use Rattle.jobs.specs.Refusals.{and_then}
use Rattle.jobs.specs.Jobs.{no_job, job_at}
use Rattle.jobs.specs.Checks.{record_check, records_check, any_record, check_of}

-- ---- checks in sequence
pub then_first : (a b : Result ⊤ Refusal) → and_then a b ≡ Ok tt → a ≡ Ok tt
then_first (Ok tt) b e = refl
then_first (Err r) b e = e

pub then_second : (a b : Result ⊤ Refusal) → and_then a b ≡ Ok tt → b ≡ Ok tt
then_second (Ok tt) b e = e
then_second (Err r) b e = let z : ◌≡◌ {A = ℕ} 0 1 = cc in absurd (omega arith)

pub then_then : (a b c : Result ⊤ Refusal) → and_then (and_then a b) c ≡ and_then a (and_then b c)
then_then (Ok tt) b c = refl
then_then (Err r) b c = refl

then_refused : (a b c : Result ⊤ Refusal) (x : Refusal) → (b ≡ Err x → c ≡ Err x) → and_then a b ≡ Err x → and_then a c ≡ Err x
then_refused (Ok tt) b c x f e = f e
then_refused (Err y) b c x f e = e

-- ---- one record
pub record_many : (n : ℕ) (last j : Job) → max_jobs ≤ n → record_check n last j ≡ Err TooManyRecords
unfolding record_check
record_many n last j h = simp (le-ltb n max_jobs h)

-- the check of the next record, after those before it
abbrev pub next_check : List Job → Job → Result ⊤ Refusal
next_check before j = record_check (length before) (last_of no_job before) j

pub records_refused : (before : List Job) (j : Job) (js : List Job) (r : Refusal) → next_check before j ≡ Err r → records_check before (j ∷ js) ≡ Err r
unfolding records_check
records_refused before j js r e = rw e

pub records_passed : (before : List Job) (j : Job) (js : List Job) → next_check before j ≡ Ok tt → records_check before (j ∷ js) ≡ records_check (before ++ (j ∷ [])) js
unfolding records_check
records_passed before j js e = rw e

pub records_none : (before : List Job) → records_check before [] ≡ Ok tt
unfolding records_check
records_none before = refl

-- ---- two lists of records
pub records_append : (before xs ys : List Job) → records_check before xs ≡ Ok tt → records_check before (xs ++ ys) ≡ records_check (before ++ xs) ys
unfolding records_check
records_append before [] ys e = rw append-nil
records_append before (x ∷ xs) ys e =
    let f : next_check before x ≡ Ok tt = then_first (next_check before x) (records_check (before ++ (x ∷ [])) xs) e in
    let g : records_check (before ++ (x ∷ [])) xs ≡ Ok tt = then_second (next_check before x) (records_check (before ++ (x ∷ [])) xs) e in
    rw f (records_append (before ++ (x ∷ [])) xs ys g ∙ ap (λ (l : List Job). records_check l ys) (append_assoc before (x ∷ []) xs))

-- a refused record refuses whatever follows
pub append_refused : (before xs ys : List Job) (x : Refusal) → records_check before xs ≡ Err x → records_check before (xs ++ ys) ≡ Err x
unfolding records_check
append_refused before [] ys x e = let z : ◌≡◌ {A = ℕ} 0 1 = cc in absurd (omega arith)
append_refused before (i ∷ xs) ys x e =
    then_refused (next_check before i) (records_check (before ++ (i ∷ [])) xs) (records_check (before ++ (i ∷ [])) (xs ++ ys)) x
    (append_refused (before ++ (i ∷ [])) xs ys x) e

-- ---- the records of a list from a place on
pub last-take : (js : List Job) (n : ℕ) → n < length js → last_of no_job (take (suc n) js) ≡ job_at js n
last-take js n h = rw (take-suc js n no_job h) (last_snoc (take n js) no_job (job_at js n))

-- The records before place n have passed, the last of them is `last`, and the rest decides.
pub record Reached (js : List Job) (n : ℕ) (last : Job) : Type 0 where
  pub inside : n ≤ length js
  pub before : last ≡ last_of no_job (take n js)
  pub rest : records_check (take n js) (drop n js) ≡ records_check [] js

pub reached_start : (js : List Job) (last : Job) → last ≡ no_job → Reached js 0 last
reached_start js last e = record { inside = omega arith; before = unfold last_of in e; rest = refl }

module _ (js : List Job) (n : ℕ) (last : Job) (r : Reached js n last) where
  pub reached_end : length js ≤ n → (Ok tt) ≡ records_check [] js
  reached_end h = sym (rw (drop_of_length-le js h) (records_none (take n js))) ∙ r.rest

  -- the record at place n, which is j
  module _ (j : Job) (here : n < length js) (is-here : job_at js n ≡ j) where
    at_place : drop n js ≡ j ∷ drop (suc n) js
    at_place = rw (← is-here) (drop-cons js n no_job here)

    next_is : (o : Result ⊤ Refusal) → record_check n last j ≡ o → next_check (take n js) j ≡ o
    next_is o e = rw (length-take-le n js r.inside, ← r.before) e

    pub reached_refused : (x : Refusal) → record_check n last j ≡ Err x → Err x ≡ records_check [] js
    reached_refused x e = sym (rw at_place (records_refused (take n js) j (drop (suc n) js) x (next_is (Err x) e))) ∙ r.rest

    pub reached_next : record_check n last j ≡ Ok tt → Reached js (n + 1) j
    reached_next e =
        let taken : take (suc n) js ≡ take n js ++ (j ∷ []) = rw (← is-here) (take-suc js n no_job here) in
        rw add-one
        (record {
          inside = here;
          before = sym (last-take js n here ∙ is-here);
          rest = rw taken (sym (rw at_place (records_passed (take n js) j (drop (suc n) js) (next_is (Ok tt) e))) ∙ r.rest);
        })

-- ---- the whole set
pub any_none : (js : List Job) → length js ≡ 0 → any_record js ≡ Err NoRecord
any_none [] e = refl
any_none (j ∷ js) e = absurd (omega arith)

pub any_some : (js : List Job) → 0 < length js → any_record js ≡ Ok tt
any_some [] h = absurd (omega arith)
any_some (j ∷ js) h = refl

pub check_refused : (js : List Job) (x : Refusal) → records_check [] js ≡ Err x → check_of js ≡ Err x
unfolding check_of
check_refused js x e = rw e

pub check_passed : (js : List Job) (o : Result ⊤ Refusal) → records_check [] js ≡ Ok tt → any_record js ≡ o → check_of js ≡ o
unfolding check_of
check_passed js o e f = rw e f
