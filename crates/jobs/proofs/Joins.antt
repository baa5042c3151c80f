-- A chain joins a set record by record: the records so far, numbered, and what is still to come. Assumes nothing.
use Prim.Native.Nat.{ℕ, suc, ◌+◌, ◌-◌, ◌≤◌, ◌<◌}
use mathlib.Core.Path.{◌≡◌, refl, sym, ap, ◌∙◌}
use mathlib.Core.List.{List, [], ◌∷◌, ◌++◌, append_assoc, append-nil}
use native.Mathlib.Omega.{arith}
use native.Mathlib.Nat.{add-zero}
use native.Mathlib.Numerals.{add-one}
use lib.ListN.{length, take, drop, get_or, length-append, drop_of_length-le}
use lib.Seq.{take-suc, drop-cons, take_all, length-take-le}
use Rattle.laws.specs.Words.{last_of}
use Rattle.laws.proofs.Lists.{last_snoc}
use Rattle.jobs.specs.declared.job.Job.{Job}
use Rattle.jobs.specs.declared.set.JobSet.{JobSet}
use Rattle.jobs.specs.declared.refusal.Refusal.{Refusal}
use Rattle.jobs.specs.declared.refusal.Refusal.TheVariants.{NoRecord}
use Rattle.std.specs.Prelude.{Result, ⊤, Ok, Err}
use Rattle.jobs.specs.Limits.{max_jobs, max_chains}
use Rattle.jobs.specs.Jobs.{no_job, jobs_of, set_of, job_at}
use Rattle.jobs.specs.Checks.{record_check, records_check}
use Rattle.jobs.specs.Joins.{renumbered, numbered, with_chain, join_check, join_of}
use Rattle.jobs.proofs.Sets.{job_at_lem, grown, set_grown}
use Rattle.jobs.proofs.Checks.{next_check, records_none, records_refused, records_passed, records_append, any_none, any_some, last-take}
use Rattle.jobs.proofs.Accepted.{limited_at, records_few}

-- ---- numbering
pub length-numbered : (c k : ℕ) (js : List Job) → length (numbered c k js) ≡ length js
unfolding numbered
length-numbered c k [] = refl
length-numbered c k (j ∷ js) = ap suc (length-numbered c (k + 1) js)

numbered_snoc : (c k : ℕ) (js : List Job) (j : Job) → numbered c k (js ++ (j ∷ [])) ≡ numbered c k js ++ (renumbered c (k + length js) j ∷ [])
unfolding numbered
numbered_snoc c k [] j = rw add-zero
numbered_snoc c k (i ∷ js) j =
    let e : k + 1 + length js ≡ k + suc (length js) = omega arith in
    ap (λ (l : List Job). renumbered c k i ∷ l) (rw (← e) (numbered_snoc c (k + 1) js j))

-- ---- the last job of a set
pub last_none : (js : List Job) → length js ≡ 0 → last_of no_job js ≡ no_job
unfolding last_of
last_none [] e = refl
last_none (j ∷ js) e = absurd (omega arith)

pub last_at : (js : List Job) → 0 < length js → last_of no_job js ≡ job_at js (length js - 1)
last_at js h =
    let n : suc (length js - 1) ≡ length js = omega arith in
    ap (last_of no_job) (sym (take_all (suc (length js - 1)) js (omega arith))) ∙ last-take js (length js - 1) (omega arith)

-- where a set has no more jobs than places, the last of those that it holds is the last of all
pub last-held : (js : List Job) (last : Job) → last ≡ last_of no_job (take max_jobs js) → length js ≤ max_jobs → last ≡ last_of no_job js
last-held js last e h = e ∙ ap (last_of no_job) (take_all max_jobs js h)

pub last_chain : (js : List Job) → records_check [] js ≡ Ok tt → (last_of no_job js).chain ≤ max_chains
last_chain [] e = unfold last_of in omega arith
last_chain (j ∷ js) e =
    rw (last_at (j ∷ js) (omega arith)) (limited_at (j ∷ js) e (length (j ∷ js) - 1) (omega arith)).chains

-- ---- the chain's number, the records so far, and those to come
abbrev pub next_chain : List Job → ℕ
next_chain old = (last_of no_job old).chain + 1

-- the new record at place k, under its number
abbrev pub next_job : List Job → List Job → ℕ → Job
next_job old new k = renumbered (next_chain old) (k + 1) (job_at new k)

unfoldable pub so_far : List Job → List Job → ℕ → List Job
so_far old new k = old ++ numbered (next_chain old) 1 (take k new)

unfoldable pub to_come : List Job → List Job → ℕ → List Job
to_come old new k = numbered (next_chain old) (k + 1) (drop k new)

module _ (old new : List Job) (k : ℕ) where
  pub length_so_far : k ≤ length new → length (so_far old new k) ≡ length old + k
  unfolding so_far
  length_so_far h =
      length-append old (numbered (next_chain old) 1 (take k new))
      ∙ ap (λ (n : ℕ). length old + n) (length-numbered (next_chain old) 1 (take k new) ∙ length-take-le k new h)

  module _ (here : k < length new) where
    so_far-next : so_far old new (suc k) ≡ so_far old new k ++ (next_job old new k ∷ [])
    unfolding so_far
    so_far-next =
        let n : 1 + length (take k new) ≡ k + 1 = omega (arith, length-take-le k new (omega arith)) in
        rw (take-suc new k no_job here, numbered_snoc (next_chain old) 1 (take k new) (job_at new k), n)
        (sym (append_assoc old (numbered (next_chain old) 1 (take k new)) (next_job old new k ∷ [])))

    to_come-next : to_come old new k ≡ next_job old new k ∷ to_come old new (suc k)
    unfolding to_come numbered
    to_come-next =
        rw (drop-cons new k no_job here) (ap (λ (n : ℕ). next_job old new k ∷ numbered (next_chain old) n (drop (suc k) new)) (add-one (k + 1) ∙ ap suc (add-one k) ∙ sym (add-one (suc k))))

-- The new records before place k stand in the set, numbered, behind the old ones; the last of all is `last`, and the rest decides.
pub record Joining (old new : List Job) (k : ℕ) (s : JobSet) (last : Job) : Type 0 where
  pub inside : k ≤ length new
  pub few : length old + k ≤ max_jobs
  pub holds : s ≡ set_of (so_far old new k)
  pub before : last ≡ last_of no_job (so_far old new k)
  pub rest : records_check (so_far old new k) (to_come old new k) ≡ records_check [] (with_chain old new)

so_far_none : (old new : List Job) → so_far old new 0 ≡ old
unfolding so_far numbered
so_far_none old new = append-nil old

so_far_all : (old new : List Job) (k : ℕ) → length new ≤ k → so_far old new k ≡ with_chain old new
unfolding so_far with_chain
so_far_all old new k h = rw (take_all k new h)

to_come_none : (old new : List Job) (k : ℕ) → length new ≤ k → to_come old new k ≡ []
unfolding to_come numbered
to_come_none old new k h = rw (drop_of_length-le new h)

pub joining_start : (old new : List Job) (s : JobSet) (last : Job) → records_check [] old ≡ Ok tt → s ≡ set_of old → last ≡ last_of no_job old → Joining old new 0 s last
joining_start old new s last e f g =
    record {
      inside = omega arith;
      few = omega (arith, records_few old e);
      holds = rw (so_far_none old new) f;
      before = rw (so_far_none old new) g;
      rest = rw (so_far_none old new) (unfold to_come with_chain in sym (records_append [] old (numbered (next_chain old) 1 new) e));
    }

module _ {old new : List Job} {k : ℕ} {s : JobSet} {last : Job} (r : Joining old new k s last) where
  pub joining_count : s.count ≡ length old + k
  unfolding set_of
  joining_count = ap (λ (x : JobSet). x.count) r.holds ∙ length_so_far old new k r.inside

  pub joining_end : length new ≤ k → (records_check [] (with_chain old new) ≡ Ok tt) × (s ≡ set_of (with_chain old new))
  joining_end h =
      (sym r.rest ∙ rw (to_come_none old new k h) (records_none (so_far old new k)), r.holds ∙ ap set_of (so_far_all old new k h))

  -- the next new record, which is j
  module _ {j : Job} (here : k < length new) (is-here : j ≡ next_job old new k) where
    next_is : (o : Result ⊤ Refusal) → record_check s.count last j ≡ o → next_check (so_far old new k) (next_job old new k) ≡ o
    next_is o e = rw (length_so_far old new k r.inside, ← joining_count, ← r.before, ← is-here) e

    pub joining_refused : (x : Refusal) → record_check s.count last j ≡ Err x → records_check [] (with_chain old new) ≡ Err x
    joining_refused x e =
        sym r.rest
        ∙ rw (to_come-next old new k here)
        (records_refused (so_far old new k) (next_job old new k) (to_come old new (suc k)) x (next_is (Err x) e))

    pub joining_next : s.count < max_jobs → record_check s.count last j ≡ Ok tt → Joining old new (k + 1) (grown s j) j
    joining_next h e =
        let room : length (so_far old new k) < max_jobs = omega (arith, length_so_far old new k r.inside, joining_count) in
        rw (add-one, is-here)
        (record {
          inside = here;
          few = omega (arith, joining_count);
          holds = rw (so_far-next old new k here, r.holds) (set_grown (so_far old new k) (next_job old new k) room);
          before = rw (so_far-next old new k here) (sym (last_snoc (so_far old new k) no_job (next_job old new k)));
          rest =
              rw (so_far-next old new k here)
              (sym (records_passed (so_far old new k) (next_job old new k) (to_come old new (suc k)) (next_is (Ok tt) e))
              ∙ ap (records_check (so_far old new k)) (sym (to_come-next old new k here)) ∙ r.rest);
        })

-- the next job as the code makes it
pub next-job : (old new : JobSet) (k : ℕ) (last j : Job) → last ≡ last_of no_job (jobs_of old) → k < new.count
    → j ≡ renumbered (last.chain + 1) (k + 1) (get_or new.jobs k no_job) → j ≡ next_job (jobs_of old) (jobs_of new) k
next-job old new k last j e h is = is ∙ rw (e, job_at_lem new k h)

-- ---- the answer
module _ (old new : JobSet) where
  pub join_refused : (x : Refusal) → records_check [] (with_chain (jobs_of old) (jobs_of new)) ≡ Err x → join_of old new ≡ Err x
  unfolding join_of join_check
  join_refused x e = rw e

  pub join_empty : records_check [] (with_chain (jobs_of old) (jobs_of new)) ≡ Ok tt → length (jobs_of new) ≡ 0 → join_of old new ≡ Err NoRecord
  unfolding join_of join_check
  join_empty e h = rw (e, any_none (jobs_of new) h)

  pub join_passed : records_check [] (with_chain (jobs_of old) (jobs_of new)) ≡ Ok tt → 0 < length (jobs_of new) → join_of old new ≡ Ok (set_of (with_chain (jobs_of old) (jobs_of new)))
  unfolding join_of join_check
  join_passed e h = rw (e, any_some (jobs_of new) h)
