-- The columns of a set: filled place by place, they show its table. Assumes an accepted set.
--   Filled   what stands in the columns after n jobs
use Prim.Native.Nat.{ℕ, zero, suc, ◌+◌, ◌*◌, ◌≤◌, ◌<◌, ◌^◌}
use mathlib.Core.Path.{◌≡◌, refl, sym, ap, subst, ◌∙◌}
use mathlib.Core.List.{List, [], ◌∷◌}
use native.Mathlib.Omega.{arith}
use native.Mathlib.Numerals.{add-one}
use lib.ListN.{length, get_or, replicate}
use Rattle.laws.proofs.Filling as Filling
use Rattle.jobs.specs.declared.job.Job.{Job}
use Rattle.jobs.specs.Limits.{max_jobs, max_release, max_time}
use Rattle.jobs.specs.Jobs.{no_job, job_at, urgency_of}
use Rattle.jobs.proofs.Accepted.{Accepted}
use Rattle.theory.specs.Table.{Table, table_of}
use Rattle.theory.proofs.Given.{given}
use Rattle.theory.proofs.Columns.{seen_count, figure, put, seen, Alike, column}
use Rattle.theory.proofs.Prior.{prior}
use Rattle.theory.proofs.Predecessors.{not_before, release_by}
use Rattle.theory.proofs.Releases.{earliest_latest}
use Rattle.theory.proofs.AcceptedSets.{accepted_latest}

-- the job before place n, and its effective release
abbrev pub last_at : List Job → ℕ → Job
last_at js zero = no_job
last_at js (suc k) = job_at js k

abbrev pub before_at : List Job → ℕ → ℕ
before_at js zero = 0
before_at js (suc k) = (table_of js).earliest k

-- the columns that the machine reads, of the first n places
abbrev columns_of : Table → ℕ → List (List ℕ)
columns_of t n = column n t.chain ∷ column n t.urgency ∷ column n t.earliest ∷ []

pub record Filled (js : List Job) (n : ℕ) (last : Job) (before : ℕ) (columns : List (List ℕ)) : Type 0 where
  pub inside : n ≤ length js
  pub last_is : last ≡ last_at js n
  pub before_is : before ≡ before_at js n
  pub are : columns ≡ columns_of (table_of js) n

-- columns of nothing
abbrev pub no_columns : List (List ℕ)
no_columns = replicate seen_count (replicate max_jobs 0)

-- columns with the figures of one job stored at a place
abbrev pub stored : ℕ → ℕ → ℕ → ℕ → List (List ℕ) → List (List ℕ)
stored n chain urgency release columns = put 2 n release (put 1 n urgency (put 0 n chain columns))

-- the release of a job, from the job before it and that one's effective release
abbrev released : Job → ℕ → Job → ℕ
released last before job = not_before last.chain job.chain job.release (before + last.least)

released_is : (js : List Job) (n : ℕ) → released (last_at js n) (before_at js n) (job_at js n) ≡ (table_of js).earliest n
unfolding prior
released_is js zero = sym (release_by (given js) 0)
released_is js (suc k) = sym (release_by (given js) (suc k))

module _ (js : List Job) (ok : Accepted js) where
  release_limit : (n : ℕ) → n ≤ length js → before_at js n + (last_at js n).least ≤ max_release + max_jobs * max_time + max_time
  release_limit zero l = omega arith
  release_limit (suc k) l = omega (arith, accepted_latest js ok k l, earliest_latest js k, (ok.limits k l).range, (ok.limits k l).time)

  abbrev t : Table
  t = table_of js

  pub filled_start : (last : Job) → last ≡ no_job → Filled js 0 last 0 no_columns
  filled_start last e =
      record {
        inside = omega arith;
        last_is = e;
        before_is = refl;
        are = λ x. Filling.filled_none max_jobs 0 t.chain x ∷ Filling.filled_none max_jobs 0 t.urgency x ∷ Filling.filled_none max_jobs 0 t.earliest x ∷ [];
      }

  module _ {n : ℕ} {last : Job} {before : ℕ} {columns : List (List ℕ)} (f : Filled js n last before columns) where
    pub filled_fits : before + last.least < 2 ^ 64
    filled_fits = rw (f.before_is, f.last_is) (omega (arith, release_limit n f.inside))

    next_are : n < length js → (chain urgency release : ℕ) → chain ≡ t.chain n → urgency ≡ t.urgency n → release ≡ t.earliest n
        → stored n chain urgency release (columns_of t n) ≡ columns_of t (n + 1)
    next_are l chain urgency release p q r =
        let room : n < max_jobs = omega (arith, ok.few) in
        let chains = Filling.filled_next max_jobs 0 t.chain n (column n t.chain) chain room refl p in
        let urgencies = Filling.filled_next max_jobs 0 t.urgency n (column n t.urgency) urgency room refl q in
        let releases = Filling.filled_next max_jobs 0 t.earliest n (column n t.earliest) release room refl r in
        λ x. chains x ∷ urgencies x ∷ releases x ∷ []

    pub filled_next : n < length js → (job : Job) → job ≡ job_at js n → (r : ℕ) → r ≡ released last before job → (p : ℕ) → p ≡ urgency_of job
        → Filled js (n + 1) job r (stored n job.chain p r columns)
    filled_next l job e r q p w =
        let effective : r ≡ t.earliest n = q ∙ rw (f.before_is, f.last_is, e) (released_is js n) in
        record {
          inside = omega arith;
          last_is = e ∙ ap (last_at js) (sym (add-one n));
          before_is = effective ∙ ap (before_at js) (sym (add-one n));
          are = ap (stored n job.chain p r) f.are ∙ next_are l job.chain p r (ap (λ (j : Job). j.chain) e) (w ∙ ap urgency_of e) effective;
        }

    column_at : (k : ℕ) (figures : ℕ → ℕ) → get_or (columns_of t n) k [] ≡ column n figures → (i : ℕ) → i < n → figure columns k i ≡ figures i
    column_at k figures e i l = ap (λ (q : List (List ℕ)). figure q k i) f.are ∙ ap (λ (q : List ℕ). get_or q i 0) e ∙ Filling.filled_at max_jobs 0 figures n i l

    pub filled_end : (count : ℕ) → n ≡ count → Alike (seen columns) t count
    filled_end count e =
        subst (Alike (seen columns) t) e
        (record { chain = column_at 0 t.chain refl; urgency = column_at 1 t.urgency refl; release = column_at 2 t.earliest refl })
