-- The columns of a list of jobs, gathered job by job with their effective releases.
--   Gathered   what the loop over the jobs holds at place i
-- Assumes nothing.
use Prim.Native.Nat.{ℕ, ◌+◌, ◌≤◌, ◌<◌, max}
use mathlib.Core.Path.{◌≡◌, refl, sym, ap, subst, ◌∙◌}
use mathlib.Core.Bool.{cond}
use mathlib.Core.List.{List, [], ◌∷◌}
use native.Mathlib.Omega.{arith}
use lib.Dec.{eqb}
use lib.ListN.{length, get_or, set, replicate, length-set, length-replicate}
use Rattle.laws.proofs.Filling.{filled_none, filled_next, filled_at}
use Rattle.jobs.specs.declared.job.Job.{Job}
use Rattle.jobs.specs.Limits.{max_jobs}
use Rattle.jobs.specs.Jobs.{job_at, urgency_of}
use Rattle.theory.specs.Table.{Table, table_of}
use Rattle.theory.proofs.Given.{effective_earliest, given}
use Rattle.theory.proofs.WellFormed.{Ordered, chain_le}
use Rattle.theory.proofs.Agreement.{Agree}
use Rattle.theory.proofs.Predecessors.{not_before, release_by}
use Rattle.theory.proofs.Columns.{column_count, figure, put, lent, column}
use Rattle.theory.proofs.Endings.{Ended, Heads, heads_none, heads_next, ends_same}
use Rattle.theory.proofs.Prior.{prior, prior_none, prior-next}
use Rattle.theory.proofs.Unread.{bare}

-- The columns that the bounds are made from, of the first n places, with the ends of their chains.
abbrev columns_of : Table → ℕ → List ℕ → List (List ℕ)
columns_of t n ends = column n t.chain ∷ column n t.urgency ∷ column n t.most ∷ column n t.earliest ∷ column n t.latest ∷ ends ∷ []

-- when the job after a place is ready at the earliest
abbrev pub ready_after : List Job → ℕ → ℕ
ready_after js v = effective_earliest (given js) v + (job_at js v).least

pub record Gathered (js : List Job) (i last ready first : ℕ) (columns : List (List ℕ)) : Type 0 where
  pub inside : i ≤ length js
  pub are : columns ≡ columns_of (table_of js) i (get_or columns 5 [])
  pub room : length (get_or columns 5 []) ≡ max_jobs
  pub heads : Heads (table_of js).chain i first (get_or columns 5 [])
  pub last_is : last ≡ prior (table_of js).chain i
  pub ready_is : ready ≡ prior (ready_after js) i

-- columns of nothing
abbrev pub no_columns : List (List ℕ)
no_columns = replicate column_count (replicate max_jobs 0)

-- columns with the figures of one job stored at a place
abbrev pub stored : ℕ → Job → ℕ → ℕ → ℕ → ℕ → List (List ℕ) → List (List ℕ)
stored i job urgency earliest latest first columns =
    put 5 first (i + 1) (put 4 i latest (put 3 i earliest (put 2 i job.most (put 1 i urgency (put 0 i job.chain columns)))))

module _ (js : List Job) where
  abbrev t : Table
  t = table_of js

  pub gathered_none : Gathered js 0 0 0 0 no_columns
  gathered_none =
      record {
        inside = omega arith;
        are = λ x.
            filled_none max_jobs 0 t.chain x
            ∷ filled_none max_jobs 0 t.urgency x
            ∷ filled_none max_jobs 0 t.most x
            ∷ filled_none max_jobs 0 t.earliest x
            ∷ filled_none max_jobs 0 t.latest x
            ∷ replicate max_jobs 0
            ∷ [];
        room = length-replicate {A = ℕ} max_jobs 0;
        heads = heads_none t.chain (replicate max_jobs 0);
        last_is = sym (prior_none t.chain);
        ready_is = sym (prior_none (ready_after js));
      }

  module _ (few : length js ≤ max_jobs) (i : ℕ) (l : i < length js) (job : Job) (here : job ≡ job_at js i)
      {last ready first : ℕ} {columns : List (List ℕ)} (h : Gathered js i last ready first columns) (earliest : ℕ) (e : earliest ≡ not_before last job.chain job.release ready) where
    pub gathered_earliest : earliest ≡ t.earliest i
    gathered_earliest = e ∙ rw (here, h.last_is, h.ready_is) (sym (release_by (given js) i))

    next_are : (urgency latest next : ℕ) (ends : List ℕ) → urgency ≡ urgency_of job → latest ≡ max job.release earliest
        → stored i job urgency earliest latest next (columns_of t i ends) ≡ columns_of t (i + 1) (set ends next (i + 1))
    next_are urgency latest next ends p q =
        let room : i < max_jobs = omega arith in
        let chain = filled_next max_jobs 0 t.chain i (column i t.chain) job.chain room refl (ap (λ (j : Job). j.chain) here) in
        let urgent = filled_next max_jobs 0 t.urgency i (column i t.urgency) urgency room refl (p ∙ ap urgency_of here) in
        let most = filled_next max_jobs 0 t.most i (column i t.most) job.most room refl (ap (λ (j : Job). j.most) here) in
        let early = filled_next max_jobs 0 t.earliest i (column i t.earliest) earliest room refl gathered_earliest in
        let late = filled_next max_jobs 0 t.latest i (column i t.latest) latest room refl (omega (arith, gathered_earliest, ap (λ (j : Job). j.release) here)) in
        λ x. chain x ∷ urgent x ∷ most x ∷ early x ∷ late x ∷ set ends next (i + 1) ∷ []

    pub gathered_next : Ordered t → (urgency : ℕ) → urgency ≡ urgency_of job → (latest : ℕ) → latest ≡ max job.release earliest → (next : ℕ) → next ≡ cond (eqb last job.chain) first i
        → Gathered js (i + 1) job.chain (earliest + job.least) next (stored i job urgency earliest latest next columns)
    gathered_next o urgency p latest q next n =
        let ends = get_or columns 5 [] in
        let ready_is : earliest + job.least ≡ ready_after js i = omega (arith, gathered_earliest, ap (λ (j : Job). j.least) here) in
        subst (λ (c : List (List ℕ)). Gathered js (i + 1) job.chain (earliest + job.least) next (stored i job urgency earliest latest next c)) (sym h.are)
        (record {
          inside = omega arith;
          are = next_are urgency latest next ends p q;
          room = length-set ends next (i + 1) ∙ h.room;
          heads = heads_next t.chain (omega (arith, h.room)) h.heads (λ v w vw wi. chain_le t o v w vw (omega arith)) next (n ∙ rw (h.last_is, here));
          last_is = ap (λ (j : Job). j.chain) here ∙ sym (prior-next t.chain i);
          ready_is = ready_is ∙ sym (prior-next (ready_after js) i);
        })

  -- all jobs are gathered
  module _ (i n : ℕ) (all : i ≡ n) (whole : n ≡ length js) {last ready first : ℕ} {columns : List (List ℕ)} (h : Gathered js i last ready first columns) where
    column_at : (k : ℕ) (f : ℕ → ℕ) → get_or (columns_of t i (get_or columns 5 [])) k [] ≡ column i f → (u : ℕ) → u < n → figure columns k u ≡ f u
    column_at k f e u l = ap (λ (q : List (List ℕ)). figure q k u) h.are ∙ ap (λ (q : List ℕ). get_or q u 0) e ∙ filled_at max_jobs 0 f i u (omega arith)

    pub gathered_all : Agree (lent n columns) (bare t)
    gathered_all =
        record {
          count = whole;
          chain = column_at 0 t.chain refl;
          urgency = column_at 1 t.urgency refl;
          least = λ u l. refl;
          most = column_at 2 t.most refl;
          earliest = column_at 3 t.earliest refl;
          latest = column_at 4 t.latest refl;
        }

    pub gathered_ended : Ended n columns
    gathered_ended u l ff =
        let at = column_at 0 t.chain refl in
        ends_same at l (rw (sym all) (h.heads.known u (omega arith) (λ v vl q. ff v vl (at v (omega arith) ∙ q ∙ sym (at u l)))))
