-- Jobs written one after another, each at its own place. Assumes nothing.
use Prim.Native.Nat.{ℕ, ◌+◌, ◌-◌, ◌*◌, ◌≤◌, ◌<◌}
use mathlib.Core.Path.{◌≡◌, refl, sym, ap, ◌∙◌}
use mathlib.Core.List.{List, [], ◌∷◌, ◌++◌, append_assoc}
use native.Mathlib.Omega.{arith}
use native.Mathlib.Numerals.{add-one}
use lib.ListN.{length, get_or, take, drop, length-append, length-drop}
use lib.Seq.{get_or-drop, take-suc, take-length}
use Rattle.laws.specs.Words.{patched}
use Rattle.laws.proofs.Pieces.{Made, PiecesWritten, pieces_none, pieces_same, pieces_room, pieces_more, pieces_end}
use Rattle.jobs.specs.declared.job.Job.{Job}
use Rattle.jobs.specs.declared.set.JobSet.{JobSet}
use Rattle.jobs.specs.Jobs.{no_job, job_at, jobs_of}
use Rattle.jobs.proofs.Sets.{length_jobs, job_at_lem}
use Rattle.numbers.specs.Numbers.{job_size, job_numbers, numbers_of}

pub numbers_append : (is js : List Job) → numbers_of (is ++ js) ≡ numbers_of is ++ numbers_of js
unfolding numbers_of
numbers_append [] js = refl
numbers_append (i ∷ is) js = ap (λ (l : List ℕ). job_numbers i ++ l) (numbers_append is js) ∙ sym (append_assoc (job_numbers i) (numbers_of is) (numbers_of js))

pub length_numbers : (js : List Job) → length (numbers_of js) ≡ job_size * length js
unfolding numbers_of
length_numbers [] = refl
length_numbers (j ∷ js) = omega (arith, length-append (job_numbers j) (numbers_of js), length_numbers js)

jobs_made : (js : List Job) → Made (λ n. numbers_of (take n js)) (λ n. job_numbers (job_at js n)) (length js)
unfolding numbers_of
jobs_made js =
    record {
      none = refl;
      next = λ n h. rw (add-one, take-suc js n no_job h) (numbers_append (take n js) (job_at js n ∷ []));
    }

-- the jobs from place `from` on that stand in memory, up to before place n, and the place after their numbers
pub record JobsPut (set : JobSet) (from : ℕ) (before out : List ℕ) (at n : ℕ) : Type 0 where
  pub begun : from ≤ n
  pub inside : n ≤ set.count
  pub pieces : PiecesWritten (λ k. numbers_of (take k (drop from (jobs_of set)))) (λ k. job_numbers (job_at (drop from (jobs_of set)) k)) (length (drop from (jobs_of set))) before (job_size * from) out at (n - from)

module _ (set : JobSet) (from : ℕ) where
  length_rest : length (drop from (jobs_of set)) ≡ set.count - from
  length_rest = omega (arith, length-drop from (jobs_of set), length_jobs set)

  pub put_none : (before : List ℕ) → (job_size * set.count ≤ length before) × (from ≤ set.count) → JobsPut set from before before (job_size * from) from
  put_none before h =
      let js = drop from (jobs_of set) in
      let nothing : from - from ≡ 0 = omega arith in
      let room : job_size * from + length (numbers_of (take (length js) js)) ≤ length before =
      rw (take-length js) (omega (arith, length_numbers js, length_rest, h.0, h.1)) in
      record { begun = omega arith; inside = h.1; pieces = rw nothing (pieces_none (jobs_made js) before (job_size * from) room) }

  module _ {before out : List ℕ} {at n : ℕ} (h : JobsPut set from before out at n) where
    here : n < set.count → n - from < length (drop from (jobs_of set))
    here l = omega (arith, length_rest, h.begun)

    pub put_room : n < set.count → at + job_size ≤ length out
    put_room l = omega (arith, pieces_room h.pieces (here l))

    pub put_next : (place : ℕ) (after : List ℕ) (j : Job) → n < set.count → j ≡ get_or set.jobs n no_job → (place ≡ at + length (job_numbers j)) × (after ≡ patched out at (job_numbers j))
        → JobsPut set from before after place (n + 1)
    put_next place after j l e v =
        let k : n - from + 1 ≡ n + 1 - from = omega (arith, h.begun) in
        let m : from + (n - from) ≡ n = omega (arith, h.begun) in
        let is : j ≡ job_at (drop from (jobs_of set)) (n - from) = e ∙ sym (job_at_lem set n l) ∙ sym (get_or-drop from (jobs_of set) (n - from) no_job ∙ ap (job_at (jobs_of set)) m) in
        record { begun = omega (arith, h.begun); inside = omega arith; pieces = rw (← k) (pieces_more h.pieces (here l) (rw is at v)) }

    pub put_same : length out ≡ length before
    put_same = pieces_same h.pieces

    pub put-end : set.count ≤ n → out ≡ patched before (job_size * from) (numbers_of (drop from (jobs_of set)))
    put-end l =
        let js = drop from (jobs_of set) in
        rw (take-length js) at (pieces_end h.pieces (omega (arith, length_rest, h.begun))).1
