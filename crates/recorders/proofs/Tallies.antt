-- The columns of a course: filled row by row, they show each job's total, begin and end. Assumes nothing.
use Prim.Native.Nat.{ℕ, ◌+◌, ◌-◌, ◌≤◌, ◌<◌}
use mathlib.Core.Path.{◌≡◌, refl, sym, ap, ◌∙◌}
use mathlib.Core.Bool.{cond}
use mathlib.Core.Logic.{◌≢◌}
use mathlib.Core.List.{List, [], ◌∷◌, ◌++◌}
use native.Mathlib.Omega.{arith}
use native.Mathlib.Nat.{zero-add}
use native.Mathlib.Numerals.{add-one}
use lib.ListN.{length, get_or, set, take, replicate, length-set, length-replicate, get_or-replicate}
use lib.Dec.{eqb}
use lib.Seq.{ext_get_or, take-suc, length-take-le, get_or-take, get_or-set_same, get_or-set_other}
use Rattle.laws.specs.Words.{tabulate}
use Rattle.laws.proofs.Tests.{by_equal}
use Rattle.laws.proofs.Tabulate.{length-tabulate, get_d_tabulate}
use Rattle.jobs.specs.Limits.{max_jobs}
use Rattle.theory.proofs.Columns.{put}
use Rattle.recording.specs.declared.row.Row.{Row}
use Rattle.recording.specs.declared.reading.Recording.{Recording}
use Rattle.recording.specs.Rows.{no_row}
use Rattle.recording.specs.Reading.{max_rows, rows_of}
use Rattle.legality.specs.Procedure.{total, begin, done}
use Rattle.legality.proofs.Judging.{column_count, course_of}
use Rattle.legality.proofs.Rows.{Rising}
use Rattle.recorders.proofs.Courses.{Last, rising_take, rising_last, total_le_end, total_own, begin_own, done_own, total_other, begin_other, done_other}

-- ---- an array of figures, one for each place
module _ (m : ℕ) (f : ℕ → ℕ) where
  pub tabulate_at : (i : ℕ) → i < m → get_or (tabulate 0 m f) i 0 ≡ f i
  tabulate_at i l = get_d_tabulate 0 m f 0 i l ∙ ap f (zero-add i)

  tabulate_none : ((i : ℕ) → f i ≡ 0) → replicate m 0 ≡ tabulate 0 m f
  tabulate_none h =
      ext_get_or 0 (replicate m 0) (tabulate 0 m f) (length-replicate {A = ℕ} m 0 ∙ sym (length-tabulate 0 m f))
      (λ i l.
      let inside : i < m = omega (arith, length-replicate {A = ℕ} m 0) in
      get_or-replicate {A = ℕ} m i 0 0 inside ∙ sym (tabulate_at i inside ∙ h i))

-- one figure stored, with which the array shows another rule
tabulate-set : (m : ℕ) (f g : ℕ → ℕ) (i x : ℕ) → i < m → x ≡ g i → ((k : ℕ) → i ≢ k → g k ≡ f k) → set (tabulate 0 m f) i x ≡ tabulate 0 m g
tabulate-set m f g i x l e other =
    let kept = length-set (tabulate 0 m f) i x ∙ length-tabulate 0 m f in
    ext_get_or 0 (set (tabulate 0 m f) i x) (tabulate 0 m g) (kept ∙ sym (length-tabulate 0 m g))
    (λ k h.
    let inside : k < m = omega (arith, kept) in
    by_equal i k
    (λ q. rw (← q) (get_or-set_same (tabulate 0 m f) i x 0 (omega (arith, length-tabulate 0 m f)) ∙ e ∙ sym (tabulate_at m g i l)))
    (λ q. get_or-set_other (tabulate 0 m f) i k x 0 (λ z. q (sym z)) ∙ tabulate_at m f k inside ∙ sym (tabulate_at m g k inside ∙ other k q)))

-- ---- the course of some rows
pub course_none : replicate column_count (replicate max_jobs 0) ≡ course_of []
unfolding total begin done
course_none =
    λ x. tabulate_none max_jobs (total []) (λ i. refl) x ∷ tabulate_none max_jobs (begin []) (λ i. refl) x ∷ tabulate_none max_jobs (done []) (λ i. refl) x ∷ []

-- a course with the figures of one job stored
abbrev pub stored : ℕ → ℕ → ℕ → ℕ → List (List ℕ) → List (List ℕ)
stored at total begin done course = put 2 at done (put 1 at begin (put 0 at total course))

course_more : (rs : List Row) (r : Row) → Last 0 rs r → r.at < max_jobs
    → stored r.at (total rs r.at + (r.to - r.from)) (cond (eqb (total rs r.at) 0) r.from (begin rs r.at)) r.to (course_of rs)
    ≡ course_of (rs ++ (r ∷ []))
course_more rs r last l =
    let more = rs ++ (r ∷ []) in
    let totals = tabulate-set max_jobs (total rs) (total more) r.at _ l (sym (total_own r.at rs r refl)) (λ k e. total_other k rs r e) in
    let begins = tabulate-set max_jobs (begin rs) (begin more) r.at _ l (sym (begin_own r.at 0 rs r last.rising refl)) (λ k e. begin_other k rs r e) in
    let ends = tabulate-set max_jobs (done rs) (done more) r.at _ l (sym (done_own r.at 0 rs r last refl)) (λ k e. done_other k rs r e) in
    λ x. totals x ∷ begins x ∷ ends x ∷ []

-- ---- the course of the first n rows, and of one more
module _ (rows : List Row) (h : Rising 0 rows) (n : ℕ) (here : n < length rows) (r : Row) (is : r ≡ get_or rows n no_row) where
  taken : take (n + 1) rows ≡ take n rows ++ (r ∷ [])
  taken = rw (add-one n, is) (take-suc rows n no_row here)

  pub last_taken : Last 0 (take n rows) r
  last_taken = rising_last 0 (take n rows) r (rw taken at (rising_take 0 rows h (n + 1)))

  -- no sum of a job's work goes beyond the row's end
  pub total_fits : (at : ℕ) → total (take n rows) at + (r.to - r.from) ≤ r.to
  total_fits at = omega (arith, total_le_end at 0 (take n rows) last_taken.rising, last_taken.after, last_taken.lasts)

  pub course-next : (course : List (List ℕ)) → course ≡ course_of (take n rows) → r.at < max_jobs
      → (work first : ℕ) → work ≡ total (take n rows) r.at → first ≡ cond (eqb work 0) r.from (begin (take n rows) r.at)
      → stored r.at (work + (r.to - r.from)) first r.to course ≡ course_of (take (n + 1) rows)
  course-next course e l work first p q = rw (e, q, p) (course_more (take n rows) r last_taken l ∙ ap course_of (sym taken))

-- ---- the rows of a recording
pub length-rows : (recording : Recording) → length recording.rows ≡ max_rows → recording.count ≤ max_rows → length (rows_of recording) ≡ recording.count
unfolding rows_of
length-rows recording full few = length-take-le recording.count recording.rows (omega arith)

pub row_at : (recording : Recording) (n : ℕ) → n < recording.count → get_or recording.rows n no_row ≡ get_or (rows_of recording) n no_row
unfolding rows_of
row_at recording n l = sym (get_or-take recording.count recording.rows n no_row l)
