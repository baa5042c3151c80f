-- What holds of a recording that was read: its rows are few, in order, and of jobs of the table. Assumes nothing.
--   Fine       this, of rows
--   Readable   this, of a recording
use Rattle.std.specs.Prelude.{Option, None, Some, Result, ⊤, Ok, Err}
use Prim.Native.Nat.{ℕ, ◌≤◌, ◌<◌}
use mathlib.Core.Path.{◌≡◌, refl, sym, ap, subst, ◌∙◌}
use mathlib.Core.Bool.{Bool, true, false, cond, ◌||◌}
use mathlib.Core.List.{List, [], ◌∷◌, ◌++◌}
use native.Mathlib.Omega.{arith}
use lib.Dec.{ltb, eqb}
use lib.ListN.{length, get_or, length-append, get_or-append}
use lib.Seq.{get_or-append-add}
use borrow.Author.Tests.{ltb-true, ne_eqb}
use Rattle.laws.specs.Words.{last_of}
use Rattle.laws.proofs.Tests.{by_last, and_parts}
use Rattle.laws.proofs.Lists.{get_d_padded}
use Rattle.jobs.specs.declared.job.Job.{Job}
use Rattle.jobs.specs.declared.refusal.Refusal.{Refusal}
use Rattle.jobs.specs.declared.refusal.Refusal.TheVariants.{MalformedRecording}
use Rattle.jobs.specs.Checks.{check_of}
use Rattle.table.specs.Lines.{lines_of, row_of, is_line}
use Rattle.recording.specs.declared.row.Row.{Row}
use Rattle.recording.specs.declared.reading.Recording.{Recording}
use Rattle.recording.specs.Rows.{no_row, follows, in_order}
use Rattle.recording.specs.Reading.{header, columns, max_rows, row_in, is_next_row, recording_with, rows_from, under_header, recording_of, rows_of}
use Rattle.recording.proofs.Order.{order_snoc}
use Rattle.recording.proofs.Recordings.{rows_with}

pub record Fine (n : ℕ) (rows : List Row) : Type 0 where
  pub few : length rows ≤ max_rows
  pub order : in_order rows ≡ true
  pub inside : (i : ℕ) → i < length rows → (get_or rows i no_row).at < n

pub record Readable (n : ℕ) (recording : Recording) : Type 0 where
  pub few : recording.count ≤ max_rows
  pub order : in_order (rows_of recording) ≡ true
  pub inside : (i : ℕ) → i < recording.count → (get_or recording.rows i no_row).at < n

-- ---- one row more
fine_none : (n : ℕ) → Fine n []
unfolding in_order
fine_none n = record { few = omega arith; order = refl; inside = λ i l. absurd (omega arith) }

record Next (n : ℕ) (before : List Row) (r : Row) : Type 0 where
  at : r.at < n
  long : r.from < r.to
  behind : 0 < length before → follows (last_of no_row before) r ≡ true

next_parts : (n : ℕ) (before : List Row) (r : Row) → is_next_row n (length before) (last_of no_row before) r ≡ true → Next n before r
unfolding is_next_row
next_parts n before r h =
    let all = and_parts h in
    let own = and_parts all.0 in
    let last : eqb (length before) 0 || follows (last_of no_row before) r ≡ true = all.1 in
    record {
      at = ltb-true r.at n own.0;
      long = ltb-true r.from r.to own.1;
      behind = λ Some. rw (ne_eqb (length before) 0 (λ z. omega arith)) at last;
    }

fine_more : (n : ℕ) (before : List Row) (r : Row) → Fine n before → length before < max_rows → Next n before r → Fine n (before ++ (r ∷ []))
fine_more n before r f room x =
    record {
      few = omega (arith, length-append before (r ∷ []));
      order = order_snoc before r f.order x.long x.behind;
      inside = λ i l. by_last i (length before) (omega (arith, length-append before (r ∷ [])))
          (λ e. subst (λ (k : ℕ). (get_or (before ++ (r ∷ [])) k no_row).at < n) (sym e) (rw last_at x.at))
          (λ m. rw (get_or-append before (r ∷ []) no_row i m) (f.inside i m));
    }
  where
    last_at : get_or (before ++ (r ∷ [])) (length before) no_row ≡ r
    last_at = ap (λ (k : ℕ). get_or (before ++ (r ∷ [])) k no_row) (omega arith) ∙ get_or-append-add before (r ∷ []) 0 no_row

-- ---- a recording that passes holds such rows
abbrev Passes : ℕ → Result Recording Refusal → Type 0
Passes n answer = (recording : Recording) → answer ≡ Ok recording → (rows : List Row) × (recording ≡ recording_with rows) × Fine n rows

refused_passes : (n : ℕ) (x : Refusal) → Passes n (Err x)
refused_passes n x recording p = let z : ◌≡◌ {A = ℕ} 0 1 = cc in absurd (omega arith)

after_test : (n : ℕ) (b : Bool) (rest : Result Recording Refusal) (x : Refusal) → (b ≡ true → Passes n rest) → Passes n (cond b rest (Err x))
after_test n true rest x f = f refl
after_test n false rest x f = refused_passes n x

after-row : (n : ℕ) (r : Option (List ℕ)) (x : Refusal) (rest : List ℕ → Result Recording Refusal) → ((values : List ℕ) → Passes n (rest values))
    → Passes n (elim r [ None ↦ Err x | Some values ↦ rest values ])
after-row n (Some values) x rest f = f values
after-row n None x rest f = refused_passes n x

module _ (js : List Job) where
  rows_pass : (before : List Row) (lines : List (List ℕ)) → Fine (length js) before → Passes (length js) (rows_from js before lines)
  unfolding rows_from
  rows_pass before [] f = λ recording p. (before, cc, f)
  rows_pass before (line ∷ lines) f =
      after_test (length js) (ltb (length before) max_rows) _ _
      (λ room. after-row (length js) (row_of columns line) _ _
      (λ values. after_test (length js) (is_next_row (length js) (length before) (last_of no_row before) (row_in js values)) _ _
      (λ next. rows_pass (before ++ (row_in js values ∷ [])) lines
      (fine_more (length js) before (row_in js values) f (ltb-true (length before) max_rows room) (next_parts (length js) before (row_in js values) next)))))

  under_passes : (lines : List (List ℕ)) → Passes (length js) (under_header js lines)
  under_passes [] = refused_passes (length js) MalformedRecording
  under_passes (line ∷ lines) = after_test (length js) (is_line header line) (rows_from js [] lines) MalformedRecording (λ is. rows_pass [] lines (fine_none (length js)))

  by_check : (check : Result ⊤ Refusal) (text : List ℕ) → check_of js ≡ check → Passes (length js) (recording_of js text)
  unfolding recording_of
  by_check (Ok tt) text e = rw e (under_passes (lines_of text))
  by_check (Err x) text e = rw e (refused_passes (length js) x)

  pub recording_fine : (text : List ℕ) (recording : Recording) → recording_of js text ≡ Ok recording → Fine (length js) (rows_of recording)
  recording_fine text recording p =
      let read = by_check (check_of js) text refl recording p in
      subst (Fine (length js)) (sym (ap rows_of read.1 ∙ rows_with read.0)) read.2

  pub recording_readable : (text : List ℕ) (recording : Recording) → recording_of js text ≡ Ok recording → Readable (length js) recording
  recording_readable text recording p =
      let read = by_check (check_of js) text refl recording p in
      subst (Readable (length js)) (sym read.1) (readable read.0 read.2)
    where
      readable : (rows : List Row) → Fine (length js) rows → Readable (length js) (recording_with rows)
      readable rows f =
          record {
            few = f.few;
            order = rw (rows_with rows) f.order;
            inside = λ i l. rw (get_d_padded max_rows no_row rows i) (f.inside i l);
          }
