-- The figures of an accepted set as the rows of its bounds text. Assumes nothing.
use Prim.Native.Nat.{ℕ, ◌≤◌}
use mathlib.Core.List.{List, ◌++◌}
use mathlib.Core.Path.{◌≡◌, sym, ap, ◌∙◌}
use native.Mathlib.Omega.{arith}
use lib.IntN.{ℤ, pos}
use Rattle.laws.specs.Words.{padded}
use Rattle.laws.proofs.Lists.{get_d_padded}
use Rattle.laws.proofs.Tabulate.{tabulate_ext}
use Rattle.jobs.specs.declared.set.JobSet.{JobSet}
use Rattle.std.specs.Prelude.{Ok, Err}
use Rattle.jobs.specs.Limits.{max_jobs}
use Rattle.jobs.specs.Jobs.{jobs_of}
use Rattle.jobs.specs.Checks.{check_of}
use Rattle.jobs.proofs.Sets.{length_jobs, job_at_lem}
use Rattle.analysis.specs.declared.answer.Figures.{Figures}
use Rattle.jobs.specs.declared.refusal.Refusal.{Refusal}
use Rattle.analysis.specs.Answers.{figures_of}
use Rattle.theory.specs.Table.{table_of}
use Rattle.theory.specs.Bounds.{ert, cja, itr, slacks}
use Rattle.texts.specs.Lines.{lines_text}
use Rattle.report.specs.Texts.{bounds_header, bounds_row, bounds_text}
use Rattle.report.proofs.RowsTexts.{bounds_rows, first_rows}

-- ---- arrays that hold no more than their lists give the same rows
rows-padded : (s : JobSet) (by_ert by_cja by_itr : List ℕ) (each : List ℤ) (n : ℕ) → n ≤ s.count
    → bounds_rows s.jobs (padded max_jobs 0 by_ert) (padded max_jobs 0 by_cja) (padded max_jobs 0 by_itr) (padded max_jobs (pos 0) each) n ≡ bounds_rows (jobs_of s) by_ert by_cja by_itr each n
rows-padded s by_ert by_cja by_itr each n h =
    ap lines_text
    (tabulate_ext 0 n (bounds_row s.jobs (padded max_jobs 0 by_ert) (padded max_jobs 0 by_cja) (padded max_jobs 0 by_itr) (padded max_jobs (pos 0) each)) (bounds_row (jobs_of s) by_ert by_cja by_itr each)
    (λ k _ l. rw (get_d_padded max_jobs 0 by_ert k, get_d_padded max_jobs 0 by_cja k, get_d_padded max_jobs 0 by_itr k, get_d_padded max_jobs (pos 0) each k, job_at_lem s k (omega arith))))

-- the rows of a set's figures
abbrev pub figure_rows : JobSet → Figures → List ℕ
figure_rows s figures = first_rows s figures s.count

figures_are : (s : JobSet) (figures : Figures) → Ok figures ≡ figures_of s → check_of (jobs_of s) ≡ Ok tt
    → let js = jobs_of s in
    let t = table_of js in
    figures ≡ record { ert = padded max_jobs 0 (ert t); cja = padded max_jobs 0 (cja t); itr = padded max_jobs 0 (itr t).bounds; rounds = (itr t).rounds; slacks = padded max_jobs (pos 0) (slacks js) }
unfolding figures_of
figures_are s figures e passed = let is = rw passed at e in cc

-- an accepted set has figures
pub figures_some : (s : JobSet) (refusal : Refusal) → Err refusal ≡ figures_of s → check_of (jobs_of s) ≡ Ok tt → ⊥
unfolding figures_of
figures_some s refusal e passed = let is = rw passed at e in cc

pub figures_text : (s : JobSet) (figures : Figures) → Ok figures ≡ figures_of s → check_of (jobs_of s) ≡ Ok tt → bounds_header ++ figure_rows s figures ≡ bounds_text (jobs_of s)
unfolding bounds_text
figures_text s figures e passed =
    let js = jobs_of s in
    let t = table_of js in
    ap (λ (l : List ℕ). bounds_header ++ l)
    (ap (figure_rows s) (figures_are s figures e passed) ∙ rows-padded s (ert t) (cja t) (itr t).bounds (slacks js) s.count (omega arith)
    ∙ ap (bounds_rows js (ert t) (cja t) (itr t).bounds (slacks js)) (sym (length_jobs s)))
