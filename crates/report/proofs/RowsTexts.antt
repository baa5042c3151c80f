-- The rows of the bounds text, one after another. Assumes nothing.
use Prim.Native.Nat.{ℕ}
use mathlib.Core.List.{List}
use lib.IntN.{ℤ}
use Rattle.jobs.specs.declared.job.Job.{Job}
use Rattle.jobs.specs.declared.set.JobSet.{JobSet}
use Rattle.analysis.specs.declared.answer.Figures.{Figures}
use Rattle.report.specs.Texts.{bounds_row}
use Rattle.texts.proofs.Lines.{lines_up_to}

-- the lines of the first rows
abbrev pub bounds_rows : List Job → List ℕ → List ℕ → List ℕ → List ℤ → ℕ → List ℕ
bounds_rows js ert cja itr slacks n = lines_up_to (bounds_row js ert cja itr slacks) n

-- the row of a set's figures at a place, and the lines of the first of them
abbrev pub figure_row : JobSet → Figures → ℕ → List ℤ
figure_row s f n = bounds_row s.jobs f.ert f.cja f.itr f.slacks n

abbrev pub first_rows : JobSet → Figures → ℕ → List ℕ
first_rows s f n = lines_up_to (figure_row s f) n
