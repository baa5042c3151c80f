-- The text of the delays that ITR answers, which hold no delay beyond the jobs: it is the blocks text. Assumes nothing.
use Prim.Native.Nat.{ℕ, zero, suc}
use mathlib.Core.List.{List, ◌++◌}
use mathlib.Core.Path.{◌≡◌, refl, ap, ap₂, ◌∙◌}
use lib.ListN.{length}
use Rattle.laws.specs.Words.{padded}
use Rattle.laws.proofs.Lists.{get_d_padded}
use Rattle.jobs.specs.declared.job.Job.{Job}
use Rattle.jobs.specs.declared.set.JobSet.{JobSet}
use Rattle.std.specs.Prelude.{Ok, Err}
use Rattle.jobs.specs.declared.refusal.Refusal.{Refusal}
use Rattle.jobs.specs.Limits.{max_jobs}
use Rattle.jobs.specs.Jobs.{job_at, jobs_of, chains_of}
use Rattle.jobs.specs.Checks.{check_of}
use Rattle.theory.specs.Table.{table_of}
use Rattle.theory.specs.Delays.{itr_delay}
use Rattle.completion.specs.declared.answer.Delay.{Delay}
use Rattle.completion.specs.declared.answer.Itr.{Itr}
use Rattle.completion.specs.Delays.{no_delay, delays_named}
use Rattle.completion.specs.Answers.{itr_of}
use Rattle.texts.specs.Lines.{lines_text}
use Rattle.blocks.specs.Texts.{blocks_header, job_rows, blocks_rows, delays_text, blocks_text}

-- rows do not show what stands beyond
rows-padded : (js : List Job) (delays : List Delay) (n : ℕ) → blocks_rows js (padded max_jobs no_delay delays) n ≡ blocks_rows js delays n
unfolding blocks_rows
rows-padded js delays zero = refl
rows-padded js delays (suc n) =
    ap₂ ◌++◌ (rows-padded js delays n) (ap (job_rows (chains_of js) (job_at js n)) (get_d_padded max_jobs no_delay delays n))

itr_delays : (set : JobSet) (answer : Itr) → Ok answer ≡ itr_of set → check_of (jobs_of set) ≡ Ok tt
    → answer.delays ≡ padded max_jobs no_delay (delays_named (jobs_of set) (itr_delay (table_of (jobs_of set))))
unfolding itr_of
itr_delays set answer e passed = let is = rw passed at e in cc

-- an accepted set has bounds
pub itr_some : (set : JobSet) (refusal : Refusal) → Err refusal ≡ itr_of set → check_of (jobs_of set) ≡ Ok tt → ⊥
unfolding itr_of
itr_some set refusal e passed = let is = rw passed at e in cc

pub named_text : (set : JobSet) (answer : Itr) → Ok answer ≡ itr_of set → check_of (jobs_of set) ≡ Ok tt
    → delays_text (jobs_of set) answer.delays ≡ blocks_text (jobs_of set)
unfolding blocks_text
named_text set answer is passed =
    let js = jobs_of set in
    ap (delays_text js) (itr_delays set answer is passed)
    ∙ ap (λ rows. blocks_header ++ lines_text rows) (rows-padded js (delays_named js (itr_delay (table_of js))) (length js))
