-- `row_of` answers `row_in`. Assumes nothing.
use Prim.Native.Nat.{ℕ}
use Rattle.jobs.proofs.Accepted.{accepted}
use Rattle.jobs.specs.Jobs.{jobs_of, place_in}
use Rattle.jobs.specs.Limits.{max_jobs}
use Rattle.jobs.specs.declared.job.Job.{Job}
use Rattle.recording.specs.Rows.{row}
use lib.ListN.{get_or}
use lib.Seq.{take_all}
use mathlib.Core.List.{List}
use mathlib.Core.Path.{ap, ◌∙◌}
use Rattle.recording.proofs.reading.row_of.Goals as goal

pub returns : goal.returns
returns c =
    let a = c.args in
    let at = get_or a.values in
    let held = take_all max_jobs (jobs_of a.set) (accepted (jobs_of a.set) c.requires).few in
    ap (λ (place : ℕ). row place (at 2 0) (at 3 0)) (c.place_of-at.ensures ∙ ap (λ (js : List Job). place_in js (at 0 0) (at 1 0)) held)
