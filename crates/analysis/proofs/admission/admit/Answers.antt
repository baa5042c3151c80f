-- `admit` answers `admission_of`: a refusal of the joining, or what the verdict on the joined set leaves. Assumes nothing.
use Rattle.std.specs.Prelude.{Result, Ok, Err, Bool, true, false}
use Rattle.analysis.proofs.Joining.{joined_refused, joined_passes, joined-set, joined_jobs, joined_accepted}
use Rattle.analysis.proofs.Meeting.{verdict_passed}
use Rattle.analysis.specs.Answers.{admission_of, verdict_by}
use Rattle.analysis.specs.declared.answer.Admission.{Admission}
use Rattle.jobs.specs.Jobs.{jobs_of, set_of}
use Rattle.jobs.specs.Joins.{with_chain}
use Rattle.jobs.specs.declared.job.Job.{Job}
use Rattle.jobs.specs.declared.set.JobSet.{JobSet}
use mathlib.Core.List.{List}
use mathlib.Core.Path.{◌≡◌, ap, ◌∙◌}
use Rattle.analysis.proofs.admission.admit.Goals as goal
use Rattle.jobs.specs.declared.refusal.Refusal.{Refusal}

-- the set that a verdict leaves
abbrev admitted : Result Bool Refusal → JobSet → JobSet → Admission
admitted verdict old joined =
    record { verdict = verdict; set = elim verdict [ Ok true ↦ joined | Ok false ↦ old | Err refusal ↦ old ] }

pub returns-in-Err : goal.returns-in-Err
unfolding admission_of
returns-in-Err c =
    let a = c.args in
    rw (joined_refused a.old a.new c.join.result c.join.ensures _ c.in-Err.is)

pub returns-in-Ok : goal.returns-in-Ok
unfolding admission_of
returns-in-Ok c =
    let a = c.args in
    let j = c.join in
    let s = c.in-Ok.joined in
    let p = c.in-Ok.is in
    let e : c.admitted.result ≡ admitted c.verdict.result a.old s = c.admitted.ensures in
    rw (joined_passes a.old a.new j.result j.ensures s p)
    (e
    ∙ ap (λ (s : JobSet). admitted c.verdict.result a.old s) (joined-set a.old a.new j.result j.ensures s p)
    ∙ ap (λ (v : Result Bool Refusal). admitted v a.old (set_of (with_chain (jobs_of a.old) (jobs_of a.new)))) (c.verdict.ensures ∙ verdict_passed _ _ (joined_accepted a.old a.new j.result j.ensures s p) ∙ ap (λ (js : List Job). verdict_by js a.algorithm) (joined_jobs a.old a.new j.result j.ensures s p)))
