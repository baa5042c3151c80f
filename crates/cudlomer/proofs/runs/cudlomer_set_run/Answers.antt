-- `cudlomer_set_run` answers `run_code`, and leaves `run_into`. Assumes nothing.
use Rattle.cudlomer.proofs.Negation.{handed_on}
use Rattle.cudlomer.proofs.Running.{run_refused, run_room, run_end, run-done}
use Rattle.jobs.proofs.Sets.{length_jobs}
use lib.Seq.{length-take-le}
use mathlib.Core.Path.{sym, ◌∙◌}
use native.Mathlib.Omega.{arith}
use Rattle.cudlomer.proofs.runs.cudlomer_set_run.Goals as goal

pub returns-in-Err : goal.returns-in-Err
returns-in-Err c =
    let refused = run_refused _ _ _ c.run.ensures _ _ c.in-Err.is in
    rw (← c.held_set-set.ensures) (handed_on (record { sfits = c.negated.type_inv }) c.negated.ensures ∙ refused.0, refused.1)

pub shared_ref_as_front-put : goal.shared_ref_as_front-put
shared_ref_as_front-put c = omega (arith, length_jobs c.held_set-set.result, run_room _ _ _ c.run.ensures _ c.in-Ok.is)

pub slice_bounds-put-end : goal.slice_bounds-put-end
slice_bounds-put-end c =
    sym (length-take-le _ _ (omega (arith, length_jobs c.held_set-set.result, run_room _ _ _ c.run.ensures _ c.in-Ok.is)))

pub checked_code-requires : goal.checked_code-requires
checked_code-requires c = omega (arith, run_end _ _ _ c.run.ensures _ c.in-Ok.is)

pub returns : goal.returns
returns c =
    let s = c.held_set-set in
    let done = run-done _ _ _ c.run.ensures _ c.in-Ok.is _ _ _ _ (sym (length_jobs s.result)) c.put.ensures in
    rw (← s.ensures) (handed_on (record { sfits = c.checked_code.type_inv }) c.checked_code.ensures ∙ done.0, done.1)
