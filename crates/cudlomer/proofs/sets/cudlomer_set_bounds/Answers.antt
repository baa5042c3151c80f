-- `cudlomer_set_bounds` answers `bounds_code`, and leaves `bounds_into`. Assumes nothing.
use Rattle.cudlomer.proofs.Bounding.{bounds_refused, bounds_few, bounds_room, bounds_done}
use Rattle.cudlomer.proofs.Negation.{handed_on}
use lib.Seq.{length-take-le}
use mathlib.Core.Path.{sym, ◌∙◌}
use native.Mathlib.Omega.{arith}
use Rattle.cudlomer.proofs.sets.cudlomer_set_bounds.Goals as goal

pub returns-in-Err : goal.returns-in-Err
returns-in-Err c =
    let held = c.held_set-set.ensures in
    let refused = bounds_refused _ _ _ _ (sym c.in-Err.is ∙ c.bounds_alone.ensures) in
    rw (← held) (handed_on (record { sfits = c.negated.type_inv }) c.negated.ensures ∙ refused.0, refused.1)

pub slice_bounds-bounds-end : goal.slice_bounds-bounds-end
slice_bounds-bounds-end c = bounds_room _ _ _ (sym c.in-Ok.is ∙ c.bounds_alone.ensures)

pub slice_bounds-put-end : goal.slice_bounds-put-end
slice_bounds-put-end c = sym (length-take-le _ _ (bounds_room _ _ _ (sym c.in-Ok.is ∙ c.bounds_alone.ensures)))

pub checked_code-requires : goal.checked_code-requires
checked_code-requires c = omega (arith, bounds_few _ _ _ (sym c.in-Ok.is ∙ c.bounds_alone.ensures))

pub returns-in-Ok : goal.returns-in-Ok
returns-in-Ok c =
    let held = c.held_set-set.ensures in
    let done = bounds_done _ _ _ (sym c.in-Ok.is ∙ c.bounds_alone.ensures) _ _ _ c.put.ensures in
    rw (← held) (handed_on (record { sfits = c.checked_code.type_inv }) c.checked_code.ensures ∙ done.0, done.1)
